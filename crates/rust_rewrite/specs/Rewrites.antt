-- The text of a parse with the matches of rules replaced.
use Rattle.std.specs.Prelude.{◌≡◌, ℕ, suc, ◌≤◌, ⊤, Bool, true, false, ◌&&◌, ◌||◌, List, [], ◌∷◌, length, map, nat_le, nat_lt, if◌then◌else◌, Option, Some, None, is_none, slice_get}
use Rattle.std.specs.List.{list_any}
use Rattle.syntax_kind.specs.declared.syntax_kind.SyntaxKind.{SyntaxKind}
use Rattle.syntax_kind.specs.declared.syntax_kind.TheConstants.SyntaxKind.{COMMENT, INNER_DOC_COMMENT, OUTER_DOC_COMMENT}
use Rattle.text_size.specs.TextRange.{Bounds}
use Rattle.text_edit.specs.Replacements.{Replacement, edited}
use Rattle.syntax_kind.specs.Kinds.{is_same_kind}
use Rattle.tree_model.specs.Tree.{text, kind_of}
use Rattle.tree_model.specs.Cursor.{Cursor, focus, range_start, descendants_of}
use Rattle.tree_model.specs.Edit.{root_of}
use Rattle.lossless_tree.specs.declared.cursor.element.NodeOrToken.{NodeOrToken}
use Rattle.lossless_tree.specs.Element.{cursor_of, element_of}
use Rattle.ras_front_end.specs.declared.edition.Entry.TheVariants.{SourceFile}
use Rattle.ras_front_end.specs.declared.edition.Edition.{Edition}
use Rattle.ras_front_end.specs.Front.{Front}
use Rattle.ras_front_end.specs.Parsed.{Parsed, IsParseOf}
use Rattle.ras_parsing.specs.AllErrors.{all_errors}
use Rattle.tree_match.specs.declared.rule.Rule.{Rule}
use Rattle.tree_match.specs.Finds.{Occurrence, occurrence_of, found_in, inside_of}
use Rattle.tree_match.specs.Matching.{sort_by}
use Rattle.tree_match.specs.Reads.{AllRead}
use Rattle.rust_parens.specs.declared.needless.Tried.{Tried}
use Rattle.rust_parens.specs.Needless.{AreTriedAmong}
use Rattle.rust_rewrite.specs.Exposed.{exposes}
use Rattle.rust_rewrite.specs.declared.refusal.RewriteError.{RewriteError}
use Rattle.rust_rewrite.specs.declared.refusal.Failure.{Failure}
use Rattle.rust_rewrite.specs.declared.refusal.Failure.TheVariants as failure
use Rattle.rust_rewrite.specs.declared.refusal.RewriteError.TheVariants.{ReadsOtherwise, LosesComment, TooLong, Memory}

-- the ranges of matches that are in no other match: those that start where the one before ends, or
-- later
abbrev pub outermost : ℕ → List Occurrence → List Bounds
outermost n [] = []
outermost n (m ∷ ms) = if nat_le n m.range.start then m.range ∷ outermost m.range.end ms else outermost n ms

abbrev pub ranges_of : List Replacement → List Bounds
ranges_of es = map (λ e. e.delete) es

-- the text parses to the tree of the old one in which each match is its rule's template, with what
-- its placeholders stand for put in, but for white space, comments and pairs of parentheses; with
-- no more errors, those of validation among them; and with nothing that rustc refuses or reads
-- otherwise, unless the old one had such a thing
pub record ReadsAs (front : Front) (edition : Edition) (rules : List Rule) (old : Parsed) (s : List ℕ) : Type 0 where
  pub parse : Parsed
  pub is_parse : IsParseOf s (front.parsed SourceFile edition s) parse
  pub errors : length (all_errors parse) ≤ length (all_errors old)
  pub patterns : exposes edition (root_of old.tree) (root_of parse.tree) ≡ false
  pub reads : AllRead rules (inside_of (root_of old.tree)) (inside_of (root_of parse.tree))

-- the text is the old one with the outermost matches replaced, and nothing else, and reads as it is
-- meant
pub record IsRewrite (front : Front) (edition : Edition) (rules : List Rule) (old : Parsed) (found : List Occurrence) (edit : List Replacement) (s : List ℕ) : Type 0 where
  pub matches : found ≡ found_in rules (root_of old.tree)
  pub places : ranges_of edit ≡ outermost 0 found
  pub text : s ≡ edited (text old.tree) edit
  pub reads_as : ReadsAs front edition rules old s

-- the text without the pairs, or the full one if none goes
abbrev pub IsTextOf : List ℕ → Option (List ℕ) → List ℕ → Type 0
IsTextOf full None s = s ≡ full
IsTextOf full (Some t) s = s ≡ t

-- Some text with pairs of parentheses was parsed, and some of its pairs were tried: those that
-- could go are not in the new text, and each other one was refused beside them.
pub record WithoutNeedless (front : Front) (edition : Edition) (s : List ℕ) : Type 0 where
  pub full : List ℕ
  pub parse : Parsed
  pub is_parse : IsParseOf full (front.parsed SourceFile edition full) parse
  pub candidates : List Cursor
  pub going : List Cursor
  pub tried : List Tried
  pub without : Option (List ℕ)
  pub were_tried : AreTriedAmong front SourceFile edition parse candidates going tried without
  pub all : length tried ≡ length candidates
  pub is_text : IsTextOf full without s

-- ---- comments that would be lost

-- a node or token
abbrev pub Element : Type 0
Element = NodeOrToken Cursor Cursor

-- a comment, also one of documentation
abbrev pub is_comment_kind : SyntaxKind → Bool
is_comment_kind k =
    (is_same_kind k COMMENT || is_same_kind k INNER_DOC_COMMENT) || is_same_kind k OUTER_DOC_COMMENT

abbrev pub is_comment : Element → Bool
is_comment x = is_comment_kind (kind_of (focus (cursor_of x)))

-- where those of some nodes and tokens start that are comments
abbrev pub starts_of : List Element → List ℕ
starts_of [] = []
starts_of (x ∷ xs) = if is_comment x then range_start (cursor_of x) ∷ starts_of xs else starts_of xs

-- where the comments of a tree start
abbrev pub comment_starts : Cursor → List ℕ
comment_starts root = starts_of (map element_of (descendants_of root))

abbrev pub is_in : Bounds → ℕ → Bool
is_in r n = nat_le r.start n && nat_lt n r.end

-- one of them starts in a range
abbrev pub has_comment : List ℕ → Bounds → Bool
has_comment starts r = list_any (is_in r) starts

-- a comment is in what stands for the placeholder with a number, and the template of a form of the
-- rule has not that placeholder
abbrev pub loses_value : List ℕ → Rule → ℕ → ℕ → Option Bounds → Bool
loses_value starts rule form n None = false
loses_value starts rule form n (Some r) = is_none (sort_by (slice_get rule.forms.items form) n) && has_comment starts r

-- one of the placeholders from this number on
abbrev pub loses_from : List ℕ → Rule → ℕ → ℕ → List (Option Bounds) → Bool
loses_from starts rule form n [] = false
loses_from starts rule form n (v ∷ vs) = loses_value starts rule form n v || loses_from starts rule form (suc n) vs

abbrev pub loses_by : List ℕ → Option Rule → Occurrence → Bool
loses_by starts None m = false
loses_by starts (Some rule) m = loses_from starts rule m.form 0 m.values

-- one of some matches
abbrev pub loses_any : List Rule → List ℕ → List Occurrence → Bool
loses_any rules starts ms = list_any (λ m. loses_by starts (slice_get rules m.rule) m) ms

-- a comment would be lost where the matches in a tree are replaced
abbrev pub loses_comment : List Rule → Cursor → Bool
loses_comment rules root = loses_any rules (comment_starts root) (found_in rules root)

-- why there is no new text: a comment would be lost; or none would be, and there is another reason;
-- or memory ran out
abbrev pub IsRefused : List Rule → Cursor → RewriteError → Type 0
IsRefused rules root LosesComment = loses_comment rules root ≡ true
IsRefused rules root ReadsOtherwise = loses_comment rules root ≡ false
IsRefused rules root TooLong = loses_comment rules root ≡ false
IsRefused rules root Memory = ⊤

-- the same of a list of matches
abbrev pub IsCommentLost : Bool → RewriteError → Type 0
IsCommentLost lost LosesComment = lost ≡ true
IsCommentLost lost ReadsOtherwise = ⊥
IsCommentLost lost TooLong = ⊥
IsCommentLost lost Memory = ⊤

-- the error of a failure
abbrev pub error_of : Failure → RewriteError
error_of failure.ReadsOtherwise = ReadsOtherwise
error_of failure.TooLong = TooLong
error_of failure.Memory = Memory
