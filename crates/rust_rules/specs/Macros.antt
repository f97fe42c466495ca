-- The arguments of macro calls, which of them are read, and what is found and replaced in them.
use Rattle.std.specs.Prelude.{◌≡◌, ℕ, zero, suc, ◌+◌, ◌-◌, ◌^◌, Bool, false, ◌&&◌, if◌then◌else◌, nat_le, nat_lt, List, [], ◌∷◌, ◌++◌, length, map, reverse, codes, Option, Some, None, option_map, IsCharBoundary, string_bytes}
use Rattle.std.specs.List.{filter, filter_map, find, slice_range}
use Rattle.std.specs.List.Sorted.{IsPermutation, IsSortedByKey}
use Rattle.std.specs.Ordering.{nat_cmp, ordering_then}
use Rattle.std.specs.declared.cmp.Ordering.{Ordering}
use Rattle.syntax_kind.specs.Kinds.{is_same_kind}
use Rattle.syntax_kind.specs.declared.syntax_kind.TheConstants.SyntaxKind.{TOKEN_TREE, MACRO_CALL}
use Rattle.text_size.specs.TextRange.{Bounds}
use Rattle.text_edit.specs.Replacements.{Replacement, with_all, edited}
use Rattle.tree_model.specs.Tree.{kind_of}
use Rattle.tree_model.specs.Cursor.{Cursor, focus, range_start, range_end, at_node, at_token, parent_of, descendants_of}
use Rattle.tree_model.specs.Edit.{root_of}
use Rattle.ras_front_end.specs.Parsed.{Parsed}
use Rattle.ras_parsing.specs.AllErrors.{all_errors}
use Rattle.rust_front.specs.Front.{rust_front}
use Rattle.tree_match.specs.declared.rule.Rule.{Rule}
use Rattle.tree_match.specs.Finds.{Occurrence, occurrence_of, found_in}
use Rattle.rust_rewrite.specs.declared.applied.Rewritten.{Rewritten}
use Rattle.rust_rewrite.specs.Rewrites.{IsRewrite, WithoutNeedless}
use Rattle.rust_print.specs.declared.source.Reading.{Reading}
use Rattle.rust_print.specs.Readings.{IsReadAs}
use Rattle.rust_rules.specs.declared.within.Found.{Found}
use Rattle.rust_rules.specs.declared.within.Change.{Change}
use Rattle.rust_rules.specs.declared.within.Replaced.{Replaced}

-- ---- which lists there are, and what they are read as

-- between the end of the one token and the start of the other, if anything is
abbrev pub between : Option Cursor → Option Cursor → Option Bounds
between None b = None
between (Some a) None = None
between (Some a) (Some b) = if nat_lt (range_end a) (range_start b) then Some (record { start = range_end a; end = range_start b }) else None

-- what is between the first token of a node and its last one
abbrev pub inside_tokens : Cursor → Option Bounds
inside_tokens c = between (find at_token (descendants_of c)) (find at_token (reverse (descendants_of c)))

-- a node is a tree of tokens, and what it is a child of is a macro call
abbrev pub is_list_in : Cursor → Option Cursor → Bool
is_list_in c None = false
is_list_in c (Some p) = is_same_kind (kind_of (focus c)) TOKEN_TREE && is_same_kind (kind_of (focus p)) MACRO_CALL

-- the arguments of a macro call, at the tree of tokens that has them
abbrev pub list_at : Cursor → Option Bounds
list_at c = if is_list_in c (parent_of c) then inside_tokens c else None

-- the arguments of the macro calls of a tree, in preorder
abbrev pub lists_in : Cursor → List Bounds
lists_in root = filter_map list_at (filter at_node (descendants_of root))

-- the text of a range; nothing if it is not between characters, as that of tokens is
pub record IsTextIn (s : List ℕ) (r : Bounds) (t : List ℕ) : Type 0 where
  pub some : IsCharBoundary s r.start → IsCharBoundary s r.end → t ≡ slice_range s r.start r.end
  pub none : (IsCharBoundary s r.start × IsCharBoundary s r.end → ⊥) → t ≡ []

-- what is before the arguments in the file that they are read as, and what is behind them
abbrev pub before : List ℕ
before = codes "const _: () = ["

abbrev pub behind : List ℕ
behind = 10 ∷ codes "];"

-- the file that arguments are read as
pub record IsFileOf (s : List ℕ) (list : Bounds) (file : List ℕ) : Type 0 where
  pub arguments : List ℕ
  pub are_in : IsTextIn s list arguments
  pub is : file ≡ before ++ (arguments ++ behind)

-- arguments are read as the list that their file is, if its parse has no error
pub record IsList (r : Reading) (file : List ℕ) (p : Parsed) : Type 0 where
  pub is_read : IsReadAs r file p
  pub no_errors : all_errors p ≡ []

pub record IsNoList (r : Reading) (file : List ℕ) : Type 0 where
  pub parse : Parsed
  pub is_read : IsReadAs r file parse
  pub errors : all_errors parse ≡ [] → ⊥

abbrev pub IsListRead : Reading → List ℕ → Option Parsed → Type 0
IsListRead r file None = IsNoList r file
IsListRead r file (Some p) = IsList r file p

-- where a range of a file of arguments is in the text that they are arguments in; none if it is not
-- in the arguments
abbrev pub outward : Bounds → Bounds → Option Bounds
outward list r =
    if nat_le 15 r.start && nat_le (list.start + (r.end - 15)) list.end
    then Some (record { start = list.start + (r.start - 15); end = list.start + (r.end - 15) }) else None

-- ---- what is in each of them

-- what is in the file of a list of arguments, at its places in the text; nothing if it is not read
-- as a list
abbrev pub IsInFile : {A : Type 0} → (List ℕ → Parsed → List A → Type 0) → (A → Option A) → List ℕ → Option Parsed → List A → Type 0
IsInFile In move file None out = out ≡ []
IsInFile {A} In move file (Some p) out = (inner : List A) × In file p inner × (out ≡ filter_map move inner)

-- what is in one list of arguments of a text
pub record IsInOne {A : Type 0} (r : Reading) (In : List ℕ → Parsed → List A → Type 0) (move : Bounds → A → Option A) (s : List ℕ)
    (list : Bounds) (out : List A) : Type 0 where
  pub file : List ℕ
  pub is_file : IsFileOf s list file
  pub parse : Option Parsed
  pub is_parse : IsListRead r file parse
  pub is_in : IsInFile In (move list) file parse out

-- what is in some lists, one after the other
abbrev pub AreInEach : {A : Type 0} → Reading → (List ℕ → Parsed → List A → Type 0) → (Bounds → A → Option A) → List ℕ → List Bounds → List A → Type 0
AreInEach r In move s [] out = out ≡ []
AreInEach {A} r In move s (list ∷ lists) out =
    (one : List A) × (rest : List A) × IsInOne r In move s list one × AreInEach r In move s lists rest × (out ≡ one ++ rest)

-- what is in the lists of a parse, so many deep; `Of` says what is in a file, if one knows what is
-- in the lists of it
abbrev pub AreInLists : {A : Type 0} → Reading → ((List ℕ → Parsed → List A → Type 0) → List ℕ → Parsed → List A → Type 0)
    → (Bounds → A → Option A) → ℕ → List ℕ → Parsed → List A → Type 0
AreInLists r Of move zero s p out = out ≡ []
AreInLists r Of move (suc n) s p out = AreInEach r (Of (AreInLists r Of move n)) move s (lists_in (root_of p.tree)) out

-- ---- what is found

abbrev pub found_of : Occurrence → Found
found_of m = record { rule = m.rule; range = m.range }

abbrev pub found_outward : Bounds → Found → Option Found
found_outward list f = option_map (λ r. record { rule = f.rule; range = r }) (outward list f.range)

-- the matches in a parse, and behind them those in its lists
pub record AreFoundOf (rules : List Rule) (InLists : List ℕ → Parsed → List Found → Type 0) (s : List ℕ) (p : Parsed) (found : List Found) : Type 0 where
  pub inner : List Found
  pub are_inner : InLists s p inner
  pub all : found ≡ map found_of (found_in rules (root_of p.tree)) ++ inner

abbrev pub AreFoundInLists : Reading → List Rule → ℕ → List ℕ → Parsed → List Found → Type 0
AreFoundInLists r rules n = AreInLists r (AreFoundOf rules) found_outward n

-- by where they start; of those that start together the longest comes first, and then by the
-- numbers of the rules
abbrev pub place_key : Found → ℕ × ℕ × ℕ
place_key f = (f.range.start, (2 ^ 32 - 1) - f.range.end, f.rule)

abbrev pub place_cmp : ℕ × ℕ × ℕ → ℕ × ℕ × ℕ → Ordering
place_cmp a b = ordering_then (ordering_then (nat_cmp a.0 b.0) (nat_cmp a.1 b.1)) (nat_cmp a.2 b.2)

-- the matches in a text, and in the lists of it eight deep, in the order of the text
pub record AreFoundWithin (r : Reading) (rules : List Rule) (s : List ℕ) (found : List Found) : Type 0 where
  pub parse : Parsed
  pub is_read : IsReadAs r s parse
  pub all : List Found
  pub are_all : AreFoundOf rules (AreFoundInLists r rules 8) s parse all
  pub same : IsPermutation all found
  pub sorted : IsSortedByKey place_key place_cmp found

pub record IsNumberWithin (r : Reading) (rules : List Rule) (s : List ℕ) (n : ℕ) : Type 0 where
  pub found : List Found
  pub are_found : AreFoundWithin r rules s found
  pub number : n ≡ length found

-- ---- what is replaced

abbrev pub replacement_of : Change → Replacement
replacement_of c = record { insert = string_bytes c.text; delete = c.found.range }

-- the edit that changes are, put together one after the other
abbrev pub together : List Change → List Replacement
together cs = with_all [] (map replacement_of cs)

-- a text with changes made
abbrev pub changed : List ℕ → List Change → List ℕ
changed s cs = edited s (together cs)

abbrev pub change_outward : Bounds → Change → Option Change
change_outward list c = option_map (λ r. record { found = record { rule = c.found.rule; range = r }; text = c.text }) (outward list c.found.range)

-- A parse becomes a text by the rules, and something in it matches. These changes of a text make
-- the same of it; if nothing is replaced in its lists, they are the edit by which the parse becomes
-- it.
pub record IsRewriting (r : Reading) (rules : List Rule) (s : List ℕ) (inner : List Change) (p : Parsed) (changes : List Change) : Type 0 where
  pub some : found_in rules (root_of p.tree) ≡ [] → ⊥
  pub found : List Occurrence
  pub edit : List Replacement
  pub rewrite : IsRewrite rust_front r.edition rules p found edit (changed s changes)
  pub needless : WithoutNeedless rust_front r.edition (changed s changes)
  pub alone : inner ≡ [] → map replacement_of changes ≡ edit

-- the same of a rewriting with its matches and its edit
pub record IsRewritingBy (r : Reading) (rules : List Rule) (p : Parsed) (done : Rewritten) : Type 0 where
  pub some : found_in rules (root_of p.tree) ≡ [] → ⊥
  pub rewrite :
      IsRewrite rust_front r.edition rules p (map occurrence_of done.matches.items) done.edit (string_bytes done.text)
  pub needless : WithoutNeedless rust_front r.edition (string_bytes done.text)

-- nothing, if nothing matches
abbrev pub IsRewritingOf : Reading → List Rule → Parsed → Option Rewritten → Type 0
IsRewritingOf r rules p None = found_in rules (root_of p.tree) ≡ []
IsRewritingOf r rules p (Some done) = IsRewritingBy r rules p done

-- nothing matches in the text in between; or the changes make what it becomes
abbrev pub IsOutside : Reading → List Rule → List ℕ → List Change → Parsed → Option (List Change) → Type 0
IsOutside r rules s inner p None = found_in rules (root_of p.tree) ≡ []
IsOutside r rules s inner p (Some changes) = IsRewriting r rules s inner p changes

-- what is replaced in a text in whose lists this is replaced before: the text with the latter made
-- is the text in between
pub record AreOutside (r : Reading) (rules : List Rule) (s : List ℕ) (inner : List Change) (outer : Option (List Change)) : Type 0 where
  pub between : Parsed
  pub is_read : IsReadAs r (changed s inner) between
  pub is_outside : IsOutside r rules s inner between outer

-- the changes of the lists if there are no others
abbrev pub all_or : List Change → Option (List Change) → List Change
all_or inner None = inner
all_or inner (Some changes) = changes

-- the changes of a parse: those of its lists, and after them those around
pub record AreChangesOf (r : Reading) (rules : List Rule) (InLists : List ℕ → Parsed → List Change → Type 0) (s : List ℕ) (p : Parsed)
    (changes : List Change) : Type 0 where
  pub inner : List Change
  pub are_inner : InLists s p inner
  pub outer : Option (List Change)
  pub are_outer : AreOutside r rules s inner outer
  pub all : changes ≡ all_or inner outer

abbrev pub AreChangesInLists : Reading → List Rule → ℕ → List ℕ → Parsed → List Change → Type 0
AreChangesInLists r rules n = AreInLists r (AreChangesOf r rules) change_outward n

-- nothing matches in a text, nor in the lists of it eight deep
pub record IsNothingWithin (r : Reading) (rules : List Rule) (s : List ℕ) : Type 0 where
  pub parse : Parsed
  pub is_read : IsReadAs r s parse
  pub lists : AreChangesInLists r rules 8 s parse []
  pub outside : AreOutside r rules s [] None

-- a text with its matches replaced, in the lists of it first, and the edit that did it
pub record IsReplacedWithin (r : Reading) (rules : List Rule) (s : List ℕ) (done : Replaced) : Type 0 where
  pub parse : Parsed
  pub is_read : IsReadAs r s parse
  pub changes : List Change
  pub are_changes : AreChangesOf r rules (AreChangesInLists r rules 8) s parse changes
  pub edit : done.edit ≡ together changes
  pub text : string_bytes done.text ≡ edited s done.edit
  pub places : done.places.items ≡ map (λ c. c.found) changes

-- nothing, if nothing matches
abbrev pub IsAnswerWithin : Reading → List Rule → List ℕ → Option Replaced → Type 0
IsAnswerWithin r rules s None = IsNothingWithin r rules s
IsAnswerWithin r rules s (Some done) = IsReplacedWithin r rules s done
