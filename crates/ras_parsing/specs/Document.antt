-- A text that is edited, and its parse: what of it is parsed again, and what its parse is then.
use Rattle.std.specs.Prelude.{◌≡◌, ◌⊎◌, ℕ, zero, suc, ◌+◌, ◌-◌, ◌<◌, ◌^◌, IsUtf8, List, [], ◌∷◌, ◌++◌, map, length, take, drop, Option, Some, None, Bool, true, false, ◌&&◌, nat_le, nat_lt, nat_eq, ◌==◌, ◌||◌, ◌≤◌, position, slice_get, if◌then◌else◌}
use Rattle.std.specs.List.{flat_map}
use Rattle.text_size.specs.TextRange.{Bounds}
use Rattle.tree_model.specs.Tree.{Tree, IsToken, token, text}
use Rattle.tree_model.specs.Cursor.{Cursor, focus, range_start, range_end, range_of, first_child_of, last_child_of}
use Rattle.tree_model.specs.Covering.{covering_of}
use Rattle.tree_model.specs.Edit.{replace, root_of, splice}
use Rattle.ras_front_end.specs.declared.edition.Entry.TheVariants.{SourceFile}
use Rattle.ras_front_end.specs.declared.edition.Edition.{Edition}
use Rattle.ras_front_end.specs.declared.edition.Reparser.{Reparser}
use Rattle.ras_front_end.specs.Balanced.{opens_brace, closes_brace}
use Rattle.ras_front_end.specs.ErrorModel.{ErrorModel}
use Rattle.ras_front_end.specs.Front.{Front}
use Rattle.ras_front_end.specs.Reading.{Reading, step_faults}
use Rattle.ras_front_end.specs.Parsed.{Parsed, IsParseOf}
use Rattle.exact_front.specs.Exact.{Exact, is_piece}
use Rattle.ras_parsing.specs.Edit.{Edit, IsEditOf, edited, covered, edited_at}
use Rattle.ras_parsing.specs.Reparse.{kind_at, nodes_around, shifted, moved}
use Rattle.ras_parsing.specs.Rereading.{IsAround}

-- ---- errors

-- an old error stays if it ends at or before the replaced range's start
abbrev pub earlier_fault : Bounds → ErrorModel → List ErrorModel
earlier_fault replaced f = if nat_le f.range.end replaced.start then f ∷ [] else []

-- one that starts at or after the range's end moves with the text
abbrev pub later_fault : Bounds → Edit → ErrorModel → List ErrorModel
later_fault replaced edit f =
    if nat_le replaced.end f.range.start then record { message = f.message; range = record { start = shifted edit f.range.start; end = shifted edit f.range.end } } ∷ [] else []

-- the old errors before the piece, its new ones, and the old ones behind it
abbrev pub in_order : List ErrorModel → List ErrorModel → Bounds → Edit → List ErrorModel
in_order old new replaced edit = flat_map (earlier_fault replaced) old ++ (map (moved replaced.start) new ++ flat_map (later_fault replaced edit) old)

-- the parser's errors, which are the first `count` and `more` ones, and then the lexer's
abbrev pub all_in_order : ℕ → ℕ → List ErrorModel → List ErrorModel → Bounds → Edit → List ErrorModel
all_in_order count more old new replaced edit = in_order (take count old) (take more new) replaced edit ++ in_order (drop count old) (drop more new) replaced edit

-- ---- the piece

abbrev pub opens : Option Cursor → Bool
opens None = false
opens (Some c) = opens_brace (kind_at c)

abbrev pub closes : Option Cursor → Bool
closes None = false
closes (Some c) = closes_brace (kind_at c)

-- the first and the last child are braces, and the deleted range is between them
abbrev pub is_between : Bounds → Cursor → Bool
is_between delete c = (opens (first_child_of c) && closes (last_child_of c)) && (nat_lt (range_start c) delete.start && nat_lt delete.end (range_end c))

abbrev pub exact_reparser_of : Exact → Bounds → Cursor → Option Reparser
exact_reparser_of exact delete c = if is_between delete c then exact.chosen (kind_at c) else None

abbrev pub or_further : Cursor → Option Reparser → Option (Cursor × Reparser) → Option (Cursor × Reparser)
or_further c None further = further
or_further c (Some r) further = Some (c, r)

-- the first of the nodes around a deleted range that may be an exact piece
abbrev pub first_exact : Exact → Bounds → List Cursor → Option (Cursor × Reparser)
first_exact exact delete [] = None
first_exact exact delete (c ∷ cs) = or_further c (exact_reparser_of exact delete c) (first_exact exact delete cs)

-- no error begins at or after a byte
abbrev pub is_quiet_from : ℕ → List ErrorModel → Bool
is_quiet_from at [] = true
is_quiet_from at (f ∷ fs) = nat_lt f.range.start at && is_quiet_from at fs

-- a text, and the text after an edit, are not longer
pub record AreShort (longest : ℕ) (s : List ℕ) (edit : Edit) : Type 0 where
  pub old : length s ≤ longest
  pub new : length (edited s edit) ≤ longest

-- the nearest node that may be one is an exact piece: nothing at the head of the text depends on
-- the rest, the text is short before and after, the front end reads the node's old text and its new
-- text as in any text, and none of the lexer's errors is behind it; `count` errors are the parser's
pub record ExactPath (exact : Exact) (edition : Edition) (old : Parsed) (count : ℕ) (edit : Edit) (c : Cursor) (r : Reparser) (reading : Reading) : Type 0 where
  pub no_head : exact.has_head (text old.tree) ≡ false
  pub are_short : AreShort exact.longest (text old.tree) edit
  pub is_nearest : first_exact exact edit.delete (nodes_around old.tree edit) ≡ Some (c, r)
  pub is_quiet : is_quiet_from (range_end c) (drop count old.errors) ≡ true
  pub is_read : exact.piece r edition (edited_at c edit) ≡ Some reading
  pub was_read : is_piece (exact.piece r edition (text (focus c))) ≡ true

abbrev pub NoExactPath : Exact → Edition → Parsed → ℕ → Edit → Type 0
NoExactPath exact edition old count edit = (c : Cursor) (r : Reparser) (reading : Reading) → ExactPath exact edition old count edit c r reading → ⊥

-- ---- one token

abbrev pub is_brace_byte : ℕ → Bool
is_brace_byte b = (b == 123) || (b == 125)

abbrev pub is_brace_at : Option ℕ → Bool
is_brace_at None = false
is_brace_at (Some b) = is_brace_byte b

-- where the last brace among the first n bytes is; at the start, if there is none
unfoldable pub brace_before : List ℕ → ℕ → ℕ
brace_before s zero = 0
brace_before s (suc n) = if is_brace_at (slice_get s n) then n else brace_before s n

-- where the first brace from a byte on ends; at the text's end, if there is none
abbrev pub end_or : List ℕ → ℕ → Option ℕ → ℕ
end_or s at None = length s
end_or s at (Some n) = at + (n + 1)

abbrev pub brace_behind : List ℕ → ℕ → ℕ
brace_behind s at = end_or s at (position is_brace_byte (drop at s))

-- the part of a text around a range, with the nearest brace on each side
abbrev pub window_around : List ℕ → Bounds → Bounds
window_around s t = record { start = brace_before s t.start; end = brace_behind s t.end }

abbrev pub part_of : List ℕ → Bounds → List ℕ
part_of s w = take (w.end - w.start) (drop w.start s)

-- what a window has after an edit inside of it
abbrev pub edited_in : List ℕ → Bounds → Edit → List ℕ
edited_in s w edit = splice (part_of s w) (edit.delete.start - w.start) (edit.delete.end - w.start) edit.insert

-- a range, counted from a byte
abbrev pub counted_from : ℕ → Bounds → Bounds
counted_from at t = record { start = t.start - at; end = t.end - at }

-- a token of the tree is at a byte
abbrev pub is_at : ℕ → Cursor → Type 0
is_at at c = IsToken (focus c) × (range_start c ≡ at)

abbrev pub byte_at : ℕ → Bounds
byte_at at = record { start = at; end = at + 1 }

-- a window begins where a token of the tree begins, or with the text
abbrev pub BeginsToken : Tree → ℕ → Type 0
BeginsToken tree at = (at ≡ 0) ⊎ is_at at (covering_of (root_of tree) (byte_at at))

-- a longer window is not lexed again
abbrev pub longest_window : ℕ
longest_window = 32768

-- a window is lexed by itself if it is not too long, begins with a token of the tree, and no error
-- of the lexer is behind it; the first `count` errors are the parser's
pub record StandsAlone (old : Parsed) (count : ℕ) (w : Bounds) : Type 0 where
  pub is_near : w.end - w.start ≤ longest_window
  pub begins : BeginsToken old.tree w.start
  pub is_quiet : is_quiet_from w.end (drop count old.errors) ≡ true

-- the front end sees that only the text of a token in the window is another one
abbrev pub is_retold_in : Exact → Edition → List ℕ → Bounds → Bounds → Edit → Bool
is_retold_in exact edition s w t edit =
    exact.is_retold edition (take w.start s) (part_of s w) (edited_in s w edit) (drop w.end s) (counted_from w.start t)

-- the token that covers an edit gets another text, and nothing else changes: nothing at the head of
-- the text depends on the rest, and the front end says so of the window around the token
pub record TokenPath (exact : Exact) (edition : Edition) (old : Parsed) (count : ℕ) (edit : Edit) (c : Cursor) (w : Bounds) : Type 0 where
  pub covers : c ≡ covered old.tree edit
  pub is_token : IsToken (focus c)
  pub no_head : exact.has_head (text old.tree) ≡ false
  pub is_window : w ≡ window_around (text old.tree) (range_of c)
  pub stands_alone : StandsAlone old count w
  pub is_retold : is_retold_in exact edition (text old.tree) w (range_of c) edit ≡ true

abbrev pub NoTokenPath : Exact → Edition → Parsed → ℕ → Edit → Type 0
NoTokenPath exact edition old count edit = (c : Cursor) (w : Bounds) → TokenPath exact edition old count edit c w → ⊥

-- ---- a document

-- the parse of a text, of whose errors the first `count` are the parser's
pub record IsReadOf (front : Front) (edition : Edition) (s : List ℕ) (new : Parsed) (count : ℕ) : Type 0 where
  pub is_parse : IsParseOf s (front.parsed SourceFile edition s) new
  pub count_is : count ≡ length (step_faults (front.parsed SourceFile edition s).steps)

-- the range of a piece of the new text
abbrev pub range_after : Cursor → Edit → Bounds
range_after c edit = record { start = range_start c; end = range_start c + length (edited_at c edit) }

-- the parse with the new reading of a piece
pub record IsPieceOf (old : Parsed) (before : ℕ) (edit : Edit) (c : Cursor) (reading : Reading) (new : Parsed) (count : ℕ) : Type 0 where
  pub in_old : c.tree ≡ old.tree
  pub is_around : IsAround c edit
  pub piece : Parsed
  pub is_parse : IsParseOf (edited_at c edit) reading piece
  pub tree_is : new.tree ≡ replace old.tree c.place piece.tree
  pub errors_are : new.errors ≡ all_in_order before (length (step_faults reading.steps)) old.errors piece.errors (range_of c) edit
  pub count_is : count ≡ length (in_order (take before old.errors) (take (length (step_faults reading.steps)) piece.errors) (range_of c) edit)

-- the parse with another text of one token
pub record IsRetoldOf (old : Parsed) (before : ℕ) (edit : Edit) (c : Cursor) (new : Parsed) (count : ℕ) : Type 0 where
  pub in_old : c.tree ≡ old.tree
  pub is_around : IsAround c edit
  pub tree_is : new.tree ≡ replace old.tree c.place (token (kind_at c) (edited_at c edit))
  pub errors_are : new.errors ≡ all_in_order before 0 old.errors [] (range_of c) edit
  pub count_is : count ≡ length (in_order (take before old.errors) [] (range_of c) edit)

pub record ByToken (exact : Exact) (edition : Edition) (old : Parsed) (before : ℕ) (edit : Edit) (new : Parsed) (count : ℕ) (range : Bounds) : Type 0 where
  pub retold : Cursor
  pub window : Bounds
  pub path : TokenPath exact edition old before edit retold window
  pub is : IsRetoldOf old before edit retold new count
  pub range_is : range ≡ range_after retold edit

pub record ByPiece (exact : Exact) (edition : Edition) (old : Parsed) (before : ℕ) (edit : Edit) (new : Parsed) (count : ℕ) (range : Bounds) : Type 0 where
  pub no_token : NoTokenPath exact edition old before edit
  pub block : Cursor
  pub reparser : Reparser
  pub reading : Reading
  pub path : ExactPath exact edition old before edit block reparser reading
  pub is : IsPieceOf old before edit block reading new count
  pub range_is : range ≡ range_after block edit

pub record ByAll (front : Front) (exact : Exact) (edition : Edition) (old : Parsed) (before : ℕ) (edit : Edit) (new : Parsed) (count : ℕ) (range : Bounds) : Type 0 where
  pub no_token : NoTokenPath exact edition old before edit
  pub no_piece : NoExactPath exact edition old before edit
  pub is : IsReadOf front edition (edited (text old.tree) edit) new count
  pub range_is : range ≡ record { start = 0; end = length (edited (text old.tree) edit) }

-- what `edit` makes of a document: one token gets another text, or a piece is parsed again, or the
-- whole text
abbrev pub IsEdited : Front → Exact → Edition → Parsed → ℕ → Edit → Parsed → ℕ → Bounds → Type 0
IsEdited front exact edition old before edit new count range =
    ByToken exact edition old before edit new count range
    ⊎ (ByPiece exact edition old before edit new count range ⊎ ByAll front exact edition old before edit new count range)

-- a front end reads the pieces of every text as in the text, and gives a token another text alone
-- where nothing else changes: where a document has the parse of its
-- text, an edit makes the parse of the new text
abbrev pub ReadsExactly : Front → Exact → Type 0
ReadsExactly front exact =
    (edition : Edition) (old new : Parsed) (before count : ℕ) (edit : Edit) (range : Bounds)
    → IsUtf8 (text old.tree) → IsUtf8 edit.insert → IsEditOf (text old.tree) edit
    → length (edited (text old.tree) edit) < 2 ^ 32
    → IsReadOf front edition (text old.tree) old before
    → IsEdited front exact edition old before edit new count range
    → IsReadOf front edition (edited (text old.tree) edit) new count
