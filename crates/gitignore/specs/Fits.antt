-- Which paths fit a glob. (gitignore(5), "PATTERN FORMAT".) A place n of a path is behind its first
-- n bytes; 47 is `/`.
use Rattle.std.specs.Prelude.{ℕ, zero, suc, ◌==◌, Bool, true, false, not, ◌&&◌, ◌||◌, List, [], ◌∷◌, length, map, slice_index, get_or}
use Rattle.std.specs.List.{range_with_len}
use Rattle.gitignore.specs.declared.piece.Piece.{Piece}
use Rattle.gitignore.specs.declared.piece.Piece.TheVariants.{Byte, Any, OneOf, Star, Folders, Rest}
use Rattle.gitignore.specs.Pieces.{takes}

-- the test holds at a place, or at one before it
abbrev pub earlier : (ℕ → Bool) → ℕ → Bool
earlier begins zero = begins 0
earlier begins (suc n) = begins (suc n) || earlier begins n

-- the test holds at a place, or at one before it with no slash between
abbrev pub in_name : List ℕ → (ℕ → Bool) → ℕ → Bool
in_name path begins zero = begins 0
in_name path begins (suc n) = begins (suc n) || (not (slice_index path n == 47) && in_name path begins n)

-- a piece for one byte ends behind a byte that it takes
abbrev pub one : Piece → List ℕ → (ℕ → Bool) → ℕ → Bool
one p path begins zero = false
one p path begins (suc n) = begins n && takes p (slice_index path n)

-- folders end behind a slash, or stand for nothing
abbrev pub folders : List ℕ → (ℕ → Bool) → ℕ → Bool
folders path begins zero = begins 0
folders path begins (suc n) = begins (suc n) || ((slice_index path n == 47) && earlier begins n)

-- a piece may end at a place, given where it may begin
abbrev pub step : Piece → List ℕ → (ℕ → Bool) → ℕ → Bool
step (Byte own) path begins n = one (Byte own) path begins n
step Any path begins n = one Any path begins n
step (OneOf c) path begins n = one (OneOf c) path begins n
step Star path begins n = in_name path begins n
step Folders path begins n = folders path begins n
step Rest path begins n = earlier begins n

-- pieces may end at a place, one behind the other
abbrev pub ends : List Piece → List ℕ → (ℕ → Bool) → ℕ → Bool
ends [] path begins n = begins n
ends (p ∷ ps) path begins n = ends ps path (step p path begins) n

abbrev pub is_first : ℕ → Bool
is_first n = n == 0

-- a path fits a glob as a whole
abbrev pub fits : List Piece → List ℕ → Bool
fits ps path = ends ps path is_first (length path)

-- a piece may be the first of a glob that a path fits, by the path's first byte
abbrev pub may_begin : Piece → List ℕ → Bool
may_begin (Byte own) [] = false
may_begin (Byte own) (b ∷ bs) = own == b
may_begin Any path = true
may_begin (OneOf c) path = true
may_begin Star path = true
may_begin Folders path = true
may_begin Rest path = true

-- ---- as lists of marks, one for each place

abbrev pub marks_of : (ℕ → Bool) → ℕ → List Bool
marks_of test n = map test (range_with_len 0 n)

abbrev pub mark_in : List Bool → ℕ → Bool
mark_in row n = get_or row n false

abbrev pub next_mark : Piece → ℕ → Bool → Bool → Bool → Bool
next_mark (Byte own) b here behind seen = here && takes (Byte own) b
next_mark Any b here behind seen = here && takes Any b
next_mark (OneOf c) b here behind seen = here && takes (OneOf c) b
next_mark Star b here behind seen = behind || (not (b == 47) && seen)
next_mark Folders b here behind seen = behind || ((b == 47) && seen)
next_mark Rest b here behind seen = behind || seen

abbrev pub first_mark : Piece → Bool → Bool
first_mark (Byte own) here = false
first_mark Any here = false
first_mark (OneOf c) here = false
first_mark Star here = here
first_mark Folders here = here
first_mark Rest here = here

abbrev pub seen_next : Piece → Bool → Bool → Bool → Bool
seen_next (Byte own) mark behind seen = behind || seen
seen_next Any mark behind seen = behind || seen
seen_next (OneOf c) mark behind seen = behind || seen
seen_next Star mark behind seen = mark
seen_next Folders mark behind seen = behind || seen
seen_next Rest mark behind seen = behind || seen

-- what is kept of the places up to one
abbrev pub seen_before : Piece → List ℕ → (ℕ → Bool) → ℕ → Bool
seen_before (Byte own) path begins n = earlier begins n
seen_before Any path begins n = earlier begins n
seen_before (OneOf c) path begins n = earlier begins n
seen_before Star path begins n = in_name path begins n
seen_before Folders path begins n = earlier begins n
seen_before Rest path begins n = earlier begins n
