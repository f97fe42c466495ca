-- Parts of a text and places in it, in bytes.
use Rattle.std.specs.Prelude.{ℕ, Bool, ◌==◌, ◌&&◌, ◌||◌, List, [], ◌∷◌, suc, length, slice_index, slice_range, Option, None, Some, nat_eq, nat_lt, nat_le, if◌then◌else◌}
use Rattle.std.specs.List.{starts_with}

-- a character begins at an offset, or the text ends there
abbrev pub is_boundary : List ℕ → ℕ → Bool
is_boundary text at = if nat_lt at (length text) then (nat_lt (slice_index text at) 128 || nat_le 192 (slice_index text at)) else at == length text

-- the text from one offset up to another, where both are boundaries in order
abbrev pub part : List ℕ → ℕ → ℕ → Option (List ℕ)
part text from to = if nat_le from to && is_boundary text from && is_boundary text to then Some (slice_range text from to) else None

-- the offset of the first such byte, in a text that starts at an offset
abbrev pub first_place : ℕ → ℕ → List ℕ → Option ℕ
first_place byte at [] = None
first_place byte at (b ∷ text) = if b == byte then Some at else first_place byte (suc at) text

-- the offset of the last such byte, in a text that starts at an offset, given the last one found
-- before it, if any
abbrev pub last_place : ℕ → ℕ → Option ℕ → List ℕ → Option ℕ
last_place byte at found [] = found
last_place byte at found (b ∷ text) = last_place byte (suc at) (if b == byte then Some at else found) text

-- a literal whose raw form has this prefix is raw
abbrev pub is_raw : List ℕ → List ℕ → Bool
is_raw prefix text = starts_with nat_eq text prefix
