-- Where a text is cut: before its last n bytes, if a character begins there and it is not the
-- start; otherwise at its end.
use Rattle.std.specs.Prelude.{ℕ, ◌-◌, Bool, not, nat_lt, nat_le, ◌==◌, ◌&&◌, ◌||◌, if◌then◌else◌, List, length, take, drop, slice_index, ◌<◌}
use Rattle.std.specs.Str.{IsCharBoundary}

-- a character begins at the position, or the text ends there
abbrev pub is_boundary_of : ℕ → List ℕ → Bool
is_boundary_of i s = length s == i || (nat_lt i (length s) && (nat_lt (slice_index s i) 128 || nat_le 192 (slice_index s i)))

abbrev pub cut_of : ℕ → List ℕ → ℕ
cut_of n s = let i = length s - n in if i == 0 || not (is_boundary_of i s) then length s else i

abbrev pub front_of : ℕ → List ℕ → List ℕ
front_of n s = take (cut_of n s) s

abbrev pub back_of : ℕ → List ℕ → List ℕ
back_of n s = drop (cut_of n s) s

-- the first n bytes are not none, and are whole characters
abbrev pub IsEnd : List ℕ → ℕ → Type 0
IsEnd s n = (0 < n) × IsCharBoundary s n
