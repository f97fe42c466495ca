-- Numbers, as a summary prints them.
use Rattle.std.specs.Prelude.{ℕ, ◌%◌, ◌==◌, ◌&&◌, if◌then◌else◌, nat_lt, List, [], ◌∷◌, ◌++◌, length}

-- a digit that this many others follow: a comma is after it if they are groups of three
abbrev pub with_comma : ℕ → ℕ → List ℕ
with_comma d left = if nat_lt 0 left && (left % 3 == 0) then d ∷ (44 ∷ []) else d ∷ []

-- digits, in groups of three from the end
abbrev pub with_commas : List ℕ → List ℕ
with_commas [] = []
with_commas (d ∷ ds) = with_comma d (length ds) ++ with_commas ds
