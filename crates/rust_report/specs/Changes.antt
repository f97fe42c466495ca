-- The lines of a text, and those in which two texts differ.
use Rattle.std.specs.Prelude.{ℕ, ◌==◌, Bool, not, if◌then◌else◌, List, [], ◌∷◌, bytes_eq}
use denote.Ref.{Bor}

-- a byte before the first of some lines
abbrev pub onto_first : ℕ → List (List ℕ) → List (List ℕ)
onto_first b [] = (b ∷ []) ∷ []
onto_first b (l ∷ ls) = (b ∷ l) ∷ ls

-- the lines of a text, each with its line feed
abbrev pub lines_of : List ℕ → List (List ℕ)
lines_of [] = []
lines_of (b ∷ s) = if b == 10 then (b ∷ []) ∷ lines_of s else onto_first b (lines_of s)

abbrev pub is_same : Bor (List ℕ) → Bor (List ℕ) → Bool
is_same a b = bytes_eq a.now b.now

abbrev pub is_other : Bor (List ℕ) → Bor (List ℕ) → Bool
is_other a b = not (is_same a b)
