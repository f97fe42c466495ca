-- What a text says of its characters.
-- (Upstream: `char_at` of `rowan`'s `SyntaxText`.)
use Rattle.std.specs.Prelude.{◌≡◌, ℕ, List, ◌∷◌, drop}
use Rattle.std.specs.Str.{chars, IsCharBoundary}

-- the character c starts at byte o of the text
pub record StartsAt (s : List ℕ) (o c : ℕ) : Type 0 where
  pub boundary : IsCharBoundary s o
  pub later : List ℕ
  pub is : chars (drop o s) ≡ c ∷ later

-- no character starts there: it is past the last one, or inside one
abbrev pub NoneStartsAt : List ℕ → ℕ → Type 0
NoneStartsAt s o = (c : ℕ) → StartsAt s o c → ⊥
