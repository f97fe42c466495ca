-- The edit that takes an edit back.
-- (Upstream: rust-analyzer has no such call; LSP's undo edits are made like this.)
use Rattle.std.specs.Prelude.{◌≡◌, ℕ, ◌+◌, ◌-◌, List, [], ◌∷◌, All, length, take, drop}
use Rattle.text_edit.specs.Replacements.{Replacement, InOrder, IsRangeOf, edited}

-- the bytes from a up to b
abbrev pub between : List ℕ → ℕ → ℕ → List ℕ
between s a b = take (b - a) (drop a s)

-- byte n of the new text on is the new text of a replacement, which is replaced by the old text of
-- its range
abbrev pub inverse_at : List ℕ → ℕ → Replacement → Replacement
inverse_at s n e = record { insert = between s e.delete.start e.delete.end; delete = record { start = n; end = n + length e.insert } }

-- the inverses of replacements after byte `at` of the text, which has become byte `new`
abbrev pub inverted_from : List ℕ → ℕ → ℕ → List Replacement → List Replacement
inverted_from s at new [] = []
inverted_from s at new (e ∷ es) =
    inverse_at s (new + (e.delete.start - at)) e ∷ inverted_from s e.delete.end (new + (e.delete.start - at) + length e.insert) es

-- each new text replaced by the old text
abbrev pub inverted : List ℕ → List Replacement → List Replacement
inverted s es = inverted_from s 0 0 es

-- the inverse of an edit, made in the new text, gives the old text back
abbrev pub InverseUndoes : Type 0
InverseUndoes =
    (s : List ℕ) (es : List Replacement) → InOrder 0 es → All (IsRangeOf s) es
    → InOrder 0 (inverted s es) × (edited (edited s es) (inverted s es) ≡ s)
