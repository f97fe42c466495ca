-- What a writer that counts has counted.
use Rattle.std.proofs.Common.{◌≡◌, ℕ, ◌+◌, List, [], ◌∷◌, length, ap, arith, length-append}
use Rattle.std.specs.Prelude.{Option, Some, None, IfSome}
use Rattle.std.specs.List.{FoldsTo, concat}
use Rattle.std.specs.Fmt.{WritesText}

module _ {W : Type 0} (took : W → List ℕ → W → Type 0) (count : W → ℕ) (counts : (w : W) (bs : List ℕ) (v : W) → took w bs v → count v ≡ count w + length bs) where
  count_after_calls : (w : W) (xs : List (List ℕ)) (v : W) → FoldsTo took w xs v → count v ≡ count w + length (concat xs)
  count_after_calls w [] v p = omega (arith, ap count p)
  count_after_calls w (x ∷ xs) v p = omega (arith, count_after_calls p.0 xs v p.2, counts w x p.0 p.1, length-append x (concat xs))

  -- from zero on it has counted the bytes of the text
  pub count_after_writes : (w : W) (text : Option (List ℕ)) (v : W) → count w ≡ 0 → WritesText took w text v → IfSome text (λ bs. count v ≡ length bs)
  count_after_writes w None v zero p = tt
  count_after_writes w (Some bs) v zero p = omega (arith, zero, count_after_calls w p.parts v p.calls, ap length p.whole)
