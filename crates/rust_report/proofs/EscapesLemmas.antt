-- Lists of characters.
use Rattle.std.proofs.Common.{◌≡◌, ℕ, List, [], ◌∷◌, map, ap, refl}

pub map-same : (cs : List ℕ) → map (λ (x : ℕ). x) cs ≡ cs
map-same [] = refl
map-same (c ∷ cs) = ap (λ z. c ∷ z) (map-same cs)
