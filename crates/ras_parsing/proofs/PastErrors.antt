-- Errors that do not end past a text lie in it.
use Rattle.std.proofs.Common.{◌≡◌, ℕ, zero, suc, ◌<◌, ◌≤◌, List, [], ◌∷◌, length, get_or, refl, arith, Bool, true, false, ◌||◌}
use Rattle.std.specs.Prelude.{All, nat_lt}
use Rattle.std.specs.List.{list_any}
use Rattle.std.proofs.lemmas.Bool.Decides.{nat_tests}
use Rattle.ras_front_end.specs.ErrorModel.{ErrorModel, LiesIn}
use Rattle.ras_parsing.specs.Draft.{is_past, AllForwards}

left_false : (a b : Bool) → (a || b) ≡ false → a ≡ false
left_false true b e = (let bad : true ≡ false = e in cc)
left_false false b e = refl

right_false : (a b : Bool) → (a || b) ≡ false → b ≡ false
right_false true b e = (let bad : true ≡ false = e in cc)
right_false false b e = e

not_less : (n m : ℕ) → nat_lt n m ≡ false → m ≤ n
not_less n m e = grind (arith, nat_tests)

pub none_past : (n : ℕ) (fs : List ErrorModel) → list_any (is_past n) fs ≡ false → AllForwards fs → All (LiesIn n) fs
none_past n [] e w = λ k d h. absurd (omega (arith, h))
none_past n (f ∷ fs) e w =
    let here : LiesIn n f = record { forwards = w 0 f (omega arith); within = not_less n f.range.end (left_false (is_past n f) (list_any (is_past n) fs) e) } in
    let rest : All (LiesIn n) fs = none_past n fs (right_false (is_past n f) (list_any (is_past n) fs) e) (λ k d h. w (suc k) d (omega (arith, h))) in
    λ k d h. at k d h here rest
  where
    at : (k : ℕ) (d : ErrorModel) → k < length (f ∷ fs) → LiesIn n f → All (LiesIn n) fs → LiesIn n (get_or (f ∷ fs) k d)
    at zero d h here rest = here
    at (suc k) d h here rest = rest k d (omega (arith, h))
