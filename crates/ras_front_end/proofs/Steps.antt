-- Steps, one after another.
use Rattle.std.proofs.Common.{◌≡◌, ℕ, suc, ◌+◌, ◌<◌, List, [], ◌∷◌, ◌++◌, length, take, refl, sym, ap, ◌∙◌, arith, append_assoc, get_or}
use Rattle.std.proofs.Math.Seq.{take-suc}
use Rattle.ras_front_end.specs.declared.output.Step.{Step}
use Rattle.ras_front_end.specs.Reading.{FrontStep, front_step, front_steps}

front_append : (ss ts : List Step) → front_steps (ss ++ ts) ≡ front_steps ss ++ front_steps ts
front_append [] ts = refl
front_append (s ∷ ss) ts = ap (λ l. front_step s ∷ l) (front_append ss ts)

next_taken : (steps : List Step) (i : ℕ) (x : Step) → i < length steps → x ≡ get_or steps i x → take i steps ++ x ∷ [] ≡ take (i + 1) steps
next_taken steps i x h is =
    let more : suc i ≡ i + 1 = omega arith in
    ap (λ y. take i steps ++ y ∷ []) is ∙ sym (take-suc steps i x h) ∙ ap (λ n. take n steps) more

-- the next of some steps
pub next_step : (before : List FrontStep) (steps : List Step) (i : ℕ) (x : Step) → i < length steps → x ≡ get_or steps i x
    → (before ++ front_steps (take i steps)) ++ front_step x ∷ [] ≡ before ++ front_steps (take (i + 1) steps)
next_step before steps i x h is =
    append_assoc before (front_steps (take i steps)) (front_step x ∷ [])
    ∙ ap (λ l. before ++ l) (sym (front_append (take i steps) (x ∷ [])) ∙ ap front_steps (next_taken steps i x h is))

-- a list with one more step
pub pushed : (xs ys : List Step) (x : Step) (before : List FrontStep) → ys ≡ xs ++ x ∷ [] → front_steps xs ≡ before → front_steps ys ≡ before ++ front_step x ∷ []
pushed xs ys x before is h = ap front_steps is ∙ front_append xs (x ∷ []) ∙ ap (λ l. l ++ front_step x ∷ []) h
