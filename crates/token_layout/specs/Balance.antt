-- How many nodes are open after steps.
use Rattle.std.specs.Prelude.{ℕ, zero, suc, List, [], ◌∷◌, Option, Some, None}
use Rattle.ras_front_end.specs.Reading.{FrontStep, begins, takes, ends, reports}

-- how many nodes are open after the steps, where d are open before them; None where there would be
-- fewer than none
abbrev pub balance : ℕ → List FrontStep → Option ℕ
balance d [] = Some d
balance d (begins k ∷ r) = balance (suc d) r
balance d (takes k n ∷ r) = balance d r
balance zero (ends ∷ r) = None
balance (suc d) (ends ∷ r) = balance d r
balance d (reports m p ∷ r) = balance d r
