use Rattle.std.proofs.Common.{◌≡◌, ◌++◌, drop, map}
use Rattle.rust_rules.proofs.within.places_of.Given as goal

abbrev pub invariant-loop-change : goal.invariant-loop-change
invariant-loop-change l = l.places.items ++ map (λ c. c.found) (drop l.change-index l.changes) ≡ map (λ c. c.found) l.changes
