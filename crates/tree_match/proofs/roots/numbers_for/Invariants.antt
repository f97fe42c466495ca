use Rattle.std.proofs.Common.{◌≡◌, ◌-◌, ◌≤◌, ◌++◌, length, drop}
use Rattle.tree_match.specs.Roots.{numbers_from}
use Rattle.tree_match.proofs.roots.numbers_for.Given as goal

abbrev pub invariant-loop-number : goal.invariant-loop-number
invariant-loop-number l =
    (l.numbers.items ++ numbers_from l.number l.kind (drop l.number l.rules)
    ≡ numbers_from 0 l.kind l.rules) × (l.number ≤ length l.rules)

abbrev pub decreases-loop-number : goal.decreases-loop-number
decreases-loop-number l = length l.rules - l.number
