use Rattle.std.proofs.Common.{◌≡◌, ◌-◌, ◌≤◌, length, drop}
use Rattle.tree_match.specs.Matching.{first_from, first_rule}
use Rattle.tree_match.proofs.matching.first_rule.Given as goal

abbrev pub invariant-loop-number : goal.invariant-loop-number
invariant-loop-number l =
    (first_from l.number (drop l.number l.rules) l.kind l.inside ≡ first_rule l.rules l.kind l.inside) × (l.number ≤ length l.rules)

abbrev pub decreases-loop-number : goal.decreases-loop-number
decreases-loop-number l = length l.rules - l.number
