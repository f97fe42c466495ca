use Rattle.std.proofs.Common.{◌≡◌, ◌-◌, ◌≤◌, length, replicate}
use Rattle.std.specs.Prelude.{None}
use Rattle.tree_match.proofs.matching.clear_values.Given as goal

abbrev pub invariant-loop-values : goal.invariant-loop-values
invariant-loop-values l = (l.values.items ≡ replicate (length l.values.items) None) × (length l.values.items ≤ l.count)

abbrev pub decreases-loop-values : goal.decreases-loop-values
decreases-loop-values l = l.count - length l.values.items
