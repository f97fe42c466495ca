use Rattle.std.proofs.Common.{◌≤◌, ◌-◌, length}
use Rattle.rust_parens.proofs.guess.Guess.stays_of.Given as goal

abbrev pub invariant-loop-stays : goal.invariant-loop-stays
invariant-loop-stays l = (1 ≤ length l.stays.items) × (length l.stays.items ≤ l.len)

abbrev pub decreases-loop-stays : goal.decreases-loop-stays
decreases-loop-stays l = l.len - length l.stays.items
