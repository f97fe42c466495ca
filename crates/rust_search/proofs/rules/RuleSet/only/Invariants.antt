use Rattle.std.proofs.Common.{◌≡◌, length}
use Rattle.rust_search.proofs.rules.RuleSet.only.Given as goal

abbrev pub invariant-loop-number : goal.invariant-loop-number
invariant-loop-number l = length l.set.notes.items ≡ length l.set.rules.items
