use Rattle.std.proofs.Common.{◌≡◌, drop}
use Rattle.tree_match.specs.Conditions.{all_hold}
use Rattle.tree_match.proofs.condition.all_hold.Given as goal

abbrev pub invariant-loop-condition : goal.invariant-loop-condition
invariant-loop-condition l = all_hold (drop l.condition-index l.conditions) l.inner ≡ all_hold l.conditions l.inner
