use Rattle.std.proofs.Common.{◌≡◌, ◌++◌, ◌-◌}
use Rattle.ras_validation.specs.Rows.{violations_from}
use Rattle.ras_validation.proofs.collect.add_all.Given as goal

abbrev pub invariant-loop-row : goal.invariant-loop-row
invariant-loop-row l = record { same : l.found.items ++ violations_from l.fn.root.tree l.next l.to ≡ l.fn.found.items ++ violations_from l.fn.root.tree l.fn.from l.fn.to }

abbrev pub decreases-loop-row : goal.decreases-loop-row
decreases-loop-row l = l.to - l.next
