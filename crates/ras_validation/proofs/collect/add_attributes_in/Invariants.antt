use Rattle.std.proofs.Common.{◌≡◌, ◌++◌, length}
use Rattle.std.specs.Prelude.{flat_map}
use Rattle.ras_validation.specs.Violations.{attribute_at}
use Rattle.ras_validation.proofs.collect.add_attributes_in.Given as goal

abbrev pub invariant-loop-child : goal.invariant-loop-child
invariant-loop-child l = record { same : l.found.items ++ flat_map attribute_at l.left ≡ l.initial.found.items ++ flat_map attribute_at l.initial.left }

abbrev pub decreases-loop-child : goal.decreases-loop-child
decreases-loop-child l = length l.left
