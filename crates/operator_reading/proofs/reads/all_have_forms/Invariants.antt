use Rattle.std.proofs.Common.{◌≡◌}
use Rattle.tree_model.specs.Cursor.{focus}
use Rattle.tree_model.specs.Every.{every}
use Rattle.operator_reading.specs.Reads.{has_form}
use Rattle.operator_reading.proofs.ReadsLemmas.{all_of}
use Rattle.operator_reading.proofs.reads.all_have_forms.Given as goal

abbrev pub invariant-loop-element : goal.invariant-loop-element
invariant-loop-element l =
    (goal.iterator-loop-element).can_next l.element-iterator ×
    (goal.iterator-loop-element).is_finite l.element-iterator ×
    (every has_form (focus l.node) ≡ all_of has_form l.element-iterator)
