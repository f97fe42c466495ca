use Rattle.std.proofs.Common.{◌≡◌, ◌++◌, List}
use Rattle.tree_model.specs.Cursor.{Cursor, ancestors_of}
use Rattle.rust_parens.proofs.alone.is_told_around.Given as goal

abbrev pub invariant-loop-around : goal.invariant-loop-around
invariant-loop-around g l =
    (goal.iterator-loop-around g).can_next l.around-iterator ×
    (goal.iterator-loop-around g).is_finite l.around-iterator ×
    ((below : List Cursor) × (below ++ l.around-iterator ≡ ancestors_of l.fn.pair))
