use Rattle.std.proofs.Common.{◌≡◌, length}
use Rattle.std.specs.List.{find}
use Rattle.tree_model.specs.Cursor.{ancestors_of}
use Rattle.rust_parens.specs.Patterns.{is_around}
use Rattle.rust_parens.proofs.patterns.holder_of.Given as goal

abbrev pub invariant-loop-node : goal.invariant-loop-node
invariant-loop-node l = record {
  same : find is_around l.above ≡ find is_around (ancestors_of l.fn.pair);
}

abbrev pub decreases-loop-node : goal.decreases-loop-node
decreases-loop-node l = length l.above
