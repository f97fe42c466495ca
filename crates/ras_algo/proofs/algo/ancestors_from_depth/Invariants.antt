use Rattle.std.proofs.Common.{◌≡◌, length, drop}
use Rattle.tree_model.specs.Cursor.{ancestors_of}
use Rattle.ras_algo.proofs.algo.ancestors_from_depth.Given as goal

abbrev pub invariant-loop-node : goal.invariant-loop-node
invariant-loop-node l = record {
  ahead : l.ahead ≡ drop (length l.yielded) (ancestors_of l.fn.node);
}

abbrev pub invariant-loop-node-2 : goal.invariant-loop-node-2
invariant-loop-node-2 l = record {
  left : l.ancestors ≡ drop (length l.yielded) (ancestors_of l.fn.node);
}
