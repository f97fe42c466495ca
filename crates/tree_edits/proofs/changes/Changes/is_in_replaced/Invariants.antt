use Rattle.std.proofs.Common.{◌<◌, ℕ}
use Rattle.tree_model.specs.Tree.{size}
use Rattle.tree_edits.specs.Refused.{IsInside, IsReplacedAt}
use Rattle.tree_edits.proofs.changes.Changes.is_in_replaced.Given as goal

abbrev pub invariant-loop-up : goal.invariant-loop-up
invariant-loop-up l = record {
  is_row : l.at < size l.self.tree;
  around : (k : ℕ) → IsInside l.self.tree k l.at → IsInside l.self.tree k l.row;
  left : (k : ℕ) → IsInside l.self.tree k l.row → IsReplacedAt l.self k → IsInside l.self.tree k l.at;
}

abbrev pub decreases-loop-up : goal.decreases-loop-up
decreases-loop-up l = l.at
