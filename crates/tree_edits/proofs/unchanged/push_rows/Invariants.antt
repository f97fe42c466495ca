use Rattle.std.proofs.Common.{◌≡◌, ◌+◌, length}
use Rattle.std.specs.Prelude.{Some}
use Rattle.tree_model.specs.Tree.{size, IsNode}
use Rattle.tree_model.specs.Rows.{tree_at}
use Rattle.tree_rows.specs.Walks.{walk_left}
use Rattle.tree_edits.specs.Unchanged.{AreUnchanged}
use Rattle.tree_edits.proofs.UnchangedLemmas.{reached}
use Rattle.tree_edits.proofs.unchanged.push_rows.Given as goal

abbrev pub invariant-loop-row : goal.invariant-loop-row
invariant-loop-row g l = record {
  run : AreUnchanged g.at l.table l.fn.steps.items l.steps.items l.next l.innermost (reached l.row l.inner l.end);
  behind_is : l.behind ≡ l.inner + size (tree_at l.table l.inner);
  is_node : IsNode (tree_at l.table l.inner);
}

abbrev pub decreases-loop-row : goal.decreases-loop-row
decreases-loop-row g l = length (walk_left l.table 0 l.row (Some l.inner))
