use Rattle.std.proofs.Common.{◌<◌}
use Rattle.tree_model.specs.Tree.{size}
use Rattle.tree_model.specs.Rows.{place_at}
use Rattle.tree_edits.specs.Run.{IsRun}
use Rattle.tree_edits.proofs.RunLemmas.{HasRun, siblings_from}
use Rattle.tree_edits.proofs.changes.siblings_to.Given as goal

abbrev pub invariant-loop-at : goal.invariant-loop-at
invariant-loop-at l = record {
  is_row : l.at < size l.table;
  run : IsRun l.table l.first l.at l.rows.items;
  on : HasRun l.table l.first l.last → HasRun l.table l.at l.last;
}

abbrev pub decreases-loop-at : goal.decreases-loop-at
decreases-loop-at l = siblings_from l.table (place_at l.table l.at)
