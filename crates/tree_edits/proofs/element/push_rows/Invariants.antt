use Rattle.std.proofs.Common.{◌≡◌, ◌++◌, length}
use Rattle.tree_model.specs.Rows.{tree_at}
use Rattle.tree_model.specs.Tree.{cons, nil}
use Rattle.tree_model.specs.Events.{events_of}
use Rattle.tree_rows.specs.Walks.{walk_left, IsWalk}
use Rattle.tree_edits.proofs.WalkLemmas.{plain}
use Rattle.tree_edits.proofs.element.push_rows.Given as goal

abbrev pub invariant-loop-step : goal.invariant-loop-step
invariant-loop-step l = record {
  walks : IsWalk l.table l.row l.next l.innermost;
  whole : l.out ++ plain (walk_left l.table l.row l.next l.innermost) ≡ l.fn.out ++ events_of (cons (tree_at l.table l.row) nil);
}

abbrev pub decreases-loop-step : goal.decreases-loop-step
decreases-loop-step l = length (walk_left l.table l.row l.next l.innermost)
