use Rattle.std.proofs.Common.{◌≡◌, ◌++◌, length, map}
use Rattle.tree_model.specs.Rows.{tree_at}
use Rattle.tree_model.specs.Tree.{cons, nil}
use Rattle.tree_model.specs.Events.{events_of}
use Rattle.tree_rows.specs.Walks.{walk_left, IsWalk}
use Rattle.tree_edits.proofs.WalkLemmas.{plain}
use Rattle.syntax_indent.specs.Shifted.{shifted, shifted_event}
use Rattle.syntax_indent.proofs.shift.push_rows.Given as goal

abbrev pub invariant-loop-step : goal.invariant-loop-step
invariant-loop-step l = record {
  walks : IsWalk l.table l.row l.next l.innermost;
  whole : l.out ++ map (shifted_event l.shift) (plain (walk_left l.table l.row l.next l.innermost)) ≡ l.fn.out ++ events_of (cons (shifted l.shift (tree_at l.table l.row)) nil);
}

abbrev pub decreases-loop-step : goal.decreases-loop-step
decreases-loop-step l = length (walk_left l.table l.row l.next l.innermost)
