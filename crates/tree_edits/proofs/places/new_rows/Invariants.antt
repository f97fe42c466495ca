use Rattle.std.proofs.Common.{◌≡◌, ◌≤◌, ◌++◌, length, map}
use Rattle.tree_rows.specs.Walks.{walk_left, IsWalk, open_count}
use Rattle.tree_edits.specs.Kept.{new_row, new_rows_of, IsCounted, entered_places}
use Rattle.tree_edits.proofs.places.new_rows.Given as goal

abbrev pub invariant-loop-step : goal.invariant-loop-step
invariant-loop-step g l = record {
  walks : IsWalk l.table 0 l.next l.innermost;
  skip_is : l.count.skip ≤ open_count l.table 0 l.innermost;
  counted : IsCounted g.at (new_row g.at l.table) l.count.skip l.count.rows (walk_left l.table 0 l.next l.innermost);
  column : l.out.items ++ map (new_row g.at l.table) (entered_places (walk_left l.table 0 l.next l.innermost)) ≡ new_rows_of g.at l.table;
}

abbrev pub decreases-loop-step : goal.decreases-loop-step
decreases-loop-step g l = length (walk_left l.table 0 l.next l.innermost)

abbrev pub ghost-push_counted : goal.ghost-push_counted
ghost-push_counted g a = g.at
