use Rattle.std.proofs.Common.{◌≡◌, ◌≤◌, ◌++◌, length}
use Rattle.tree_rows.specs.Walks.{walk_left, IsWalk, open_count}
use Rattle.text_edit.specs.Replacements.{nonempty}
use Rattle.tree_edit_model.specs.Texts.{text_edit_of}
use Rattle.tree_edits.specs.Edited.{edits_walked}
use Rattle.tree_edits.proofs.edits.edits.Given as goal

abbrev pub invariant-loop-step : goal.invariant-loop-step
invariant-loop-step g l = record {
  walks : IsWalk l.table 0 l.next l.innermost;
  skip_is : l.skip ≤ open_count l.table 0 l.innermost;
  whole : l.out.items ++ nonempty (edits_walked g.at l.skip (walk_left l.table 0 l.next l.innermost)) ≡ text_edit_of g.at l.table;
}

abbrev pub decreases-loop-step : goal.decreases-loop-step
decreases-loop-step g l = length (walk_left l.table 0 l.next l.innermost)

abbrev pub ghost-push_walked : goal.ghost-push_walked
ghost-push_walked g a = g.at
