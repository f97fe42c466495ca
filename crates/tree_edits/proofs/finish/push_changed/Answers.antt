use Rattle.std.proofs.Common.{◌++◌, ◌∙◌, ◌<◌, length, ap, arith}
use Rattle.std.specs.Prelude.{None}
use Rattle.tree_model.specs.Cursor.{cursor_at}
use Rattle.tree_model.specs.Events.{events_of}
use Rattle.tree_model.proofs.At.{some_row}
use Rattle.tree_rows.specs.Walks.{walk_left, open_count}
use Rattle.tree_rows.proofs.WalkSteps.{walk_begins}
use Rattle.tree_edit_model.specs.Changes.{changed_whole}
use Rattle.tree_edits.specs.Walked.{walked}
use Rattle.tree_edits.proofs.StepLemmas.{walked-root, open_fits, level_kept, walk-step}
use Rattle.tree_edits.proofs.finish.push_changed.Goals as goal

pub loop-step-init : goal.loop-step-init
loop-step-init g c = record {
  walks = walk_begins c.args.table.now 0 (some_row c.args.table.now);
  skip_is = omega arith;
  whole = ap (λ l. l ++ walked g.at 0 (walk_left c.args.table.now 0 0 None)) c.reserve.ensures ∙ ap (λ l. c.args.out.now ++ l) (walked-root g.at c.args.table.now);
}

pub end_at-requires : goal.end_at-requires
end_at-requires g c = some_row c.args.table.now

pub push_walked-requires : goal.push_walked-requires
push_walked-requires g c = (
  c.requires.0,
  (
    c.in-Some.ensures.state.0,
    λ up.
        omega (arith, c.loop-step.invariant.skip_is, (c.in-Some.ensures.level.0 up).0, open_fits c.args.table.now c.in-Some.step.next c.in-Some.step.innermost c.in-Some.ensures.state.1, c.len-count.ensures, c.len-count.type_inv),
  ),
)

pub push_unchanged-requires : goal.push_unchanged-requires
push_unchanged-requires g c = (c.requires.0, (c.in-Some.ensures.state.1, c.requires.1.1))

pub loop-step-smaller : goal.loop-step-smaller
loop-step-smaller g c =
    let less : length (walk_left c.args.table.now 0 c.in_ok-after.after.0 c.in_ok-after.after.1) < length (walk_left c.args.table.now 0 c.loop-step.next c.loop-step.innermost) =
    omega (arith, ap length c.in-Some.ensures.rest, c.in_ok-after.ensures.shorter) in
    less

pub loop-step-preserved : goal.loop-step-preserved
loop-step-preserved g c = record {
  walks = c.in_ok-after.ensures.walks;
  skip_is =
      c.in_ok-after.ensures.level
      (level_kept c.in-Some.step.enters c.loop-step.skip c.in_ok-skip.skip (open_count c.args.table.now 0 c.loop-step.innermost) (open_count c.args.table.now 0 c.in-Some.step.innermost)
      c.in_ok-skip.ensures.level c.loop-step.invariant.skip_is (λ e. (c.in-Some.ensures.level.0 e).0) c.in-Some.ensures.level.1);
  whole =
      c.in_ok-after.ensures.made
      ∙ walk-step g.at c.loop-step.out c.push_walked.new.out (c.args.out.now ++ events_of (changed_whole g.at c.args.table.now)) c.in-Some.step.enters (cursor_at c.args.table.now c.in-Some.step.row)
      (walk_left c.args.table.now 0 c.loop-step.next c.loop-step.innermost) (walk_left c.args.table.now 0 c.in-Some.step.next c.in-Some.step.innermost) c.loop-step.skip c.in_ok-skip.skip
      c.in-Some.ensures.rest c.in_ok-skip.ensures.made c.loop-step.invariant.whole;
}
