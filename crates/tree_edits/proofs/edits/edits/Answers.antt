use Rattle.std.proofs.Common.{◌∙◌, ◌++◌, ap, arith}
use Rattle.std.specs.Prelude.{None}
use Rattle.tree_model.proofs.At.{some_row}
use Rattle.tree_model.specs.Cursor.{cursor_at}
use Rattle.text_edit.specs.Replacements.{nonempty}
use Rattle.tree_edit_model.specs.Texts.{text_edit_of}
use Rattle.tree_rows.specs.Walks.{walk_left, open_count}
use Rattle.tree_rows.proofs.WalkSteps.{walk_begins}
use Rattle.tree_edits.specs.Edited.{edits_walked}
use Rattle.tree_edits.proofs.StepLemmas.{open_fits, level_kept}
use Rattle.tree_edits.proofs.EditLemmas.{edits-root, edited-step}
use Rattle.tree_edits.proofs.edits.edits.Goals as goal

pub loop-step-init : goal.loop-step-init
loop-step-init g c = record {
  walks = walk_begins c.args.table.now 0 (some_row c.args.table.now);
  skip_is = omega arith;
  whole =
      ap (λ l. l ++ nonempty (edits_walked g.at 0 (walk_left c.args.table.now 0 0 None))) c.new-out.ensures.items
      ∙ edits-root g.at c.args.table.now c.args.changes.now.marks.items c.args.changes.now.changes.items c.requires.0 c.requires.1;
}

pub push_walked-requires : goal.push_walked-requires
push_walked-requires g c = (
  c.requires.0,
  (
    c.in-Some.ensures.state.0,
    λ up.
        omega (arith, c.loop-step.invariant.skip_is, (c.in-Some.ensures.level.0 up).0, open_fits c.args.table.now c.in-Some.step.next c.in-Some.step.innermost c.in-Some.ensures.state.1, c.len-count.ensures, c.len-count.type_inv),
  ),
)

pub loop-step-preserved : goal.loop-step-preserved
loop-step-preserved g c = record {
  walks = c.in-Some.ensures.state.1;
  skip_is =
      level_kept c.in-Some.step.enters c.loop-step.skip c.in_ok-skip.skip (open_count c.args.table.now 0 c.loop-step.innermost) (open_count c.args.table.now 0 c.in-Some.step.innermost)
      c.in_ok-skip.ensures.level c.loop-step.invariant.skip_is (λ e. (c.in-Some.ensures.level.0 e).0) c.in-Some.ensures.level.1;
  whole =
      edited-step g.at c.loop-step.out.items c.push_walked.new.out.items (text_edit_of g.at c.args.table.now) c.in-Some.step.enters (cursor_at c.args.table.now c.in-Some.step.row)
      (walk_left c.args.table.now 0 c.loop-step.next c.loop-step.innermost) (walk_left c.args.table.now 0 c.in-Some.step.next c.in-Some.step.innermost) c.loop-step.skip c.in_ok-skip.skip
      c.in-Some.ensures.rest c.in_ok-skip.ensures.made c.loop-step.invariant.whole;
}
