use Rattle.std.proofs.Common.{◌∙◌, ◌++◌, ap, map}
use Rattle.tree_model.specs.Cursor.{cursor_at}
use Rattle.tree_model.specs.Tree.{cons, nil}
use Rattle.tree_model.specs.Rows.{tree_at}
use Rattle.tree_model.specs.Events.{events_of}
use Rattle.tree_rows.specs.Walks.{walk_left}
use Rattle.tree_rows.proofs.WalkSteps.{walk_begins, walk_left-whole}
use Rattle.tree_edits.proofs.WalkLemmas.{plain}
use Rattle.syntax_indent.specs.Shifted.{shifted, shifted_event}
use Rattle.syntax_indent.proofs.ShiftLemmas.{whole_walk, walk-step, walk-end}
use Rattle.syntax_indent.proofs.shift.push_rows.Goals as goal

pub loop-step-init : goal.loop-step-init
loop-step-init c = record {
  walks = walk_begins c.args.table.now c.args.row c.requires;
  whole = ap (λ l. c.args.out.now ++ l) (ap (λ w. map (shifted_event c.args.shift) (plain w)) (walk_left-whole c.args.table.now c.args.row) ∙ whole_walk c.args.shift (cursor_at c.args.table.now c.args.row));
}

pub loop-step-preserved : goal.loop-step-preserved
loop-step-preserved c = record {
  walks = c.in-Some.ensures.state.1;
  whole =
      walk-step c.args.shift c.loop-step.out c.push_step.new.out (c.args.out.now ++ events_of (cons (shifted c.args.shift (tree_at c.args.table.now c.args.row)) nil)) c.in-Some.step.enters (cursor_at c.args.table.now c.in-Some.step.row)
      (walk_left c.args.table.now c.args.row c.loop-step.next c.loop-step.innermost) (walk_left c.args.table.now c.args.row c.in-Some.step.next c.in-Some.step.innermost)
      c.in-Some.ensures.rest c.in_ok-push_step.ensures c.loop-step.invariant.whole;
}

pub returns : goal.returns
returns c =
    walk-end c.args.shift c.loop-step.out (c.args.out.now ++ events_of (cons (shifted c.args.shift (tree_at c.args.table.now c.args.row)) nil)) (walk_left c.args.table.now c.args.row c.loop-step.next c.loop-step.innermost) c.in_default.ensures.rest c.loop-step.invariant.whole
