use Rattle.std.proofs.Common.{◌∙◌, ◌++◌, ap}
use Rattle.tree_model.specs.Cursor.{cursor_at}
use Rattle.tree_model.specs.Tree.{cons, nil}
use Rattle.tree_model.specs.Rows.{tree_at}
use Rattle.tree_model.specs.Events.{events_of}
use Rattle.tree_rows.specs.Walks.{walk_left}
use Rattle.tree_rows.proofs.WalkSteps.{walk_begins, walk_left-whole}
use Rattle.tree_edits.proofs.WalkLemmas.{plain, plain-walk_of, plain-step, plain-end}
use Rattle.tree_edits.proofs.element.push_rows.Goals as goal

pub loop-step-init : goal.loop-step-init
loop-step-init c = record {
  walks = walk_begins c.args.table.now c.args.row c.requires;
  whole = ap (λ l. c.args.out.now ++ l) (ap plain (walk_left-whole c.args.table.now c.args.row) ∙ plain-walk_of (cursor_at c.args.table.now c.args.row));
}

pub loop-step-preserved : goal.loop-step-preserved
loop-step-preserved c = record {
  walks = c.in-Some.ensures.state.1;
  whole =
      plain-step c.loop-step.out c.push_step.new.out (c.args.out.now ++ events_of (cons (tree_at c.args.table.now c.args.row) nil)) c.in-Some.step.enters (cursor_at c.args.table.now c.in-Some.step.row)
      (walk_left c.args.table.now c.args.row c.loop-step.next c.loop-step.innermost) (walk_left c.args.table.now c.args.row c.in-Some.step.next c.in-Some.step.innermost)
      c.in-Some.ensures.rest c.in_ok-push_step.ensures c.loop-step.invariant.whole;
}

pub returns : goal.returns
returns c =
    plain-end c.loop-step.out (c.args.out.now ++ events_of (cons (tree_at c.args.table.now c.args.row) nil)) (walk_left c.args.table.now c.args.row c.loop-step.next c.loop-step.innermost) c.in_default.ensures.rest c.loop-step.invariant.whole
