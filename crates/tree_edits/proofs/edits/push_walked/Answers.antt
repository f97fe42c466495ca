use Rattle.std.proofs.Common.{◌≡◌, ◌++◌, ◌∙◌, refl, sym, ap, arith, true, false, Bool}
use Rattle.std.specs.Prelude.{if◌then◌else◌}
use mir.Val.{bool_byte}
use Rattle.tree_model.specs.Tree.{Tree}
use Rattle.tree_model.specs.Rows.{tree_at, start_at}
use Rattle.tree_model.specs.Cursor.{Cursor, cursor_at}
use Rattle.text_edit.specs.Replacements.{nonempty}
use Rattle.tree_edit_model.specs.Changes.{change_at}
use Rattle.tree_edits.specs.Edited.{edits_entered, edits_left}
use Rattle.tree_edits.proofs.EditLemmas.{edited-entered, edited-left, step_is}
use Rattle.tree_edits.proofs.edits.push_walked.Goals as goal

pub returns-then-step-clause-made : goal.returns-then-step-clause-made
returns-then-step-clause-made g c =
    let tree : Tree = c.args.table.now in
    let d : Cursor = cursor_at tree c.args.step.row in
    let same : change_at c.args.changes.now.marks.items c.args.changes.now.changes.items c.args.step.row ≡ g.at d.place = sym (c.requires.0.each c.args.step.row c.requires.1.0) in
    step_is g.at c.args.out.now.items c.push_edits_entered.new.out.items c.args.step.enters true d c.args.skip 0 c.from.result c.if-step.true (omega (arith, c.if-skip-gt0.false))
    (edited-entered g.at c.args.out.now.items c.push_edits_entered.new.out.items d c.from.result
    (c.in_ok-replaced.ensures.edits ∙ ap (λ x. c.args.out.now.items ++ nonempty (edits_entered x (tree_at tree c.args.step.row) (start_at tree c.args.step.row))) same)
    (c.from.ensures ∙ number c.in_ok-replaced.replaced ∙ ap (λ b. if b then 1 else 0) (c.in_ok-replaced.ensures.replaced ∙ ap (λ x. x.replaced) same)))
  where
    number : (b : Bool) → bool_byte b ≡ (if b then 1 else 0)
    number true = refl
    number false = refl

pub returns-then-skip-eq0-clause-made : goal.returns-then-skip-eq0-clause-made
returns-then-skip-eq0-clause-made g c =
    let tree : Tree = c.args.table.now in
    let d : Cursor = cursor_at tree c.args.step.row in
    let same : change_at c.args.changes.now.marks.items c.args.changes.now.changes.items c.args.step.row ≡ g.at d.place = sym (c.requires.0.each c.args.step.row c.requires.1.0) in
    step_is g.at c.args.out.now.items c.push_edits_left.new.out.items c.args.step.enters false d c.args.skip 0 0 c.if-step.false (omega (arith, c.if-skip-eq0.true))
    (edited-left g.at c.args.out.now.items c.push_edits_left.new.out.items d
    (c.in_ok-push_edits_left.ensures ∙ ap (λ x. c.args.out.now.items ++ nonempty (edits_left x (tree_at tree c.args.step.row) (start_at tree c.args.step.row))) same))
