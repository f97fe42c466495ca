use Rattle.std.proofs.Common.{◌≡◌, ◌∙◌, ◌++◌, ap}
use Rattle.tree_model.specs.Tree.{cons, nil}
use Rattle.tree_model.specs.Rows.{tree_at}
use Rattle.tree_model.specs.Cursor.{focus}
use Rattle.tree_model.specs.Events.{events_of}
use Rattle.syntax_indent.specs.Shifted.{shifted}
use Rattle.syntax_indent.proofs.ShiftLemmas.{ok_of, short_of, refused_of}
use Rattle.syntax_indent.proofs.shift.shifted.Goals as goal
use Rattle.syntax_indent.proofs.shift.shifted.Goals.{In-Ok}

made : (c : In-Ok) → c.push_rows.new.out ≡ events_of (cons (shifted c.args.shift (focus c.args.node.now)) nil)
made c =
    c.in-Ok.ensures
    ∙ ap (λ l. l ++ events_of (cons (shifted c.args.shift (tree_at c.as_ref.result.now c.row.result)) nil)) c.new-out.ensures
    ∙ ap (λ t. events_of (cons (shifted c.args.shift (tree_at t c.row.result)) nil)) (c.as_ref.ensures ∙ c.table.ensures)
    ∙ ap (λ d. events_of (cons (shifted c.args.shift (focus d)) nil)) c.row.ensures.place

pub returns-in-Ok-clause-ok : goal.returns-in-Ok-clause-ok
returns-in-Ok-clause-ok c = ok_of c.args.shift (focus c.args.node.now) c.push_rows.new.out c.finish.result (made (goal.at.returns-in-Ok-clause-ok c).In-Ok) c.finish.ensures.ok

pub returns-in-Ok-clause-short : goal.returns-in-Ok-clause-short
returns-in-Ok-clause-short c = short_of c.args.shift (focus c.args.node.now) c.push_rows.new.out c.finish.result c.placed.ensures.node (made (goal.at.returns-in-Ok-clause-short c).In-Ok) c.finish.ensures.accepted

pub returns-in-Ok-clause-refused : goal.returns-in-Ok-clause-refused
returns-in-Ok-clause-refused c = refused_of c.args.shift (focus c.args.node.now) c.push_rows.new.out c.finish.result c.placed.ensures.node (made (goal.at.returns-in-Ok-clause-refused c).In-Ok) c.finish.ensures.refused
