use Rattle.std.proofs.Common.{◌≡◌, ◌≤◌, ◌<◌, ◌^◌, ◌∙◌, ap, subst, length}
use Rattle.tree_model.specs.Tree.{Tree, cons, nil, text}
use Rattle.tree_model.specs.Events.{events_of, text_len}
use Rattle.tree_edit_model.specs.Changes.{changed}
use Rattle.tree_edits.proofs.StepLemmas.{is_one, changed_node, made_tree, ok_along, same_tree, tree_text_len}
use Rattle.tree_edits.proofs.finish.changed_table.Goals as goal

pub finish-requires : goal.finish-requires
finish-requires g c =
    is_one c.push_changed.new.out (changed g.at c.args.table.now)
    (made_tree g.at c.args.table.now c.args.changes.now.marks.items c.args.changes.now.changes.items c.new-out.result c.push_changed.new.out c.requires.0 c.requires.1 c.new-out.ensures c.in-Ok.ensures)
    (changed_node g.at c.args.table.now c.requires.1)

pub returns-in-Ok-clause-ok : goal.returns-in-Ok-clause-ok
returns-in-Ok-clause-ok g c =
    let t : Tree = changed g.at c.args.table.now in
    let made : c.push_changed.new.out ≡ events_of (cons t nil) =
    made_tree g.at c.args.table.now c.args.changes.now.marks.items c.args.changes.now.changes.items c.new-out.result c.push_changed.new.out c.requires.0 c.requires.1 c.new-out.ensures c.in-Ok.ensures in
    ok_along c.finish.result (λ x. events_of (cons x nil) ≡ c.push_changed.new.out) (λ x. x ≡ t) (λ x h. same_tree x t (h ∙ made)) c.finish.ensures.ok

pub returns-in-Ok-clause-too_long : goal.returns-in-Ok-clause-too_long
returns-in-Ok-clause-too_long g c = λ e.
    let t : Tree = changed g.at c.args.table.now in
    let made : c.push_changed.new.out ≡ events_of (cons t nil) =
    made_tree g.at c.args.table.now c.args.changes.now.marks.items c.args.changes.now.changes.items c.new-out.result c.push_changed.new.out c.requires.0 c.requires.1 c.new-out.ensures c.in-Ok.ensures in
    subst (λ n. 2 ^ 32 ≤ n) (ap text_len made ∙ tree_text_len t) (c.finish.ensures.too_long.0 e)

pub returns-in-Ok-clause-short : goal.returns-in-Ok-clause-short
returns-in-Ok-clause-short g c =
    let t : Tree = changed g.at c.args.table.now in
    let made : c.push_changed.new.out ≡ events_of (cons t nil) =
    made_tree g.at c.args.table.now c.args.changes.now.marks.items c.args.changes.now.changes.items c.new-out.result c.push_changed.new.out c.requires.0 c.requires.1 c.new-out.ensures c.in-Ok.ensures in
    ok_along c.finish.result (λ _. text_len c.push_changed.new.out < 2 ^ 32) (λ _. length (text t) < 2 ^ 32) (λ _ h. subst (λ n. n < 2 ^ 32) (ap text_len made ∙ tree_text_len t) h) c.finish.ensures.short
