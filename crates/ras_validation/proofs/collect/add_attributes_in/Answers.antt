use Rattle.std.proofs.Common.{◌≡◌, ◌++◌, ◌∙◌, Bool, true, false, not, Option, None, Some, is_some, ap, sym, refl, append-nil}
use Rattle.std.specs.List.{filter}
use Rattle.tree_model.specs.Cursor.{children_of, at_node}
use Rattle.ras_validation.proofs.RowLemmas.{no_attributes}
use Rattle.ras_validation.proofs.collect.add_attributes_in.Goals as goal

absent : {A : Type 0} (o : Option A) (b : Bool) → is_some o ≡ not b → b ≡ true → o ≡ None
absent None b e is = refl
absent (Some x) b e is = (let no : true ≡ false = e ∙ ap not is in cc)

pub returns-then-is_none : goal.returns-then-is_none
returns-then-is_none c =
    let items = c.args.found.now.items in
    let none = sym c.node_child.ensures ∙ absent c.node_child.result c.is_none.result c.is_none.ensures c.if-is_none.true in
    sym (append-nil items) ∙ ap (λ v. items ++ v) (sym (no_attributes (filter at_node (children_of c.args.list.now)) none))
