use Rattle.std.proofs.Common.{◌≡◌, ◌∙◌, ap, sym, reverse}
use Rattle.std.specs.Prelude.{option_map}
use Rattle.std.specs.List.{find}
use Rattle.tree_model.specs.Tree.{last_child_place}
use Rattle.tree_model.specs.Rows.{place_at}
use Rattle.tree_model.specs.Cursor.{at_node, children_of}
use Rattle.tree_rows.proofs.ChildLists.{reversed_children_are}
use Rattle.lossless_tree.proofs.cursor.node.SyntaxNode.last_child.Goals as goal

pub returns : goal.returns
returns c =
    let whole = c.self.inside.table.value in
    let row = c.self.inside.row in
    let place : option_map (place_at whole) c.last_child_row-last.result ≡ last_child_place whole (place_at whole row) = rw (← c.deref.ensures) c.last_child_row-last.ensures.place in
    c.nearest_node.ensures ∙ sym (ap (find at_node) (ap (λ x. reverse (children_of x)) (sym c.self.view_is) ∙ reversed_children_are whole row c.last_child_row-last.result place))
