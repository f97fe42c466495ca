use Rattle.std.proofs.Common.{◌≡◌, ◌∙◌, ap, sym}
use Rattle.std.specs.Prelude.{option_map}
use Rattle.std.specs.List.{find}
use Rattle.tree_model.specs.Tree.{next_sibling_place}
use Rattle.tree_model.specs.Rows.{place_at}
use Rattle.tree_model.specs.Cursor.{at_node, following_of}
use Rattle.tree_rows.proofs.ChildLists.{following_is}
use Rattle.lossless_tree.proofs.cursor.node.SyntaxNode.next_sibling.Goals as goal

pub returns : goal.returns
returns c =
    let whole = c.self.inside.table.value in
    let row = c.self.inside.row in
    let place : option_map (place_at whole) c.next_sibling_row-next.result ≡ next_sibling_place whole (place_at whole row) = rw (← c.deref.ensures) c.next_sibling_row-next.ensures.place in
    c.nearest_node.ensures ∙ sym (ap (find at_node) (ap following_of (sym c.self.view_is) ∙ following_is whole row c.next_sibling_row-next.result place))
