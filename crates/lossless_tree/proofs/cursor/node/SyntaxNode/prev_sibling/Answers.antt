use Rattle.std.proofs.Common.{◌≡◌, ◌∙◌, ap, sym}
use Rattle.std.specs.Prelude.{option_map}
use Rattle.std.specs.List.{find}
use Rattle.tree_model.specs.Tree.{prev_sibling_place}
use Rattle.tree_model.specs.Rows.{place_at}
use Rattle.tree_model.specs.Cursor.{at_node, preceding_of}
use Rattle.tree_rows.proofs.ChildLists.{preceding_is}
use Rattle.lossless_tree.proofs.cursor.node.SyntaxNode.prev_sibling.Goals as goal

pub returns : goal.returns
returns c =
    let whole = c.self.inside.table.value in
    let row = c.self.inside.row in
    let place : option_map (place_at whole) c.prev_sibling_row-prev.result ≡ prev_sibling_place (place_at whole row) = rw (← c.deref.ensures) c.prev_sibling_row-prev.ensures.place in
    c.nearest_node.ensures ∙ sym (ap (find at_node) (ap preceding_of (sym c.self.view_is) ∙ preceding_is whole row c.prev_sibling_row-prev.result place))
