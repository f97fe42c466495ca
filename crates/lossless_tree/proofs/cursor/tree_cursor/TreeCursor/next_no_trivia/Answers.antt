use Rattle.std.proofs.Common.{◌≡◌, ◌∙◌, ap, sym}
use Rattle.std.specs.Prelude.{option_map}
use Rattle.std.specs.List.{find}
use Rattle.tree_model.specs.declared.direction.Direction.TheVariants.{Next}
use Rattle.tree_model.specs.Tree.{next_sibling_place}
use Rattle.tree_model.specs.Rows.{place_at}
use Rattle.tree_model.specs.Cursor.{following_of}
use Rattle.tree_rows.specs.Walks.{siblings_from}
use Rattle.lossless_tree.specs.Element.{element_of}
use Rattle.tree_model.specs.NearestToken.{is_no_trivia}
use Rattle.tree_rows.proofs.ChildLists.{following_is}
use Rattle.lossless_tree.proofs.cursor.tree_cursor.TreeCursor.next_no_trivia.Goals as goal

pub returns : goal.returns
returns c =
    let whole = c.self.inside.table.now.value in
    let row = c.self.inside.row in
    let place : option_map (place_at whole) c.next_sibling_row-later.result ≡ next_sibling_place whole (place_at whole row) = rw (← c.deref.ensures) c.next_sibling_row-later.ensures.place in
    c.first_no_trivia.ensures
    ∙ ap (λ l. option_map element_of (find is_no_trivia l))
    (c.new.ensures ∙ ap (λ t. siblings_from Next t c.next_sibling_row-later.result) c.share.ensures.value ∙ sym (ap following_of (sym c.self.view_is) ∙ following_is whole row c.next_sibling_row-later.result place))
