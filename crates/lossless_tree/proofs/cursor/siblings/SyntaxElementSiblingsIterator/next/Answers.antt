use Rattle.std.proofs.Common.{◌≡◌, ◌∷◌, ◌∙◌, sym, ap, map, length, arith}
use Rattle.std.specs.Prelude.{option_map}
use Rattle.tree_model.specs.Tree.{sibling_place_in}
use Rattle.tree_model.specs.Rows.{place_at}
use Rattle.tree_rows.specs.Walks.{siblings_from}
use Rattle.lossless_tree.specs.Element.{element_of}
use Rattle.tree_rows.proofs.ChildLists.{siblings_in-step}
use Rattle.lossless_tree.proofs.cursor.siblings.SyntaxElementSiblingsIterator.next.Goals as goal
use Rattle.lossless_tree.proofs.cursor.siblings.SyntaxElementSiblingsIterator.next.Goals.{After-element}

steps : (c : After-element) → map element_of c.args.self.now ≡ c.element.result ∷ map element_of (siblings_from c.self.inside.direction c.self.inside.table.value c.sibling_row-self-inside.result)
steps c =
    let a = c.self.inside in
    let row = c.in_ok-row.row in
    let place : option_map (place_at a.table.value) c.sibling_row-self-inside.result ≡ sibling_place_in a.direction a.table.value (place_at a.table.value row) = rw (← c.deref.ensures) c.sibling_row-self-inside.ensures.place in
    ap (map element_of) (sym c.self.view_is ∙ ap (siblings_from a.direction a.table.value) c.in_ok-row.was ∙ siblings_in-step a.direction a.table.value row c.sibling_row-self-inside.result place)
    ∙ ap (λ x. x ∷ map element_of (siblings_from a.direction a.table.value c.sibling_row-self-inside.result)) (sym c.element.ensures)

pub returns-clause-steps : goal.returns-clause-steps
returns-clause-steps c = steps c

pub returns-clause-goes : goal.returns-clause-goes
returns-clause-goes c = record {
  on = λ _. (tt, tt, omega (arith, ap length (steps c)));
  keeps = tt;
  rests = λ _. tt;
}
