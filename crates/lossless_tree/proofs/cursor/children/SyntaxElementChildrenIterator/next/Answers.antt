use Rattle.std.proofs.Common.{◌≡◌, ◌<◌, ◌+◌, ◌∷◌, ◌∙◌, sym, ap, map, length, arith}
use Rattle.tree_model.specs.Tree.{size}
use Rattle.tree_model.specs.Rows.{tree_at}
use Rattle.tree_rows.proofs.StepLemmas.{end_is_behind}
use Rattle.tree_model.specs.Cursor.{cursor_at}
use Rattle.tree_rows.specs.Walks.{siblings_left, HaveParentEnd}
use Rattle.lossless_tree.specs.Element.{element_of}
use Rattle.tree_rows.proofs.ChildLists.{siblings_left-step}
use Rattle.lossless_tree.proofs.cursor.children.SyntaxElementChildrenIterator.next.Goals as goal
use Rattle.lossless_tree.proofs.cursor.children.SyntaxElementChildrenIterator.next.Goals.{After-element}

in_table : (c : After-element) → c.self.inside.next < size c.self.inside.table.value
in_table c = (c.self.invariant c.if-row-self.true).1

moved : (c : After-element) → (siblings_left c.self.inside.table.value c.self.inside.next c.self.inside.end ≡ cursor_at c.self.inside.table.value c.self.inside.next ∷ siblings_left c.self.inside.table.value c.row_behind-self-inside.result c.self.inside.end)
    × HaveParentEnd c.self.inside.table.value c.row_behind-self-inside.result c.self.inside.end
moved c =
    let a = c.self.inside in
    siblings_left-step a.table.value a.next c.row_behind-self-inside.result a.end c.self.invariant c.if-row-self.true (end_is_behind a.table.value a.next c.row_behind-self-inside.result (in_table c) (c.row_behind-self-inside.ensures ∙ ap (λ t. a.next + size (tree_at t a.next)) c.deref.ensures))

pub invariant_of-self : goal.invariant_of-self
invariant_of-self c = (moved (goal.at.invariant_of-self c).After-element).1

steps : (c : After-element) → map element_of c.args.self.now ≡ c.element.result ∷ map element_of (siblings_left c.self.inside.table.value c.row_behind-self-inside.result c.self.inside.end)
steps c =
    let a = c.self.inside in
    ap (map element_of) (sym c.self.view_is ∙ (moved c).0)
    ∙ ap (λ x. x ∷ map element_of (siblings_left a.table.value c.row_behind-self-inside.result a.end)) (sym c.element.ensures)

pub returns-then-row-self-clause-steps : goal.returns-then-row-self-clause-steps
returns-then-row-self-clause-steps c = steps (goal.at.returns-then-row-self-clause-steps c).After-element

pub returns-then-row-self-clause-goes : goal.returns-then-row-self-clause-goes
returns-then-row-self-clause-goes c = record {
  on = λ _. (tt, tt, omega (arith, ap length (steps (goal.at.returns-then-row-self-clause-goes c).After-element)));
  keeps = tt;
  rests = λ _. tt;
}
