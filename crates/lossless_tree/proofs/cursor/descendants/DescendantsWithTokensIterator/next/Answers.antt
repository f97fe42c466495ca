use Rattle.std.proofs.Common.{◌≡◌, ◌+◌, ◌-◌, ◌∷◌, ◌∙◌, sym, ap, map, length, arith}
use Rattle.tree_model.specs.Cursor.{cursors_from}
use Rattle.lossless_tree.specs.Element.{element_of}
use Rattle.tree_model.proofs.WalkLemmas.{cursors_from-step}
use Rattle.lossless_tree.proofs.cursor.descendants.DescendantsWithTokensIterator.next.Goals as goal
use Rattle.lossless_tree.proofs.cursor.descendants.DescendantsWithTokensIterator.next.Goals.{After-element}

steps : (c : After-element) → map element_of c.args.self.now ≡ c.element.result ∷ map element_of (cursors_from c.self.inside.table.value c.next_row-self-inside.result (c.self.inside.end - c.next_row-self-inside.result))
steps c =
    let a = c.self.inside in
    rw c.next_row-self-inside.ensures
    (ap (map element_of) (sym c.self.view_is ∙ cursors_from-step a.table.value a.next a.end c.if-row-self.true)
    ∙ ap (λ x. x ∷ map element_of (cursors_from a.table.value (a.next + 1) (a.end - (a.next + 1)))) (sym c.element.ensures))

pub returns-then-row-self-clause-steps : goal.returns-then-row-self-clause-steps
returns-then-row-self-clause-steps c = steps (goal.at.returns-then-row-self-clause-steps c).After-element

pub returns-then-row-self-clause-goes : goal.returns-then-row-self-clause-goes
returns-then-row-self-clause-goes c = record {
  on = λ _. (tt, tt, omega (arith, ap length (steps (goal.at.returns-then-row-self-clause-goes c).After-element)));
  keeps = tt;
  rests = λ _. tt;
}
