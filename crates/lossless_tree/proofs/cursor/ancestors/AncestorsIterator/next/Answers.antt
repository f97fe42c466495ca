use Rattle.std.proofs.Common.{◌∙◌, sym, ap, length, arith}
use Rattle.tree_model.proofs.AncestorLemmas.{ancestors_from-step}
use Rattle.lossless_tree.proofs.cursor.ancestors.AncestorsIterator.next.Goals as goal

pub returns-clause-steps : goal.returns-clause-steps
returns-clause-steps c = ancestors_from-step _ _ c.in_ok-node.node _ c.self.view_is (sym c.take.ensures.value ∙ c.in_ok-node.was) c.parent.ensures

pub returns-clause-goes : goal.returns-clause-goes
returns-clause-goes c = record {
  on = λ _. (tt, tt, omega (arith, ap length (ancestors_from-step _ _ c.in_ok-node.node _ c.self.view_is (sym c.take.ensures.value ∙ c.in_ok-node.was) c.parent.ensures)));
  keeps = tt;
  rests = λ _. tt;
}
