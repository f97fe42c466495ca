use Rattle.std.proofs.Common.{◌≡◌, ◌∷◌, ◌∙◌, sym, ap, length, arith}
use Rattle.tree_model.specs.Cursor.{ancestors_from}
use Rattle.ras_algo.specs.Algo.{merged}
use Rattle.ras_algo.proofs.Merging.{left-step, right-step}
use Rattle.ras_algo.proofs.algo.AncestorsAtOffsetIterator.next.Goals as goal
use Rattle.ras_algo.proofs.algo.AncestorsAtOffsetIterator.next.Goals.{Joined-self-parent, Joined-self-parent-2}

right : (c : Joined-self-parent) → c.args.self.now ≡ c.in_ok-node.node ∷ merged (ancestors_from c.self.inside.left) (ancestors_from c.parent.result)
right c = right-step c.self.inside.left c.self.inside.right _ c.in_ok-node.node _ c.self.view_is (sym c.is_right_next.ensures ∙ c.if-is_right_next.true) (sym c.take.ensures.value ∙ c.in_ok-node.was) c.parent.ensures

pub returns-in_ok-node-clause-steps : goal.returns-in_ok-node-clause-steps
returns-in_ok-node-clause-steps c = right c

pub returns-in_ok-node-clause-goes : goal.returns-in_ok-node-clause-goes
returns-in_ok-node-clause-goes c = record {
  on = λ _. (tt, tt, omega (arith, ap length (right c)));
  keeps = tt;
  rests = λ _. tt;
}

left : (c : Joined-self-parent-2) → c.args.self.now ≡ c.in_ok-node-2.node ∷ merged (ancestors_from c.parent-else-is_right_next.result) (ancestors_from c.self.inside.right)
left c = left-step c.self.inside.left c.self.inside.right _ c.in_ok-node-2.node _ c.self.view_is (sym c.is_right_next.ensures ∙ c.if-is_right_next.false) (sym c.take-else-is_right_next.ensures.value ∙ c.in_ok-node-2.was) c.parent-else-is_right_next.ensures

pub returns-in_ok-node-2-clause-steps : goal.returns-in_ok-node-2-clause-steps
returns-in_ok-node-2-clause-steps c = left c

pub returns-in_ok-node-2-clause-goes : goal.returns-in_ok-node-2-clause-goes
returns-in_ok-node-2-clause-goes c = record {
  on = λ _. (tt, tt, omega (arith, ap length (left c)));
  keeps = tt;
  rests = λ _. tt;
}
