use Rattle.std.proofs.Common.{◌≡◌, ◌∷◌, ◌∙◌, sym, ap, length, arith, is_some}
use Rattle.std.specs.List.{filter}
use Rattle.ras_node.specs.Nodes.{has_kind_in}
use Rattle.ras_node.proofs.ViewLists.{kept, passed_over, none_kept}
use Rattle.ras_node.proofs.children.AstChildrenIterator.next.Goals as goal
use Rattle.ras_node.proofs.children.AstChildrenIterator.next.Goals.{In-Some-cast}

steps : (g : _) (c : In-Some-cast g) → c.args.self.now ≡ g.N.AstNode.node c.in-Some-cast.it ∷ filter (has_kind_in g.N.AstNode.casts) c.next.new.self
steps g c =
    sym c.self.view_is ∙ sym c.loop-node.invariant.same
    ∙ kept (has_kind_in g.N.AstNode.casts) c.loop-node.self-inside.inner c.next.new.self c.in-Some.node (g.N.AstNode.node c.in-Some-cast.it) c.in-Some.ensures.steps c.in-Some-cast.ensures.same (sym c.in-Some-cast.ensures.exact)

pub returns-in-Some-cast-clause-steps : goal.returns-in-Some-cast-clause-steps
returns-in-Some-cast-clause-steps g c = steps g c

pub returns-in-Some-cast-clause-goes : goal.returns-in-Some-cast-clause-goes
returns-in-Some-cast-clause-goes g c = record {
  on = λ _. (tt, tt, omega (arith, ap length (steps g (goal.at.returns-in-Some-cast-clause-goes g c).In-Some-cast)));
  keeps = tt;
  rests = λ _. tt;
}

pub loop-node-preserved : goal.loop-node-preserved
loop-node-preserved g c = record {
  same =
      sym (passed_over (has_kind_in g.N.AstNode.casts) c.loop-node.self-inside.inner c.next.new.self c.in-Some.node c.in-Some.ensures.steps (sym c.cast.ensures.exact ∙ ap is_some c.in_default-cast.is))
      ∙ c.loop-node.invariant.same;
}

pub returns-clause-steps : goal.returns-clause-steps
returns-clause-steps g c = (
  sym c.self.view_is ∙ sym c.loop-node.invariant.same ∙ none_kept (has_kind_in g.N.AstNode.casts) c.loop-node.self-inside.inner c.in_default.ensures.steps.0,
  none_kept (has_kind_in g.N.AstNode.casts) c.next.new.self c.in_default.ensures.steps.1,
)
