use Rattle.std.proofs.Common.{ap, sym, ◌∙◌}
use Rattle.operator_powers.specs.Edges.{passed}
use Rattle.operator_powers.proofs.Walk.{pass_step, pass_end, edge_ends, edge_clear}
use Rattle.operator_powers.proofs.edge.edge_of.Goals as goal

pub loop-element-preserved-in-Some : goal.loop-element-preserved-in-Some
loop-element-preserved-in-Some c = (tt, tt, ap (λ e. passed e c.next.new.self) c.pass-edge.ensures ∙ sym (pass_step c.loop-element.edge c.loop-element.element-iterator c.next.new.self c.in-Some.element c.in-Some.ensures.steps) ∙ c.loop-element.invariant.2)

pub loop-element-preserved : goal.loop-element-preserved
loop-element-preserved c = (tt, tt, ap (λ e. passed e c.next.new.self) c.pass-edge.ensures ∙ sym (pass_step c.loop-element.edge c.loop-element.element-iterator c.next.new.self c.in-Some.element c.in-Some.ensures.steps) ∙ c.loop-element.invariant.2)

pub returns-clause-seen : goal.returns-clause-seen
returns-clause-seen c = sym (pass_end c.loop-element.edge c.loop-element.element-iterator c.in-None.ensures.steps.0) ∙ c.loop-element.invariant.2

pub returns-clause-ends : goal.returns-clause-ends
returns-clause-ends c = edge_ends c.args.node.now c.loop-element.edge (sym (pass_end c.loop-element.edge c.loop-element.element-iterator c.in-None.ensures.steps.0) ∙ c.loop-element.invariant.2)

pub returns-clause-clear : goal.returns-clause-clear
returns-clause-clear c = edge_clear c.args.node.now c.loop-element.edge (sym (pass_end c.loop-element.edge c.loop-element.element-iterator c.in-None.ensures.steps.0) ∙ c.loop-element.invariant.2)
