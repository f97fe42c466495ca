use Rattle.std.proofs.Common.{ap, sym, ◌∙◌}
use Rattle.operator_pairs.specs.Next.{first_leaf}
use Rattle.operator_pairs.proofs.Steps.{first-of-node, first_found, first_passed, first_end}
use Rattle.operator_pairs.proofs.behind.kind_in_node.Goals as goal

pub loop-element-init : goal.loop-element-init
loop-element-init c = (tt, tt, ap first_leaf (c.into_iter-element-iterator.ensures.into_iter_gives ∙ c.descendants_with_tokens-element-items.ensures) ∙ first-of-node c.args.node.now)

pub returns-then-is_some : goal.returns-then-is_some
returns-then-is_some c = sym (first_found c.loop-element.element-iterator c.next.new.self c.in-Some.element c.leaf_kind-kind.result c.in-Some.ensures.steps c.leaf_kind-kind.ensures (sym c.is_some.ensures ∙ c.if-is_some.true)) ∙ c.loop-element.invariant.2

pub loop-element-preserved-else-is_some : goal.loop-element-preserved-else-is_some
loop-element-preserved-else-is_some c = (tt, tt, sym (first_passed c.loop-element.element-iterator c.next.new.self c.in-Some.element c.leaf_kind-kind.result c.in-Some.ensures.steps c.leaf_kind-kind.ensures (sym c.is_some.ensures ∙ c.if-is_some.false)) ∙ c.loop-element.invariant.2)

pub loop-element-preserved : goal.loop-element-preserved
loop-element-preserved c = (tt, tt, sym (first_passed c.loop-element.element-iterator c.next.new.self c.in-Some.element c.leaf_kind-kind.result c.in-Some.ensures.steps c.leaf_kind-kind.ensures (sym c.is_some.ensures ∙ c.if-is_some.false)) ∙ c.loop-element.invariant.2)

pub returns : goal.returns
returns c = sym (first_end c.loop-element.element-iterator c.in-None.ensures.steps.0) ∙ c.loop-element.invariant.2
