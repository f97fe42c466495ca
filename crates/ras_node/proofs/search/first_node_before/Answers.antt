use Rattle.std.proofs.Common.{◌∙◌, sym, ap}
use Rattle.ras_node.specs.Searches.{first_node, before}
use Rattle.lossless_tree.proofs.ChildSteps.{ended}
use Rattle.ras_node.proofs.Steps.{before_found, before_ended, before_passed}
use Rattle.ras_node.proofs.search.first_node_before.Goals as goal

pub returns-then-is_node_among : goal.returns-then-is_node_among
returns-then-is_node_among g c = c.into_node.ensures ∙ before_found g.S.KindSet.kinds g.T.KindSet.kinds c.loop-child.left c.next.new.self c.in-Some.child c.is_node_among.result c.in-Some.ensures.steps c.is_node_among.ensures c.if-is_node_among.true ∙ c.loop-child.invariant.same

pub returns-then-is_token_among : goal.returns-then-is_token_among
returns-then-is_token_among g c = before_ended g.S.KindSet.kinds g.T.KindSet.kinds c.loop-child.left c.next.new.self c.in-Some.child c.is_token_among.result c.in-Some.ensures.steps c.is_token_among.ensures c.if-is_token_among.true ∙ c.loop-child.invariant.same

pub loop-child-preserved-else-is_token_among : goal.loop-child-preserved-else-is_token_among
loop-child-preserved-else-is_token_among g c = record { same = before_passed g.S.KindSet.kinds g.T.KindSet.kinds c.loop-child.left c.next.new.self c.in-Some.child c.is_node_among.result c.is_token_among.result c.in-Some.ensures.steps c.is_node_among.ensures c.if-is_node_among.false c.is_token_among.ensures c.if-is_token_among.false ∙ c.loop-child.invariant.same }

pub loop-child-preserved : goal.loop-child-preserved
loop-child-preserved g c = record { same = before_passed g.S.KindSet.kinds g.T.KindSet.kinds c.loop-child.left c.next.new.self c.in-Some.child c.is_node_among.result c.is_token_among.result c.in-Some.ensures.steps c.is_node_among.ensures c.if-is_node_among.false c.is_token_among.ensures c.if-is_token_among.false ∙ c.loop-child.invariant.same }

pub returns : goal.returns
returns g c = ap (λ k. first_node g.S.KindSet.kinds (before g.T.KindSet.kinds k)) (sym (ended c.loop-child.left c.in_default.ensures.steps.0)) ∙ c.loop-child.invariant.same
