use Rattle.std.proofs.Common.{◌∙◌, sym, ap}
use Rattle.ras_node.specs.Searches.{behind}
use Rattle.lossless_tree.proofs.ChildSteps.{ended}
use Rattle.ras_node.proofs.Steps.{behind_found, behind_passed}
use Rattle.ras_node.proofs.search.behind.Goals as goal

pub returns-then-is_token_among : goal.returns-then-is_token_among
returns-then-is_token_among g c = behind_found g.T.KindSet.kinds c.loop-child.left c.next.new.self c.in-Some.child c.is_token_among.result c.in-Some.ensures.steps c.is_token_among.ensures c.if-is_token_among.true ∙ c.loop-child.invariant.same

pub loop-child-preserved-else-is_token_among : goal.loop-child-preserved-else-is_token_among
loop-child-preserved-else-is_token_among g c = record { same = behind_passed g.T.KindSet.kinds c.loop-child.left c.next.new.self c.in-Some.child c.is_token_among.result c.in-Some.ensures.steps c.is_token_among.ensures c.if-is_token_among.false ∙ c.loop-child.invariant.same }

pub loop-child-preserved : goal.loop-child-preserved
loop-child-preserved g c = record { same = behind_passed g.T.KindSet.kinds c.loop-child.left c.next.new.self c.in-Some.child c.is_token_among.result c.in-Some.ensures.steps c.is_token_among.ensures c.if-is_token_among.false ∙ c.loop-child.invariant.same }

pub returns : goal.returns
returns g c = ended c.next.new.self c.in_default.ensures.steps.1 ∙ ap (behind g.T.KindSet.kinds) (sym (ended c.loop-child.left c.in_default.ensures.steps.0)) ∙ c.loop-child.invariant.same
