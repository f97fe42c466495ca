use Rattle.std.proofs.Common.{◌∙◌}
use Rattle.ras_parsing.proofs.ExactPaths.{passed, hit, ran_out}
use Rattle.ras_parsing.proofs.exact.first_exact.Goals as goal

pub loop-node-preserved : goal.loop-node-preserved
loop-node-preserved g c =
    (tt, tt, passed (g.F.ExactFront.exact c.args.front.now) c.args.delete c.loop-node.node-iterator c.next.new.self c.in-Some.node c.exact_reparser_of.result c.in-Some.ensures.steps c.exact_reparser_of.ensures c.in_default.is ∙ c.loop-node.invariant.2)

pub returns-in-Some-exact_reparser_of : goal.returns-in-Some-exact_reparser_of
returns-in-Some-exact_reparser_of g c =
    hit (g.F.ExactFront.exact c.args.front.now) c.args.delete c.loop-node.node-iterator c.next.new.self c.in-Some.node c.exact_reparser_of.result c.in-Some-exact_reparser_of.reparser c.in-Some.ensures.steps c.exact_reparser_of.ensures c.in-Some-exact_reparser_of.is ∙ c.loop-node.invariant.2

pub returns : goal.returns
returns g c = ran_out (g.F.ExactFront.exact c.args.front.now) c.args.delete c.loop-node.node-iterator c.in-None.ensures.steps.0 ∙ c.loop-node.invariant.2
