use Rattle.std.proofs.Common.{◌∙◌}
use Rattle.ras_parsing.proofs.Blocks.{passed, hit, ran_out}
use Rattle.ras_parsing.proofs.reparse.first_reparsable.Goals as goal

pub loop-node-preserved : goal.loop-node-preserved
loop-node-preserved g c =
    (tt, tt, passed (g.F.FrontEnd.answers c.args.front.now) c.loop-node.node-iterator c.next.new.self c.in-Some.node c.reparser_of.result c.in-Some.ensures.steps c.reparser_of.ensures c.in_default.is ∙ c.loop-node.invariant.2)

pub returns-in-Some-reparser_of : goal.returns-in-Some-reparser_of
returns-in-Some-reparser_of g c =
    hit (g.F.FrontEnd.answers c.args.front.now) c.loop-node.node-iterator c.next.new.self c.in-Some.node c.reparser_of.result c.in-Some-reparser_of.reparser c.in-Some.ensures.steps c.reparser_of.ensures c.in-Some-reparser_of.is ∙ c.loop-node.invariant.2

pub returns : goal.returns
returns g c = ran_out (g.F.FrontEnd.answers c.args.front.now) c.loop-node.node-iterator c.in-None.ensures.steps.0 ∙ c.loop-node.invariant.2
