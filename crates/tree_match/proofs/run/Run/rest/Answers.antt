use Rattle.tree_match.proofs.RunLemmas.{rest_seen}
use Rattle.tree_match.proofs.run.Run.rest.Goals as goal

pub returns : goal.returns
returns c =
    rest_seen c.args.self.now c.self.inside.left c.rest-2.result c.self.inside.count c.in-Some.count c.self.view_is c.in-Some.is c.if-count-eq0.false c.rest-2.ensures
