use Rattle.std.proofs.Common.{ap, ◌∙◌}
use Rattle.tree_model.specs.Tree.{kind_of}
use Rattle.tree_match.proofs.RunLemmas.{first_seen}
use Rattle.tree_match.proofs.run.Run.kind.Goals as goal

pub returns : goal.returns
returns c =
    c.kind-2.ensures
    ∙ ap kind_of (first_seen c.args.self.now c.self.inside.left c.self.inside.count c.in-Some.count c.self.view_is c.in-Some.is c.if-count-eq0.false)
