use Rattle.std.proofs.Common.{ap, ◌∙◌}
use Rattle.std.specs.Prelude.{Some}
use Rattle.tree_match.specs.Runs.{run_of}
use Rattle.tree_match.proofs.RunLemmas.{less_seen, more_seen}
use Rattle.tree_match.proofs.run.Run.first.Goals as goal

pub returns-then-other-count : goal.returns-then-other-count
returns-then-other-count c =
    c.all-then-other-count.ensures
    ∙ less_seen c.args.self.now c.self.inside.left c.self.inside.count c.args.count c.in-Some.other c.self.view_is c.in-Some.is c.if-other-count.true

pub returns : goal.returns
returns c =
    ap (run_of (Some c.args.count)) c.all-2.ensures
    ∙ more_seen c.args.self.now c.self.inside.left c.self.inside.count c.args.count c.in-Some.other c.self.view_is c.in-Some.is c.if-other-count.false
