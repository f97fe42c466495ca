use Rattle.std.proofs.Common.{sym, ◌∙◌}
use Rattle.tree_match.proofs.ListLemmas.{counted}
use Rattle.tree_match.proofs.list.extent.Goals as goal

pub returns : goal.returns
returns c =
    counted c.args.behind c.loop-rest.count c.loop-rest.rest.trees _ (sym c.has_more.ensures ∙ c.loop-rest-test.false) c.loop-rest.invariant
