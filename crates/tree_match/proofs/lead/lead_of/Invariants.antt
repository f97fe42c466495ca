use Rattle.std.proofs.Common.{◌≡◌}
use Rattle.tree_model.specs.Tree.{forest_size}
use Rattle.tree_match.specs.Leads.{lead_of}
use Rattle.tree_match.proofs.lead.lead_of.Given as goal

abbrev pub invariant-loop-rest : goal.invariant-loop-rest
invariant-loop-rest l = lead_of l.rest.trees ≡ lead_of l.inside.trees

abbrev pub decreases-loop-rest : goal.decreases-loop-rest
decreases-loop-rest l = forest_size l.rest.trees
