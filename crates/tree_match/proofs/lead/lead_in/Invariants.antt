use Rattle.std.proofs.Common.{◌≡◌, length}
use Rattle.tree_match.specs.Leads.{lead_in}
use Rattle.tree_match.proofs.lead.lead_in.Given as goal

abbrev pub invariant-loop-part : goal.invariant-loop-part
invariant-loop-part l = lead_in l.rest ≡ lead_in l.parts

abbrev pub decreases-loop-part : goal.decreases-loop-part
decreases-loop-part l = length l.rest
