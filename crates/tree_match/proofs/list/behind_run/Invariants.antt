use Rattle.std.proofs.Common.{◌≡◌}
use Rattle.tree_match.specs.Runs.{behind_run}
use Rattle.tree_match.proofs.list.behind_run.Given as goal

abbrev pub invariant-loop-missing : goal.invariant-loop-missing
invariant-loop-missing l = behind_run l.missing l.rest ≡ behind_run l.count l.left

abbrev pub decreases-loop-missing : goal.decreases-loop-missing
decreases-loop-missing l = l.missing
