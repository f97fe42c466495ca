use Rattle.std.proofs.Common.{◌≡◌, ◌≤◌, drop}
use Rattle.ras_front_end.specs.Balanced.{open_after}
use Rattle.ras_front_end.proofs.balanced.balances.Given as goal

abbrev pub invariant-loop-kind : goal.invariant-loop-kind
invariant-loop-kind l = record { same : open_after l.open (drop l.kind-index l.kinds) ≡ open_after 0 l.kinds; few : l.open ≤ l.kind-index }
