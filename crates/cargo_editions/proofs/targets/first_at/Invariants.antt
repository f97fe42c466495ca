use Rattle.std.proofs.Common.{◌≡◌, drop}
use Rattle.toml.specs.View.{items_view}
use Rattle.cargo_editions.specs.Targets.{first_at}
use Rattle.cargo_editions.proofs.targets.first_at.Given as goal

abbrev pub invariant-loop-target : goal.invariant-loop-target
invariant-loop-target l = first_at l.path (items_view (drop l.target-index l.targets)) ≡ first_at l.path (items_view l.targets)
