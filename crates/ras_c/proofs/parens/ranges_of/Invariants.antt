use Rattle.std.proofs.Common.{◌≡◌, ◌++◌, drop, map}
use Rattle.ras_c.specs.Parens.{range_at}
use Rattle.ras_c.proofs.parens.ranges_of.Given as goal

abbrev pub invariant-loop-pair : goal.invariant-loop-pair
invariant-loop-pair l = l.ranges.items ++ map range_at (drop l.pair-index l.pairs) ≡ map range_at l.pairs
