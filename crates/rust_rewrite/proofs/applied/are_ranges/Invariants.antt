use Rattle.std.proofs.Common.{drop}
use Rattle.rust_rewrite.proofs.EditLemmas.{LeftSame}
use Rattle.rust_rewrite.proofs.applied.are_ranges.Given as goal

abbrev pub invariant-loop-range : goal.invariant-loop-range
invariant-loop-range l = LeftSame l.indels.rest.now (drop l.range-index l.ranges) l.fn.edit l.ranges
