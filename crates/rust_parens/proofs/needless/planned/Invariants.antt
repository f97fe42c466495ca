use Rattle.std.proofs.Common.{◌≡◌, ◌++◌, drop}
use Rattle.rust_parens.specs.Runs.{planned}
use Rattle.rust_parens.proofs.needless.planned.Given as goal

abbrev pub invariant-loop-pair : goal.invariant-loop-pair
invariant-loop-pair l = l.going.items ++ planned l.marks.rest.now (drop l.pair-index l.pairs) ≡ planned l.stays l.pairs
