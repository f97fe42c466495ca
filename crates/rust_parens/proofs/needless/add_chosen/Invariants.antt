use Rattle.std.proofs.Common.{◌≡◌, ◌++◌, drop}
use Rattle.rust_parens.specs.Needless.{chosen}
use Rattle.rust_parens.proofs.needless.add_chosen.Given as goal

abbrev pub invariant-loop-one : goal.invariant-loop-one
invariant-loop-one l = l.found.items ++ chosen (drop l.one-index l.tried) ≡ l.fn.found.items ++ chosen l.tried
