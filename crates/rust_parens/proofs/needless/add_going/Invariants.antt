use Rattle.std.proofs.Common.{◌≡◌, ◌++◌, drop}
use Rattle.rust_parens.proofs.needless.add_going.Given as goal

abbrev pub invariant-loop-pair : goal.invariant-loop-pair
invariant-loop-pair l = l.chosen.items ++ drop l.pair-index l.run ≡ l.fn.chosen.items ++ l.run
