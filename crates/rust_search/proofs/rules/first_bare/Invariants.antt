use Rattle.std.proofs.Common.{◌≡◌, drop}
use Rattle.rust_search.specs.Rules.{first_bare}
use Rattle.rust_search.proofs.rules.first_bare.Given as goal

abbrev pub invariant-loop-number : goal.invariant-loop-number
invariant-loop-number l = first_bare l.number (drop l.number l.rules) ≡ first_bare 0 l.rules
