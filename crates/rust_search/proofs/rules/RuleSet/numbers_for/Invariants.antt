use Rattle.std.proofs.Common.{◌≡◌, ◌++◌, drop}
use Rattle.rust_search.specs.Rules.{numbers_for}
use Rattle.rust_search.proofs.rules.RuleSet.numbers_for.Given as goal

abbrev pub invariant-loop-number : goal.invariant-loop-number
invariant-loop-number l = l.numbers.items ++ numbers_for l.number l.path (drop l.number l.self.notes.items) ≡ numbers_for 0 l.path l.self.notes.items
