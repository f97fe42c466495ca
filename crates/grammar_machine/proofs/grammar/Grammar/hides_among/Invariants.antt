use Rattle.std.proofs.Common.{◌≡◌, false}
use Rattle.grammar_machine.specs.Running.{tables_of, hides_of}
use Rattle.grammar_machine.proofs.grammar.Grammar.hides_among.Given as goal

abbrev pub invariant-loop-i : goal.invariant-loop-i
invariant-loop-i l = hides_of (tables_of l.self) l.sights l.at l.i ≡ false
