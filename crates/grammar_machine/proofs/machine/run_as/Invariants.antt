use Rattle.grammar_machine.specs.Running.{tables_of, state_of}
use Rattle.grammar_machine.proofs.Potential.{potential}
use Rattle.grammar_machine.proofs.StayingRuns.{ComesAs}
use Rattle.grammar_machine.proofs.machine.run_as.Given as goal

abbrev pub invariant-loop-place : goal.invariant-loop-place
invariant-loop-place l = ComesAs l.is_alone (tables_of l.grammar) l.fn.rule l.sights (state_of l.place l.made)

abbrev pub decreases-loop-place : goal.decreases-loop-place
decreases-loop-place l = potential l.sights (state_of l.place l.made)
