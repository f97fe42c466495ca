use Rattle.tree_match.specs.Finds.{inside_of}
use Rattle.tree_match.specs.Reads.{AllRead}
use Rattle.tree_match.proofs.ReadLemmas.{Remains}
use Rattle.tree_match.proofs.reads.reads_as.Given as goal

abbrev pub invariant-loop-turn : goal.invariant-loop-turn
invariant-loop-turn l = Remains l.fn.rules l.tasks.items (AllRead l.fn.rules (inside_of l.fn.old) (inside_of l.fn.new))
