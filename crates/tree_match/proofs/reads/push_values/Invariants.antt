use Rattle.std.proofs.Common.{drop}
use Rattle.tree_match.proofs.ReadLemmas.{ToCome}
use Rattle.tree_match.proofs.reads.push_values.Given as goal

abbrev pub invariant-loop-new : goal.invariant-loop-new
invariant-loop-new l = ToCome l.left.rest.now (drop l.new-index l.news) l.tasks.items l.fn.olds l.news l.fn.tasks.items
