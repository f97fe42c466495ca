use Rattle.std.proofs.Common.{drop}
use Rattle.tree_match.proofs.RootLemmas.{Tabling}
use Rattle.tree_match.proofs.roots.roots_of.Given as goal

abbrev pub invariant-loop-kind : goal.invariant-loop-kind
invariant-loop-kind l = Tabling (drop l.kind-index l.kind-items) l.rules l.roots.items
