use Rattle.std.proofs.Common.{drop}
use Rattle.tree_match.proofs.RootLemmas.{AddingRules}
use Rattle.tree_match.proofs.roots.kinds_of.Given as goal

abbrev pub invariant-loop-rule : goal.invariant-loop-rule
invariant-loop-rule l = AddingRules (drop l.rule-index l.rules) l.fn.rules l.kinds.items
