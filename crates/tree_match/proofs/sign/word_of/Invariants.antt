use Rattle.std.proofs.Common.{◌≡◌}
use Rattle.tree_model.specs.Tree.{child_count}
use Rattle.tree_match.specs.Signs.{word_of}
use Rattle.tree_match.proofs.sign.word_of.Given as goal

abbrev pub invariant-loop-rest : goal.invariant-loop-rest
invariant-loop-rest l = word_of l.rest.trees ≡ word_of l.inside.trees

abbrev pub decreases-loop-rest : goal.decreases-loop-rest
decreases-loop-rest l = child_count l.rest.trees
