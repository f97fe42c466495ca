use Rattle.std.proofs.Common.{◌≡◌, List, ℕ}
use Rattle.tree_model.specs.Tree.{Tree}
use Rattle.operator_terms.specs.Term.{Term}
use Rattle.operator_terms.specs.Places.{Part, AtLeast}
use Rattle.operator_trees.proofs.Put.{operand_put}
use Rattle.operator_trees.proofs.laws.a_node_in_the_place_of_an_operand.Goals as goal

pub returns : goal.returns
returns c = λ u v t s q p shown at is. operand_put s v is q u (AtLeast 0) t p shown at
