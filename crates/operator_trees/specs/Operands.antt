-- Where the operands of a tree are that shows a term.
use Rattle.std.specs.Prelude.{ℕ, suc, List, [], ◌∷◌, ◌++◌, Option, Some, None}
use Rattle.tree_model.specs.Tree.{Tree, Forest, Place, subtree, forest_of_children}
use Rattle.operator_terms.specs.Term.{Term, Method, Call}
use Rattle.operator_terms.specs.Places.{Part, part}
use Rattle.operator_trees.specs.Before.{kid_at, part_kid, argument_kid}

-- an argument: the list among the children, and the argument among the list's
abbrev pub argument_place : ℕ → Forest → ℕ → Place
argument_place n c j = (kid_at c n).number ∷ (kid_at (forest_of_children (kid_at c n).tree) (argument_kid j)).number ∷ []

-- the part of this number, by the children of the node that shows the term
abbrev pub part_place : Term → Forest → ℕ → Place
part_place (Method e n args) c (suc j) = argument_place 3 c j
part_place (Call e args) c (suc j) = argument_place 1 c j
part_place t c i = (kid_at c (part_kid t i)).number ∷ []

-- a step down, and on from there
abbrev pub below_part : (Tree → Term → Place) → Tree → Place → Option Part → Place
below_part f u at None = []
below_part f u at (Some p) = at ++ f (subtree u at) p.term

-- the operand at a place of the term, by the tree that shows the term
abbrev pub operand_place : List ℕ → Tree → Term → Place
operand_place [] u t = []
operand_place (i ∷ q) u t = below_part (operand_place q) u (part_place t (forest_of_children u) i) (part t i)
