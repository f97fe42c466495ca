use Rattle.std.proofs.Common.{◌≡◌, ◌∷◌, [], length}
use Rattle.std.specs.Cmp.Lexicographic.{pointwise}
use Rattle.tree_match.specs.declared.bare.Comments.TheVariants.{Passed}
use Rattle.tree_match.specs.Bare.{is_same_step}
use Rattle.tree_match.specs.Walks.{levels_of}
use Rattle.tree_match.specs.Same.{steps_left}
use Rattle.tree_match.proofs.same.same_siblings.Given as goal

abbrev pub invariant-loop-second : goal.invariant-loop-second
invariant-loop-second l =
    (l.first.comments ≡ Passed) × (l.second.comments ≡ Passed)
    × (pointwise is_same_step (steps_left Passed (levels_of l.first)) (steps_left Passed (levels_of l.second))
    ≡ pointwise is_same_step (steps_left Passed (l.fn.a ∷ [])) (steps_left Passed (l.fn.b ∷ [])))

abbrev pub decreases-loop-second : goal.decreases-loop-second
decreases-loop-second l = length (steps_left Passed (levels_of l.first))
