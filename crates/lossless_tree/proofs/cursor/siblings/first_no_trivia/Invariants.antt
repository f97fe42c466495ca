use Rattle.std.proofs.Common.{◌≡◌, length}
use Rattle.std.specs.List.{find}
use Rattle.tree_model.specs.NearestToken.{is_no_trivia}
use Rattle.lossless_tree.proofs.cursor.siblings.first_no_trivia.Given as goal

abbrev pub invariant-loop-element : goal.invariant-loop-element
invariant-loop-element l = record {
  same : find is_no_trivia l.left ≡ find is_no_trivia l.fn.elements;
}

abbrev pub decreases-loop-element : goal.decreases-loop-element
decreases-loop-element l = length l.left
