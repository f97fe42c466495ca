use Rattle.std.proofs.Common.{◌≡◌, ◌++◌, map, length}
use Rattle.tree_match.specs.Finds.{occurrence_of, found_from, found_in}
use Rattle.tree_match.proofs.JumpLemmas.{Rises}
use Rattle.tree_match.proofs.places.find.Given as goal

abbrev pub invariant-loop-node : goal.invariant-loop-node
invariant-loop-node l = record {
  same :
      map occurrence_of l.matches.items ++ found_from l.fn.rules l.free.items l.left
      ≡ found_in l.fn.rules l.fn.root;
  rises : Rises 0 l.left;
}

abbrev pub decreases-loop-node : goal.decreases-loop-node
decreases-loop-node l = length l.left
