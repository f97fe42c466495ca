use Rattle.std.proofs.Common.{◌≡◌, drop}
use Rattle.tree_match.specs.Walks.{levels_of}
use Rattle.tree_match.specs.Matching.{match_from, match_parts}
use Rattle.tree_match.proofs.matching.match_parts.Given as goal

abbrev pub invariant-loop-part : goal.invariant-loop-part
invariant-loop-part l =
    (l.walk.comments ≡ l.fn.comments)
    × (match_from l.fn.comments l.holes (drop l.part-index l.parts) (levels_of l.walk) l.values.items ≡ match_parts l.fn.comments l.holes l.parts l.count l.start)
