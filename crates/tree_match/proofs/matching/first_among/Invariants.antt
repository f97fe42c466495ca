use Rattle.std.proofs.Common.{◌≡◌, drop}
use Rattle.tree_match.specs.Matching.{first_among}
use Rattle.tree_match.proofs.matching.first_among.Given as goal

abbrev pub invariant-loop-number : goal.invariant-loop-number
invariant-loop-number l =
    first_among l.rules (drop l.number-index l.numbers) l.kind l.inside
    ≡ first_among l.rules l.numbers l.kind l.inside
