use Rattle.std.proofs.Common.{◌≡◌, ◌++◌, drop, map}
use Rattle.tree_match.specs.Finds.{occurrence_of}
use Rattle.ras_c.specs.Rewriting.{match_row}
use Rattle.ras_c.proofs.rewriting.match_rows.Given as goal

abbrev pub invariant-loop-one : goal.invariant-loop-one
invariant-loop-one l = l.rows.items ++ map match_row (map occurrence_of (drop l.one-index l.found)) ≡ map match_row (map occurrence_of l.found)
