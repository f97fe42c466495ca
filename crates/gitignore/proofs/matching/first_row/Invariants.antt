use Rattle.std.proofs.Common.{◌≡◌, ◌+◌}
use Rattle.gitignore.specs.Fits.{marks_of, is_first}
use Rattle.gitignore.proofs.matching.first_row.Given as goal

abbrev pub invariant-loop-byte : goal.invariant-loop-byte
invariant-loop-byte l = l.row.items ≡ marks_of is_first (l._byte-index + 1)
