use Rattle.std.proofs.Common.{false, ◌+◌}
use Rattle.gitignore.specs.Fits.{is_first}
use Rattle.gitignore.proofs.FitsLemmas.{more_marks, not_first}
use Rattle.gitignore.proofs.matching.first_row.Goals as goal

pub loop-byte-preserved : goal.loop-byte-preserved
loop-byte-preserved c =
    more_marks is_first (c.loop-byte._byte-index + 1) c.loop-byte.row.items c.push.new.self.items false c.loop-byte.invariant (not_first c.loop-byte._byte-index)
    c.in_ok-push.ensures.items
