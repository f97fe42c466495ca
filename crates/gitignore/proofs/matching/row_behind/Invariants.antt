use Rattle.std.proofs.Common.{◌≡◌, ◌+◌}
use Rattle.gitignore.specs.Fits.{marks_of, mark_in, step, seen_before}
use Rattle.gitignore.proofs.matching.row_behind.Given as goal

abbrev pub invariant-loop-at : goal.invariant-loop-at
invariant-loop-at l =
    (l.row.items ≡ marks_of (step l.piece l.path (mark_in l.before)) (l.at + 1)) × (l.seen ≡ seen_before l.piece l.path (mark_in l.before) l.at)
