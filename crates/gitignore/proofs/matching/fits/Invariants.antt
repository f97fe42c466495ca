use Rattle.std.proofs.Common.{◌≡◌, ◌+◌, length, drop}
use Rattle.gitignore.specs.Fits.{fits, ends, mark_in}
use Rattle.gitignore.proofs.matching.fits.Given as goal

abbrev pub invariant-loop-piece : goal.invariant-loop-piece
invariant-loop-piece l =
    (length l.row.items ≡ length l.path + 1) × (ends (drop l.piece-index l.pieces) l.path (mark_in l.row.items) (length l.path) ≡ fits l.pieces l.path)
