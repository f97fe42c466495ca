use Rattle.std.proofs.Common.{true, length}
use Rattle.gitignore.specs.Pieces.{PiecesAt}
use Rattle.gitignore.proofs.piece.pieces_of.Given as goal

abbrev pub invariant-loop-rest : goal.invariant-loop-rest
invariant-loop-rest l = PiecesAt true l.glob l.pieces.items l.is_start l.rest

abbrev pub decreases-loop-rest : goal.decreases-loop-rest
decreases-loop-rest l = length l.rest
