use Rattle.std.proofs.Common.{◌≡◌, drop}
use Rattle.syntax_make.specs.Forms.{bits_of, drafted, draft_from, draft_of}
use Rattle.syntax_make.proofs.from_parts.draft_of.Given as goal

abbrev pub invariant-loop-piece : goal.invariant-loop-piece
invariant-loop-piece l = draft_from l.pairs (drafted l.draft) (bits_of (drop l.piece-index l.pieces)) ≡ draft_of l.pairs (bits_of l.pieces)
