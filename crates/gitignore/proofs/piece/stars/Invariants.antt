use Rattle.std.proofs.Common.{◌≡◌, ◌+◌, ◌≤◌, drop}
use Rattle.gitignore.specs.Pieces.{stars}
use Rattle.gitignore.proofs.piece.stars.Given as goal

abbrev pub invariant-loop-byte : goal.invariant-loop-byte
invariant-loop-byte l = (l.count + stars (drop l.byte-index l.text) ≡ stars l.text) × (l.count ≤ l.byte-index)
