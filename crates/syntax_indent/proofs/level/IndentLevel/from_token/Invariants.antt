use Rattle.std.proofs.Common.{◌≡◌, length}
use Rattle.syntax_indent.specs.Level.{first_level, tokens_back, level_at}
use Rattle.syntax_indent.proofs.level.IndentLevel.from_token.Given as goal

abbrev pub invariant-loop-next : goal.invariant-loop-next
invariant-loop-next l = first_level (tokens_back l.next) ≡ level_at l.token

abbrev pub decreases-loop-next : goal.decreases-loop-next
decreases-loop-next l = length (tokens_back l.next)
