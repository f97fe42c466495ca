use Rattle.std.proofs.Common.{◌≡◌, drop}
use Rattle.grammar_front.specs.Reports.{next_from}
use Rattle.grammar_front.proofs.report.next_from.Given as goal

-- the tokens before are trivia, and `position` is where the next one begins
abbrev pub invariant-loop-token : goal.invariant-loop-token
invariant-loop-token l = next_from l.position (drop l.token-index l.tokens) ≡ next_from l.fn.start l.tokens
