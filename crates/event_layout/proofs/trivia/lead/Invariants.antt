use Rattle.std.proofs.Common.{◌≡◌, ◌+◌, drop}
use Rattle.event_layout.specs.Trivia.{lead}
use Rattle.event_layout.proofs.trivia.lead.Given as goal

abbrev pub invariant-loop-i : goal.invariant-loop-i
invariant-loop-i l = l.i + lead (drop l.i l.tokens) ≡ lead l.tokens
