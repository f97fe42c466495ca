use Rattle.std.proofs.Common.{◌≡◌, take, fold}
use Rattle.event_layout.specs.Trivia.{later_of}
use Rattle.event_layout.proofs.layout.joined_len.Given as goal

abbrev pub invariant-loop-token : goal.invariant-loop-token
invariant-loop-token l = l.len ≡ fold (λ n t. later_of n t.len) l.fn.first (take l.token-index l.tokens)
