use Rattle.std.proofs.Common.{◌≡◌, take, fold}
use Rattle.event_layout.specs.Trivia.{attached_after}
use Rattle.event_layout.proofs.trivia.attached.Given as goal

abbrev pub invariant-loop-token : goal.invariant-loop-token
invariant-loop-token l = l.attached ≡ fold (λ a t. attached_after l.bytes t a) (record { kept = 0; start = l.fn.start }) (take l.token-index l.trivia)
