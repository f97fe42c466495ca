use Rattle.std.proofs.Common.{◌≡◌, drop}
use Rattle.rust_front.specs.Messages.{next_kind_of}
use Rattle.rust_front.proofs.message.next_kind.Given as goal

abbrev pub invariant-loop-token : goal.invariant-loop-token
invariant-loop-token l = next_kind_of l.tokens ≡ next_kind_of (drop l.token-index l.tokens)
