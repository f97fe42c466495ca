use Rattle.std.proofs.Common.{◌≡◌, drop}
use Rattle.rust_front.specs.Retold.{are_same_tokens}
use Rattle.rust_front.proofs.retold.are_same_tokens.Given as goal

abbrev pub invariant-loop-token : goal.invariant-loop-token
invariant-loop-token l = are_same_tokens (drop l.token-index l.old) l.left ≡ are_same_tokens l.fn.old l.fn.new
