use Rattle.std.proofs.Common.{◌≡◌, drop}
use Rattle.rust_front.specs.Exact.{is_in}
use Rattle.rust_front.proofs.exact.is_in.Given as goal

abbrev pub invariant-loop-token : goal.invariant-loop-token
invariant-loop-token l = is_in l.left (drop l.token-index l.tokens) ≡ is_in l.fn.byte l.fn.tokens
