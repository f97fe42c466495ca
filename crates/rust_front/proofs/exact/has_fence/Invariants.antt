use Rattle.std.proofs.Common.{◌≡◌, drop}
use Rattle.rust_front.specs.Heads.{has_fence_of}
use Rattle.rust_front.proofs.exact.has_fence.Given as goal

abbrev pub invariant-loop-byte : goal.invariant-loop-byte
invariant-loop-byte l = has_fence_of (drop l.byte-index l.byte-items) ≡ has_fence_of l.fn.text
