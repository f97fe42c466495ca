use Rattle.std.proofs.Common.{◌≡◌, take, string_bytes}
use Rattle.ras_c.specs.Read.{messages_of}
use Rattle.ras_c.proofs.read.joined.Given as goal

abbrev pub invariant-loop-error : goal.invariant-loop-error
invariant-loop-error l = string_bytes l.messages ≡ messages_of (take l.error-index l.errors)
