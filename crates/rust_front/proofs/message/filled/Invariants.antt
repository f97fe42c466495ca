use Rattle.std.proofs.Common.{◌≡◌}
use Rattle.std.specs.Prelude.{string_bytes, flat_map}
use Rattle.rust_front.specs.Messages.{filled_char}
use Rattle.rust_front.proofs.message.filled.Given as goal

abbrev pub invariant-loop-c : goal.invariant-loop-c
invariant-loop-c l = string_bytes l.out ≡ flat_map (filled_char l.name) l.yielded
