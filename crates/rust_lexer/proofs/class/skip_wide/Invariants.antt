use Rattle.std.proofs.Common.{◌≡◌, ◌-◌, length}
use Rattle.rust_lexer.specs.Classes.{skip_some}
use Rattle.rust_lexer.proofs.class.skip_wide.Given as goal

abbrev pub invariant-loop-turn : goal.invariant-loop-turn
invariant-loop-turn l = skip_some (length l.bytes - l.turn) l.class l.rest ≡ skip_some (length l.bytes) l.class l.bytes
