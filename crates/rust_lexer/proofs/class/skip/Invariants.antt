use Rattle.std.proofs.Common.{◌≡◌, length}
use Rattle.rust_lexer.specs.Classes.{skip_of}
use Rattle.rust_lexer.proofs.class.skip.Given as goal

abbrev pub invariant-loop-first : goal.invariant-loop-first
invariant-loop-first l = skip_of l.class l.rest ≡ skip_of l.class l.fn.bytes

abbrev pub decreases-loop-first : goal.decreases-loop-first
decreases-loop-first l = length l.rest
