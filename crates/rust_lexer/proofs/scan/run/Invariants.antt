use Rattle.std.proofs.Common.{◌≡◌, length}
use Rattle.rust_lexer.specs.Scans.{run_of}
use Rattle.rust_lexer.proofs.scan.run.Given as goal

abbrev pub invariant-loop-first : goal.invariant-loop-first
invariant-loop-first l = run_of l.scan l.rest ≡ run_of l.fn.start l.fn.bytes

abbrev pub decreases-loop-first : goal.decreases-loop-first
decreases-loop-first l = length l.rest
