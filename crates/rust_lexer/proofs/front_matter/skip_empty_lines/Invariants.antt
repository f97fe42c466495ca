use Rattle.std.proofs.Common.{◌≡◌, ◌-◌, length}
use Rattle.rust_lexer.specs.Heads.{empty_lines}
use Rattle.rust_lexer.proofs.front_matter.skip_empty_lines.Given as goal

abbrev pub invariant-loop-turn : goal.invariant-loop-turn
invariant-loop-turn l = empty_lines (length l.bytes - l.turn) l.behind_line l.rest ≡ empty_lines (length l.bytes) l.bytes l.bytes
