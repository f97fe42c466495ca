use Rattle.std.proofs.Common.{◌≡◌, ◌-◌, reverse}
use Rattle.rust_lexer.specs.History.{is_behind_code_of}
use Rattle.rust_lexer.proofs.history.is_behind_code.Given as goal

abbrev pub invariant-loop-turn : goal.invariant-loop-turn
invariant-loop-turn l = is_behind_code_of (5 - l.turn) (reverse l.earlier) l.text ≡ is_behind_code_of 5 (reverse l.fn.tokens) l.fn.read
