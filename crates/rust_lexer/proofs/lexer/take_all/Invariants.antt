use Rattle.std.proofs.Common.{◌≡◌, ◌-◌, length}
use Rattle.std.specs.Str.{IsUtf8}
use Rattle.rust_lexer.specs.Lexing.{steps_of, lexing_of}
use Rattle.rust_lexer.proofs.lexer.take_all.Given as goal

abbrev pub invariant-loop-turn : goal.invariant-loop-turn
invariant-loop-turn l = record {
  is_text : IsUtf8 l.rest;
  same : steps_of (length l.text - l.turn) l.edition l.text (lexing_of l.lexed l.rest) ≡ steps_of (length l.text) l.edition l.text (lexing_of l.fn.lexed l.fn.rest);
}
