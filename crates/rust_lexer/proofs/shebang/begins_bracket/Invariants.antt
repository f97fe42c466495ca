use Rattle.std.proofs.Common.{◌≡◌, ◌-◌, length}
use Rattle.std.specs.Str.{IsUtf8}
use Rattle.rust_lexer.specs.Heads.{begins_bracket_of}
use Rattle.rust_lexer.proofs.shebang.begins_bracket.Given as goal

abbrev pub invariant-loop-turn : goal.invariant-loop-turn
invariant-loop-turn l = record {
  is_text : IsUtf8 l.rest;
  same : begins_bracket_of (length l.text - l.turn) l.edition l.rest ≡ begins_bracket_of (length l.text) l.edition l.text;
}
