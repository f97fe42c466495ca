-- The lexer as functions of its arguments.
use Rattle.std.specs.Prelude.{map}
use Rattle.token_layout.specs.Answers.{LexerAnswers}
use Rattle.tiny_lexer.specs.Keywords.{keyword_of, is_strict_of}
use Rattle.tiny_lexer.specs.Lexing.{tokens_of, complaints_of}
use Rattle.tiny_lexer.specs.Reports.{error_of}

abbrev pub tiny_lexer : LexerAnswers
tiny_lexer = record {
  tokens = λ edition text. tokens_of edition text;
  errors = λ edition text. map error_of (complaints_of edition text);
  word = λ edition text. keyword_of edition text;
  is_strict = λ edition kind. is_strict_of edition kind;
}
