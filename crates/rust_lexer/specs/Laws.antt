-- What holds of the tokens and errors of every text of less than 2 ^ 32 bytes.
use Rattle.std.specs.Prelude.{ℕ, ◌≤◌, ◌<◌, List, length, All}
use Rattle.ras_front_end.specs.declared.edition.Edition.{Edition}
use Rattle.token_layout.specs.declared.span.Token.{Token}
use Rattle.token_layout.specs.Laid.{IsCut}
use Rattle.rust_lexer.specs.declared.lexer.LexError.{LexError}
use Rattle.rust_lexer.specs.Lexing.{tokens_of, errors_of}

-- the token is not empty
abbrev pub HasBytes : Token → Type 0
HasBytes t = 0 < t.len

-- the range lies in a text of n bytes
abbrev pub ErrorLiesIn : ℕ → LexError → Type 0
ErrorLiesIn n e = (e.range.start ≤ e.range.end) × (e.range.end ≤ n)

-- the tokens cut the text, none is empty, and the errors lie in the text
pub record IsLexed (e : Edition) (text : List ℕ) : Type 0 where
  pub cut : IsCut (tokens_of e text) text
  pub none_empty : All HasBytes (tokens_of e text)
  pub lie : All (ErrorLiesIn (length text)) (errors_of e text)
