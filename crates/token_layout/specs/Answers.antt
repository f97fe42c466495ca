-- A lexer as functions of the arguments, and what it keeps.
use Rattle.std.specs.Prelude.{ℕ, ◌<◌, ◌^◌, List, length, Option, Bool, All, IsUtf8}
use Rattle.syntax_kind.specs.declared.syntax_kind.SyntaxKind.{SyntaxKind}
use Rattle.ras_front_end.specs.declared.edition.Edition.{Edition}
use Rattle.ras_front_end.specs.ErrorModel.{ErrorModel, LiesIn}
use Rattle.token_layout.specs.declared.span.Token.{Token}
use Rattle.token_layout.specs.Laid.{IsCut}

pub record LexerAnswers : Type 0 where
  pub tokens : Edition → List ℕ → List Token
  pub errors : Edition → List ℕ → List ErrorModel
  pub word : Edition → List ℕ → Option SyntaxKind
  pub is_strict : Edition → SyntaxKind → Bool

-- for texts of fewer than 2^32 bytes: the tokens cut the text, and the errors lie in it
pub record LexerKeeps (lexer : LexerAnswers) : Type 0 where
  pub cut : (edition : Edition) (text : List ℕ) → IsUtf8 text → length text < 2 ^ 32 → IsCut (lexer.tokens edition text) text
  pub lie : (edition : Edition) (text : List ℕ) → IsUtf8 text → length text < 2 ^ 32 → All (LiesIn (length text)) (lexer.errors edition text)
