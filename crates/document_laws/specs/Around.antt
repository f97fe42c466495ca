-- A part of a text of Rust that is some of the lexer's tokens, from `{` on, may be replaced.
use Rattle.std.specs.Prelude.{◌≡◌, ℕ, ◌<◌, ◌^◌, false, IsUtf8, List, ◌++◌, length}
use Rattle.ras_front_end.specs.declared.edition.Edition.{Edition}
use Rattle.token_layout.specs.declared.span.Token.{Token}
use Rattle.token_layout.specs.Laid.{IsCut}
use Rattle.lexer_laws.specs.Cuts.{bytes_of}
use Rattle.lexer_laws.specs.Heads.{may_have_head}
use Rattle.lexer_laws.specs.Pieces.{Opens, IsBraced, IsReplaced}
use Rattle.rust_lexer.specs.Lexing.{tokens_of}

-- the text is in three parts, which the tokens cut; what is from `{` to `}` may come in the place
-- of the second one
pub record IsCutAround (e : Edition) (text : List ℕ) (ts ps us : List Token) : Type 0 where
  pub a : List ℕ
  pub part : List ℕ
  pub c : List ℕ
  pub is : text ≡ a ++ (part ++ c)
  pub before : bytes_of ts ≡ length a
  pub cut_before : IsCut ts a
  pub cut_part : IsCut ps part
  pub cut_behind : IsCut us c
  pub replaced :
      (piece : List ℕ) → IsUtf8 piece → length (a ++ (piece ++ c)) < 2 ^ 32 → IsBraced (tokens_of e piece)
      → IsReplaced e a part piece c ts ps us

abbrev pub TokensAreReplaced : Type 0
TokensAreReplaced =
    (e : Edition) (text : List ℕ) (ts ps us : List Token) → IsUtf8 text → length text < 2 ^ 32 → may_have_head text ≡ false
    → tokens_of e text ≡ ts ++ (ps ++ us) → Opens ps → IsCutAround e text ts ps us
