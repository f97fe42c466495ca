-- The tokens of a text in which a piece between braces was replaced.
use Rattle.std.specs.Prelude.{◌≡◌, ℕ, ◌<◌, ◌^◌, false, IsUtf8, List, [], ◌∷◌, ◌++◌, length}
use Rattle.syntax_kind.specs.declared.syntax_kind.SyntaxKind.TheVariants as kinds
use Rattle.syntax_kind.specs.declared.syntax_kind.token_kind.TokenKind.TheVariants as token
use Rattle.ras_front_end.specs.declared.edition.Edition.{Edition}
use Rattle.token_layout.specs.declared.span.Token.{Token}
use Rattle.rust_lexer.specs.Lexing.{tokens_of}
use Rattle.lexer_laws.specs.Cuts.{tokens_within, bytes_of}
use Rattle.lexer_laws.specs.Heads.{may_have_head}

-- the first of the tokens is `{`
pub record Opens (ts : List Token) : Type 0 where
  pub first : Token
  pub rest : List Token
  pub begins : ts ≡ first ∷ rest
  pub is_open : first.kind ≡ kinds.Token token.L_CURLY

-- the last of the tokens is `}`
pub record Closes (ts : List Token) : Type 0 where
  pub front : List Token
  pub last : Token
  pub ends : ts ≡ front ++ last ∷ []
  pub is_close : last.kind ≡ kinds.Token token.R_CURLY

-- the first of the tokens is `{`, and the last one `}`
abbrev pub IsBraced : List Token → Type 0
IsBraced ts = Opens ts × Closes ts

-- a text that is so by itself has the same tokens in a longer text, and so has what follows it
abbrev pub PiecesAreCut : Type 0
PiecesAreCut =
    (e : Edition) (piece c : List ℕ) → IsUtf8 piece → IsUtf8 c → length (piece ++ c) < 2 ^ 32
    → IsBraced (tokens_of e piece) → tokens_within e (piece ++ c) ≡ tokens_of e piece ++ tokens_within e c

-- a part of a text was replaced: the tokens of the text are cut before and behind the part, and the
-- first of it is `{`; by itself the new part is from `{` to `}`; and the text has no head
pub record IsReplaced (e : Edition) (a part piece c : List ℕ) (ts ps us : List Token) : Type 0 where
  pub is_text : IsUtf8 (a ++ (part ++ c))
  pub is_new_text : IsUtf8 (a ++ (piece ++ c))
  pub is_piece_text : IsUtf8 piece
  pub is_rest_text : IsUtf8 c
  pub short : length (a ++ (part ++ c)) < 2 ^ 32
  pub new_short : length (a ++ (piece ++ c)) < 2 ^ 32
  pub no_head : may_have_head (a ++ (part ++ c)) ≡ false
  pub are_tokens : tokens_of e (a ++ (part ++ c)) ≡ ts ++ (ps ++ us)
  pub cut_before : bytes_of ts ≡ length a
  pub cut_behind : bytes_of ps ≡ length part
  pub opens : Opens ps
  pub braced : IsBraced (tokens_of e piece)

-- the new part brings the tokens that it has by itself, and those around it stay
abbrev pub PiecesAreReplaced : Type 0
PiecesAreReplaced =
    (e : Edition) (a part piece c : List ℕ) (ts ps us : List Token) → IsReplaced e a part piece c ts ps us
    → tokens_of e (a ++ (piece ++ c)) ≡ ts ++ (tokens_of e piece ++ us)
