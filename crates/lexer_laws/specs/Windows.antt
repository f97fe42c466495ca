-- The tokens of a text in which a window between braces was replaced. A window may also begin at
-- the start of the text, or end at its end.
use Rattle.std.specs.Prelude.{◌≡◌, ◌⊎◌, ℕ, ◌<◌, ◌^◌, true, false, IsUtf8, List, [], ◌∷◌, ◌++◌, length}
use Rattle.std.specs.List.{flat_map}
use Rattle.syntax_kind.specs.declared.syntax_kind.SyntaxKind.{SyntaxKind}
use Rattle.syntax_kind.specs.declared.syntax_kind.SyntaxKind.TheVariants as kinds
use Rattle.syntax_kind.specs.declared.syntax_kind.token_kind.TokenKind.TheVariants as token
use Rattle.ras_front_end.specs.declared.edition.Edition.{Edition}
use Rattle.token_layout.specs.declared.span.Token.{Token}
use Rattle.rust_grammar.specs.Seeing.{sights_of}
use Rattle.rust_lexer.specs.Lexing.{tokens_of, errors_of}
use Rattle.lexer_laws.specs.Behind.{IsBrace}
use Rattle.lexer_laws.specs.Cuts.{tokens_within, bytes_of}
use Rattle.lexer_laws.specs.Heads.{may_have_head}
use Rattle.lexer_laws.specs.Quiet.{is_quiet_from, ended_by}

-- `{` or `}`
abbrev pub IsBraceKind : SyntaxKind → Type 0
IsBraceKind k = (k ≡ kinds.Token token.L_CURLY) ⊎ (k ≡ kinds.Token token.R_CURLY)

-- the first of the tokens is a brace
pub record BeginsInBrace (ts : List Token) : Type 0 where
  pub first : Token
  pub rest : List Token
  pub begins : ts ≡ first ∷ rest
  pub is_brace : IsBraceKind first.kind

-- the last of the tokens is a brace
pub record EndsInBrace (ts : List Token) : Type 0 where
  pub front : List Token
  pub last : Token
  pub ends : ts ≡ front ++ last ∷ []
  pub is_brace : IsBraceKind last.kind

-- a part of a text that by itself begins and ends in braces, but at the start and the end of the
-- text; the text has no head
pub record IsWindow (e : Edition) (a w c : List ℕ) : Type 0 where
  pub is_text : IsUtf8 (a ++ (w ++ c))
  pub is_part : IsUtf8 w
  pub is_rest : IsUtf8 c
  pub short : length (a ++ (w ++ c)) < 2 ^ 32
  pub no_head : may_have_head (a ++ (w ++ c)) ≡ false
  pub begins : (a ≡ []) ⊎ BeginsInBrace (tokens_of e w)
  pub ends : (c ≡ []) ⊎ EndsInBrace (tokens_of e w)

-- two windows begin with one brace
pub record OneBrace (w q : List ℕ) : Type 0 where
  pub brace : ℕ
  pub old : List ℕ
  pub new : List ℕ
  pub is_brace : IsBrace brace
  pub begins : w ≡ brace ∷ old
  pub new_begins : q ≡ brace ∷ new

-- the tokens of the text are cut before the window w; a window q takes its place; by themselves
-- neither has errors, and there is none behind w
pub record WindowIsReplaced (e : Edition) (a w q c : List ℕ) (ts us : List Token) : Type 0 where
  pub old : IsWindow e a w c
  pub new : IsWindow e a q c
  pub one_brace : (a ≡ []) ⊎ OneBrace w q
  pub are_tokens : tokens_of e (a ++ (w ++ c)) ≡ ts ++ us
  pub cut_before : bytes_of ts ≡ length a
  pub no_errors : errors_of e w ≡ []
  pub no_new_errors : errors_of e q ≡ []
  pub quiet : is_quiet_from (length (a ++ w)) (errors_of e (a ++ (w ++ c))) ≡ true

-- each window brings the tokens that it has by itself, and those around it stay, and all errors;
-- these are before the window
pub record WindowsAreExchanged (e : Edition) (a w q c : List ℕ) (ts : List Token) : Type 0 where
  pub tokens : tokens_of e (a ++ (w ++ c)) ≡ ts ++ (tokens_of e w ++ tokens_within e c)
  pub new_tokens : tokens_of e (a ++ (q ++ c)) ≡ ts ++ (tokens_of e q ++ tokens_within e c)
  pub errors : errors_of e (a ++ (q ++ c)) ≡ errors_of e (a ++ (w ++ c))
  pub early :
      flat_map (ended_by (length a)) (errors_of e (a ++ (w ++ c)))
      ≡ errors_of e (a ++ (w ++ c))
  -- where the machine sees both windows alike, it sees both texts alike
  pub sights :
      sights_of e w (tokens_of e w) ≡ sights_of e q (tokens_of e q)
      → sights_of e (a ++ (w ++ c)) (tokens_of e (a ++ (w ++ c)))
      ≡ sights_of e (a ++ (q ++ c)) (tokens_of e (a ++ (q ++ c)))

abbrev pub WindowsAreReplaced : Type 0
WindowsAreReplaced =
    (e : Edition) (a w q c : List ℕ) (ts us : List Token)
    → WindowIsReplaced e a w q c ts us → WindowsAreExchanged e a w q c ts
