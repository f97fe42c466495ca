-- What holds where one token of a window was given another text.
use Rattle.std.specs.Prelude.{◌≡◌, ◌⊎◌, ℕ, ◌<◌, ◌^◌, true, false, IsUtf8, List, [], ◌∷◌, ◌++◌, length}
use Rattle.text_size.specs.TextRange.{Bounds}
use Rattle.syntax_kind.specs.declared.syntax_kind.SyntaxKind.{SyntaxKind}
use Rattle.syntax_kind.specs.declared.syntax_kind.SyntaxKind.TheVariants as kinds
use Rattle.syntax_kind.specs.declared.syntax_kind.token_kind.TokenKind.TheVariants as token
use Rattle.syntax_kind.specs.Kinds.{is_trivia}
use Rattle.ras_front_end.specs.declared.edition.Edition.{Edition}
use Rattle.token_layout.specs.declared.span.Token.{Token}
use Rattle.event_layout.specs.Amid.{sum_len}
use Rattle.event_layout.specs.Trivia.{has_blank_line, is_comment}
use Rattle.event_layout.specs.Layout.{is_number}
use Rattle.rust_grammar.specs.Seeing.{sights_of}
use Rattle.rust_lexer.specs.Lexing.{tokens_of, errors_of}
use Rattle.rust_front.specs.Heads.{has_head_of}
use Rattle.rust_front.specs.Retold.{has_dot, ends_in_dot, part_of, len_of, new_len, is_retold_of}

-- `{` or `}`
abbrev pub IsBraceKind : SyntaxKind → Type 0
IsBraceKind k = (k ≡ kinds.Token token.L_CURLY) ⊎ (k ≡ kinds.Token token.R_CURLY)

-- the first of the tokens is a brace
pub record BeginsInBrace (ts : List Token) : Type 0 where
  pub first : Token
  pub rest : List Token
  pub begins : ts ≡ first ∷ rest
  pub is_brace : IsBraceKind first.kind

-- the last of the tokens is a brace
pub record EndsInBrace (ts : List Token) : Type 0 where
  pub front : List Token
  pub last : Token
  pub ends : ts ≡ front ++ last ∷ []
  pub is_brace : IsBraceKind last.kind

-- a window stands between braces, but at the start and the end of the text, and has no errors
pub record StandsAlone (e : Edition) (before window behind : List ℕ) : Type 0 where
  pub short : length window < 2 ^ 32
  pub begins : (before ≡ []) ⊎ BeginsInBrace (tokens_of e window)
  pub ends : (behind ≡ []) ⊎ EndsInBrace (tokens_of e window)
  pub no_errors : errors_of e window ≡ []

-- the tokens of the windows are the same but for the length of the one at the range t
pub record OneTokenDiffers (e : Edition) (old new : List ℕ) (t : Bounds) : Type 0 where
  pub kind : SyntaxKind
  pub front : List Token
  pub back : List Token
  pub tokens : tokens_of e old ≡ front ++ record { kind = kind; len = len_of t } ∷ back
  pub new_tokens :
      tokens_of e new ≡ front ++ record { kind = kind; len = new_len old new (len_of t) } ∷ back
  pub starts : sum_len front ≡ t.start
  pub new_some : 0 < new_len old new (len_of t)
  -- white space says, by its blank lines, which comments go into the next node
  pub lines :
      is_trivia kind ≡ true → is_comment kind ≡ false
      → has_blank_line (part_of old t.start (len_of t))
      ≡ has_blank_line (part_of new t.start (new_len old new (len_of t)))
  -- a number may be cut at its dot
  pub no_dot : is_number kind ≡ true → has_dot (part_of old t.start (len_of t)) ≡ false
  pub no_new_dot :
      is_number kind ≡ true → has_dot (part_of new t.start (new_len old new (len_of t))) ≡ false

-- one token of a window was given another text, which is the only difference for the machine and
-- the layout
pub record IsRetoldAs (e : Edition) (before old new behind : List ℕ) (t : Bounds) : Type 0 where
  pub stands : StandsAlone e before old behind
  pub new_stands : StandsAlone e before new behind
  pub no_head : before ≡ [] → has_head_of new ≡ false
  pub no_dot_before : ends_in_dot before ≡ false
  pub not_first : (before ≡ []) ⊎ (0 < t.start)
  pub some : t.start < t.end
  pub differs : OneTokenDiffers e old new t
  pub sights : sights_of e old (tokens_of e old) ≡ sights_of e new (tokens_of e new)

abbrev pub RetoldWindowsAreAlike : Type 0
RetoldWindowsAreAlike =
    (e : Edition) (before old new behind : List ℕ) (t : Bounds)
    → IsUtf8 old → IsUtf8 new
    → is_retold_of e before old new behind t ≡ true → IsRetoldAs e before old new behind t
