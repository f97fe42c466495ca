-- A token of an operator expression.
use Rattle.std.specs.Prelude.{ℕ, List, [], codes}
use Rattle.syntax_kind.specs.declared.syntax_kind.SyntaxKind.{SyntaxKind}
use Rattle.syntax_kind.specs.declared.syntax_kind.SyntaxKind.TheVariants.{Token as OfToken}
use Rattle.syntax_kind.specs.declared.syntax_kind.token_kind.TokenKind.{TokenKind}
use Rattle.syntax_kind.specs.declared.syntax_kind.token_kind.TokenKind.TheVariants as token

-- a kind, and a text in bytes
pub record Token : Type 0 where
  pub kind : SyntaxKind
  pub text : List ℕ

-- The text of a kind that has just one: the punctuation and keywords of operator expressions (Rust
-- Reference, "Punctuation" and "Keywords"). It is empty for all other kinds.
unfoldable pub fixed_text : TokenKind → List ℕ
fixed_text token.TRUE_KW = codes "true"
fixed_text token.FALSE_KW = codes "false"
fixed_text token.L_PAREN = codes "("
fixed_text token.R_PAREN = codes ")"
fixed_text token.L_BRACK = codes "["
fixed_text token.R_BRACK = codes "]"
fixed_text token.COMMA = codes ","
fixed_text token.DOT = codes "."
fixed_text token.QUESTION = codes "?"
fixed_text token.AWAIT_KW = codes "await"
fixed_text token.MUT_KW = codes "mut"
fixed_text token.AS_KW = codes "as"
fixed_text token.BANG = codes "!"
fixed_text token.AMP = codes "&"
fixed_text token.PIPE = codes "|"
fixed_text token.PLUS = codes "+"
fixed_text token.STAR = codes "*"
fixed_text token.SLASH = codes "/"
fixed_text token.CARET = codes "^"
fixed_text token.PERCENT = codes "%"
fixed_text token.MINUS = codes "-"
fixed_text token.AMP2 = codes "&&"
fixed_text token.PIPE2 = codes "||"
fixed_text token.SHL = codes "<<"
fixed_text token.SHR = codes ">>"
fixed_text token.EQ2 = codes "=="
fixed_text token.NEQ = codes "!="
fixed_text token.L_ANGLE = codes "<"
fixed_text token.R_ANGLE = codes ">"
fixed_text token.LTEQ = codes "<="
fixed_text token.GTEQ = codes ">="
fixed_text token.EQ = codes "="
fixed_text token.PLUSEQ = codes "+="
fixed_text token.MINUSEQ = codes "-="
fixed_text token.PIPEEQ = codes "|="
fixed_text token.AMPEQ = codes "&="
fixed_text token.CARETEQ = codes "^="
fixed_text token.SLASHEQ = codes "/="
fixed_text token.STAREQ = codes "*="
fixed_text token.PERCENTEQ = codes "%="
fixed_text token.SHLEQ = codes "<<="
fixed_text token.SHREQ = codes ">>="
fixed_text token.DOT2 = codes ".."
fixed_text token.DOT2EQ = codes "..="
fixed_text _ = []

-- the token of such a kind
abbrev pub fixed : TokenKind → Token
fixed k = record { kind = OfToken k; text = fixed_text k }

-- a token whose text is free: a name or a literal
abbrev pub free : TokenKind → List ℕ → Token
free k text = record { kind = OfToken k; text = text }
