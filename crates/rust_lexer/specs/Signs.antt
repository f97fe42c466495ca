-- Single signs. Source: the Rust Reference, "Tokens", on punctuation and delimiters.
use Rattle.std.specs.Prelude.{ℕ, ◌==◌, if◌then◌else◌}
use Rattle.syntax_kind.specs.declared.syntax_kind.SyntaxKind.{SyntaxKind}
use Rattle.syntax_kind.specs.declared.syntax_kind.SyntaxKind.TheVariants.{Token}
use Rattle.syntax_kind.specs.declared.syntax_kind.token_kind.TokenKind.TheVariants as token

-- the kind of the sign that the byte is, or ERROR if it is not one
abbrev pub sign_kind_of : ℕ → SyntaxKind
sign_kind_of b =
    if b == 59 then Token token.SEMICOLON else (
    if b == 44 then Token token.COMMA else (
    if b == 46 then Token token.DOT else (
    if b == 40 then Token token.L_PAREN else (
    if b == 41 then Token token.R_PAREN else (
    if b == 123 then Token token.L_CURLY else (
    if b == 125 then Token token.R_CURLY else (
    if b == 91 then Token token.L_BRACK else (
    if b == 93 then Token token.R_BRACK else (
    if b == 60 then Token token.L_ANGLE else (
    if b == 62 then Token token.R_ANGLE else (
    if b == 64 then Token token.AT else (
    if b == 35 then Token token.POUND else (
    if b == 36 then Token token.DOLLAR else (
    if b == 126 then Token token.TILDE else (
    if b == 63 then Token token.QUESTION else (
    if b == 38 then Token token.AMP else (
    if b == 124 then Token token.PIPE else (
    if b == 43 then Token token.PLUS else (
    if b == 42 then Token token.STAR else (
    if b == 47 then Token token.SLASH else (
    if b == 94 then Token token.CARET else (
    if b == 37 then Token token.PERCENT else (
    if b == 58 then Token token.COLON else (
    if b == 61 then Token token.EQ else (
    if b == 33 then Token token.BANG else (
    if b == 45 then Token token.MINUS else (
    Token token.ERROR)))))))))))))))))))))))))))
