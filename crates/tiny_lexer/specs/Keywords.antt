-- Keywords.
use Rattle.std.specs.Prelude.{ℕ, List, Bool, true, false, ◌&&◌, if◌then◌else◌, Option, Some, None, codes}
use Rattle.std.specs.Str.{bytes_eq}
use Rattle.syntax_kind.specs.declared.syntax_kind.SyntaxKind.{SyntaxKind}
use Rattle.syntax_kind.specs.declared.syntax_kind.SyntaxKind.TheVariants.{Token}
use Rattle.syntax_kind.specs.declared.syntax_kind.token_kind.TokenKind.TheVariants as token
use Rattle.ras_front_end.specs.declared.edition.Edition.{Edition}
use Rattle.ras_front_end.specs.declared.edition.Edition.TheVariants.{Edition2015}

abbrev pub has_await_of : Edition → Bool
has_await_of Edition2015 = false
has_await_of _ = true

-- the kind of the keyword that the bytes spell
abbrev pub keyword_of : Edition → List ℕ → Option SyntaxKind
keyword_of e w =
    if bytes_eq w (codes "fn") then Some (Token token.FN_KW) else (
    if bytes_eq w (codes "let") then Some (Token token.LET_KW) else (
    if bytes_eq w (codes "mut") then Some (Token token.MUT_KW) else (
    if bytes_eq w (codes "true") then Some (Token token.TRUE_KW) else (
    if bytes_eq w (codes "false") then Some (Token token.FALSE_KW) else (
    if bytes_eq w (codes "as") then Some (Token token.AS_KW) else (
    if bytes_eq w (codes "crate") then Some (Token token.CRATE_KW) else (
    if bytes_eq w (codes "self") then Some (Token token.SELF_KW) else (
    if bytes_eq w (codes "super") then Some (Token token.SUPER_KW) else (
    if bytes_eq w (codes "Self") then Some (Token token.SELF_TYPE_KW) else (
    if bytes_eq w (codes "await") && has_await_of e then Some (Token token.AWAIT_KW) else None))))))))))

abbrev pub is_strict_of : Edition → SyntaxKind → Bool
is_strict_of e (Token token.FN_KW) = true
is_strict_of e (Token token.LET_KW) = true
is_strict_of e (Token token.MUT_KW) = true
is_strict_of e (Token token.TRUE_KW) = true
is_strict_of e (Token token.FALSE_KW) = true
is_strict_of e (Token token.AS_KW) = true
is_strict_of e (Token token.CRATE_KW) = true
is_strict_of e (Token token.SELF_KW) = true
is_strict_of e (Token token.SUPER_KW) = true
is_strict_of e (Token token.SELF_TYPE_KW) = true
is_strict_of e (Token token.AWAIT_KW) = has_await_of e
is_strict_of e _ = false
