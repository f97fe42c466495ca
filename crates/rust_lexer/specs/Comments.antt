-- Comments, by what follows their first two signs. Source: the Rust Reference, "Comments".
use Rattle.std.specs.Prelude.{ℕ, not, ◌&&◌, if◌then◌else◌, List, length, drop}
use Rattle.syntax_kind.specs.declared.syntax_kind.SyntaxKind.{SyntaxKind}
use Rattle.syntax_kind.specs.declared.syntax_kind.SyntaxKind.TheVariants.{Token}
use Rattle.syntax_kind.specs.declared.syntax_kind.token_kind.TokenKind.TheVariants as token
use Rattle.rust_lexer.specs.declared.class.Class.TheVariants as classes
use Rattle.rust_lexer.specs.declared.problem.Problem.TheVariants.{UnterminatedBlockComment}
use Rattle.rust_lexer.specs.declared.scan.Scan.{Scan}
use Rattle.rust_lexer.specs.declared.scan.Scan.TheVariants.{Comment, Closed}
use Rattle.rust_lexer.specs.declared.shape.Shape.{Shape}
use Rattle.rust_lexer.specs.Classes.{begins_of, skip_of}
use Rattle.rust_lexer.specs.Scans.{run_of}
use Rattle.rust_lexer.specs.Shapes.{plain_of, with_of}

-- `//!` documents what it is in, `///` what it precedes, `////` nothing
abbrev pub line_kind_of : List ℕ → SyntaxKind
line_kind_of s =
    if begins_of 33 s then Token token.INNER_DOC_COMMENT
    else (if begins_of 47 s && not (begins_of 47 (drop 1 s)) then Token token.OUTER_DOC_COMMENT
    else Token token.COMMENT)

-- the same of `/*!` and `/**`, but for `/***` and `/**/`
abbrev pub block_kind_of : List ℕ → SyntaxKind
block_kind_of s =
    if begins_of 33 s then Token token.INNER_DOC_COMMENT
    else (if begins_of 42 s && not (begins_of 42 (drop 1 s)) && not (begins_of 47 (drop 1 s)) then Token token.OUTER_DOC_COMMENT
    else Token token.COMMENT)

-- to the end of the line, without the newline
abbrev pub line_comment_of : List ℕ → Shape
line_comment_of s = plain_of (line_kind_of s) (length (skip_of classes.InLine s))

abbrev pub block_on : SyntaxKind → Scan → ℕ → Shape
block_on k Closed n = plain_of k n
block_on k _ n = with_of k n UnterminatedBlockComment

-- to the `*/` that closes it, or to the end
abbrev pub block_comment_of : List ℕ → Shape
block_comment_of s = block_on (block_kind_of s) (run_of (Comment 0) s).0 (length (run_of (Comment 0) s).1)
