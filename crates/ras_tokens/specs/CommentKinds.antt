-- What a comment documents, by its token's kind.
use Rattle.std.specs.Prelude.{ℕ, Option, Some, None}
use Rattle.syntax_kind.specs.declared.syntax_kind.SyntaxKind.{SyntaxKind}
use Rattle.syntax_kind.specs.declared.syntax_kind.SyntaxKind.TheVariants.{Token}
use Rattle.syntax_kind.specs.declared.syntax_kind.token_kind.TokenKind.TheVariants as token
use Rattle.ras_token_ext.specs.declared.comments.AttrKind.{AttrKind}
use Rattle.ras_token_ext.specs.declared.comments.AttrKind.TheVariants.{Inner, Outer}

abbrev pub doc_kind_of : SyntaxKind → Option AttrKind
doc_kind_of (Token token.INNER_DOC_COMMENT) = Some Inner
doc_kind_of (Token token.OUTER_DOC_COMMENT) = Some Outer
doc_kind_of _ = None

-- how long the opening marker is: of a doc comment by one byte longer
abbrev pub marker_len : Option AttrKind → ℕ
marker_len None = 2
marker_len (Some kind) = 3
