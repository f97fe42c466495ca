-- Sets of kinds: operators (Rust Reference, "Operator expressions"), and kinds that may precede a
-- part that is searched for.
use Rattle.std.specs.Prelude.{Bool, true, false}
use Rattle.syntax_kind.specs.declared.syntax_kind.SyntaxKind.{SyntaxKind}
use Rattle.syntax_kind.specs.declared.syntax_kind.SyntaxKind.TheVariants.{Node, Token}
use Rattle.syntax_kind.specs.declared.syntax_kind.node_kind.NodeKind.TheVariants as kind
use Rattle.syntax_kind.specs.declared.syntax_kind.token_kind.TokenKind.TheVariants as token

-- `..` and `..=`
abbrev pub is_range_operator : SyntaxKind → Bool
is_range_operator (Token token.DOT2) = true
is_range_operator (Token token.DOT2EQ) = true
is_range_operator _ = false

-- the binary operators, assignments too
abbrev pub is_binary_operator : SyntaxKind → Bool
is_binary_operator (Token token.PIPE2) = true
is_binary_operator (Token token.AMP2) = true
is_binary_operator (Token token.EQ2) = true
is_binary_operator (Token token.NEQ) = true
is_binary_operator (Token token.LTEQ) = true
is_binary_operator (Token token.GTEQ) = true
is_binary_operator (Token token.L_ANGLE) = true
is_binary_operator (Token token.R_ANGLE) = true
is_binary_operator (Token token.PLUS) = true
is_binary_operator (Token token.STAR) = true
is_binary_operator (Token token.MINUS) = true
is_binary_operator (Token token.SLASH) = true
is_binary_operator (Token token.PERCENT) = true
is_binary_operator (Token token.SHL) = true
is_binary_operator (Token token.SHR) = true
is_binary_operator (Token token.CARET) = true
is_binary_operator (Token token.PIPE) = true
is_binary_operator (Token token.AMP) = true
is_binary_operator (Token token.EQ) = true
is_binary_operator (Token token.PLUSEQ) = true
is_binary_operator (Token token.STAREQ) = true
is_binary_operator (Token token.MINUSEQ) = true
is_binary_operator (Token token.SLASHEQ) = true
is_binary_operator (Token token.PERCENTEQ) = true
is_binary_operator (Token token.SHLEQ) = true
is_binary_operator (Token token.SHREQ) = true
is_binary_operator (Token token.CARETEQ) = true
is_binary_operator (Token token.PIPEEQ) = true
is_binary_operator (Token token.AMPEQ) = true
is_binary_operator _ = false

-- before a literal's token: attributes, documentation comments, white space and comments
abbrev pub is_before_literal : SyntaxKind → Bool
is_before_literal (Node kind.ATTR) = true
is_before_literal (Node kind.DOC_COMMENT) = true
is_before_literal (Token token.WHITESPACE) = true
is_before_literal (Token token.COMMENT) = true
is_before_literal _ = false

-- before the number of a tuple's field: everything but numbers
abbrev pub is_before_index : SyntaxKind → Bool
is_before_index (Token token.INT_NUMBER) = false
is_before_index (Token token.FLOAT_NUMBER) = false
is_before_index _ = true

-- paths, and their segments
abbrev pub is_path : SyntaxKind → Bool
is_path (Node kind.PATH) = true
is_path _ = false

abbrev pub is_path_segment : SyntaxKind → Bool
is_path_segment (Node kind.PATH_SEGMENT) = true
is_path_segment _ = false

-- `!`
abbrev pub is_bang : SyntaxKind → Bool
is_bang (Token token.BANG) = true
is_bang _ = false

-- inner documentation comments
abbrev pub is_inner_doc : SyntaxKind → Bool
is_inner_doc (Token token.INNER_DOC_COMMENT) = true
is_inner_doc _ = false

-- `,`
abbrev pub is_comma : SyntaxKind → Bool
is_comma (Token token.COMMA) = true
is_comma _ = false
