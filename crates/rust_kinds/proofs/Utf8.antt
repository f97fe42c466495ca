-- The name of each kind is UTF-8.
use Rattle.std.specs.Prelude.{IsUtf8}
use Rattle.std.proofs.Common.{refl}
use Rattle.syntax_kind.specs.Kinds.{kind_name}
use Rattle.syntax_kind.specs.declared.syntax_kind.SyntaxKind.{SyntaxKind}
use Rattle.syntax_kind.specs.declared.syntax_kind.SyntaxKind.TheVariants.{Token, Node, OTHER}
use Rattle.syntax_kind.specs.declared.syntax_kind.token_kind.TokenKind.{TokenKind}
use Rattle.syntax_kind.specs.declared.syntax_kind.token_kind.TokenKind.TheVariants as token
use Rattle.syntax_kind.specs.declared.syntax_kind.node_kind.NodeKind.{NodeKind}
use Rattle.syntax_kind.specs.declared.syntax_kind.node_kind.NodeKind.TheVariants as node
use Rattle.rust_kinds.specs.Names.{rust_name}
use Rattle.rust_kinds.proofs.Rows.{plain-IsUtf8}
use Rattle.rust_kinds.proofs.Table.{number_IsUtf8}

token_IsUtf8 : (t : TokenKind) → IsUtf8 (kind_name (Token t))
token_IsUtf8 token.WHITESPACE = plain-IsUtf8 _ refl
token_IsUtf8 _ = plain-IsUtf8 _ refl

node_IsUtf8 : (t : NodeKind) → IsUtf8 (kind_name (Node t))
node_IsUtf8 node.SOURCE_FILE = plain-IsUtf8 _ refl
node_IsUtf8 _ = plain-IsUtf8 _ refl

pub rust_name-IsUtf8 : (k : SyntaxKind) → IsUtf8 (rust_name k)
rust_name-IsUtf8 (OTHER n) = number_IsUtf8 n
rust_name-IsUtf8 (Token t) = token_IsUtf8 t
rust_name-IsUtf8 (Node t) = node_IsUtf8 t
