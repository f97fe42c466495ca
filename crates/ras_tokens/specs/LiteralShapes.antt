-- The variants of a literal, with cursors in the place of views. (Rust Reference, "Literal
-- expressions".)
use Rattle.std.specs.Prelude.{Bool, true, false, Option, Some, None}
use Rattle.syntax_kind.specs.declared.syntax_kind.SyntaxKind.{SyntaxKind}
use Rattle.syntax_kind.specs.declared.syntax_kind.SyntaxKind.TheVariants.{Token}
use Rattle.syntax_kind.specs.declared.syntax_kind.token_kind.TokenKind.TheVariants as token
use Rattle.tree_model.specs.Cursor.{Cursor}
use Rattle.ras_tokens.specs.declared.literal_kind.LiteralKind.{LiteralKind}
use Rattle.ras_tokens.specs.declared.literal_kind.LiteralKind.TheVariants as literal

-- a literal: a token of a kind, or a boolean
pub data LiteralShape : Type 0 where
  of_token : SyntaxKind → Cursor → LiteralShape
  of_bool : Bool → LiteralShape

abbrev pub literal_shape : LiteralKind → LiteralShape
literal_shape (literal.String it) = of_token (Token token.STRING) it.syntax
literal_shape (literal.ByteString it) = of_token (Token token.BYTE_STRING) it.syntax
literal_shape (literal.CString it) = of_token (Token token.C_STRING) it.syntax
literal_shape (literal.IntNumber it) = of_token (Token token.INT_NUMBER) it.syntax
literal_shape (literal.FloatNumber it) = of_token (Token token.FLOAT_NUMBER) it.syntax
literal_shape (literal.Char it) = of_token (Token token.CHAR) it.syntax
literal_shape (literal.Byte it) = of_token (Token token.BYTE) it.syntax
literal_shape (literal.Bool b) = of_bool b

abbrev pub literal_by : SyntaxKind → Cursor → Option LiteralShape
literal_by (Token token.STRING) t = Some (of_token (Token token.STRING) t)
literal_by (Token token.BYTE_STRING) t = Some (of_token (Token token.BYTE_STRING) t)
literal_by (Token token.C_STRING) t = Some (of_token (Token token.C_STRING) t)
literal_by (Token token.INT_NUMBER) t = Some (of_token (Token token.INT_NUMBER) t)
literal_by (Token token.FLOAT_NUMBER) t = Some (of_token (Token token.FLOAT_NUMBER) t)
literal_by (Token token.CHAR) t = Some (of_token (Token token.CHAR) t)
literal_by (Token token.BYTE) t = Some (of_token (Token token.BYTE) t)
literal_by (Token token.TRUE_KW) t = Some (of_bool true)
literal_by (Token token.FALSE_KW) t = Some (of_bool false)
literal_by _ t = None
