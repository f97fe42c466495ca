-- A string literal of any kind: the kinds that it is of, the token after it, and how it is read.
use Rattle.std.specs.Prelude.{◌≡◌, true, ℕ, List, codes}
use Rattle.std.proofs.Common.{refl}
use Rattle.syntax_kind.specs.declared.syntax_kind.SyntaxKind.TheVariants.{Token}
use Rattle.syntax_kind.specs.declared.syntax_kind.token_kind.TokenKind.TheVariants as kind
use Rattle.literal_escape.specs.declared.mode.Mode.{Mode}
use Rattle.literal_escape.specs.declared.mode.Mode.TheVariants.{Str, ByteStr, CStr}
use Rattle.tree_model.specs.Cursor.{Cursor}
use Rattle.ras_node.specs.Nodes.{kind_at}
use Rattle.ras_node.specs.KindSets.{by_number}
use Rattle.ras_tokens.specs.declared.token_ext.AnyString.{AnyString}
use Rattle.ras_tokens.specs.declared.token_ext.AnyString.TheVariants.{ByteString, CString, String}
use Rattle.ras_node.specs.Sets.{is_any_string}

abbrev pub any_string_token : AnyString → Cursor
any_string_token (ByteString it) = it.syntax
any_string_token (CString it) = it.syntax
any_string_token (String it) = it.syntax

-- its kind is one of these
pub any_string_castable : (it : AnyString) → is_any_string (kind_at (any_string_token it)) ≡ true
any_string_castable (ByteString it) = by_number is_any_string _ (Token kind.BYTE_STRING) it.is refl
any_string_castable (CString it) = by_number is_any_string _ (Token kind.C_STRING) it.is refl
any_string_castable (String it) = by_number is_any_string _ (Token kind.STRING) it.is refl

-- the prefix of raw ones, and which literal it is
abbrev pub any_string_prefix : AnyString → List ℕ
any_string_prefix (ByteString it) = codes "br"
any_string_prefix (CString it) = codes "cr"
any_string_prefix (String it) = codes "r"

abbrev pub any_string_literal : AnyString → Mode
any_string_literal (ByteString it) = ByteStr
any_string_literal (CString it) = CStr
any_string_literal (String it) = Str
