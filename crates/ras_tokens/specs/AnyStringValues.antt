-- The value of a string literal of any kind, as a text.
use Rattle.std.specs.Prelude.{ℕ, Bool, List, Result, codes}
use Rattle.tree_model.specs.Tree.{text}
use Rattle.tree_model.specs.Cursor.{focus}
use Rattle.literal_escape.specs.declared.mode.Mode.TheVariants as modes
use Rattle.ras_token_ext.specs.declared.values.ValueError.{ValueError}
use Rattle.ras_token_ext.specs.Literals.{meanings, string_meanings, literal_value, can_borrow}
use Rattle.ras_token_ext.specs.Answered.{IsValueOf, IsTextOf}
use Rattle.ras_tokens.specs.declared.token_ext.AnyString.{AnyString}
use Rattle.ras_tokens.specs.declared.token_ext.AnyString.TheVariants.{ByteString, CString, String}

-- a string's value is a text; that of a byte string or C string may not be one
abbrev pub IsAnyStringValue : {V : Type 0} → (V → List ℕ) → AnyString → Result V ValueError → Type 0
IsAnyStringValue bytes (ByteString it) result = IsTextOf bytes (literal_value (meanings modes.ByteStr) modes.ByteStr (codes "br") (text (focus it.syntax))) result
IsAnyStringValue bytes (CString it) result = IsTextOf bytes (literal_value (meanings modes.CStr) modes.CStr (codes "cr") (text (focus it.syntax))) result
IsAnyStringValue bytes (String it) result = IsValueOf bytes (literal_value string_meanings modes.Str (codes "r") (text (focus it.syntax))) result

-- no memory is needed
abbrev pub any_string_can_borrow : AnyString → Bool
any_string_can_borrow (ByteString it) = can_borrow (codes "br") (text (focus it.syntax))
any_string_can_borrow (CString it) = can_borrow (codes "cr") (text (focus it.syntax))
any_string_can_borrow (String it) = can_borrow (codes "r") (text (focus it.syntax))
