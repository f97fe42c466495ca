-- Calls on the characters of a text, one by one.
use Rattle.std.proofs.Common.{◌≡◌, ℕ, ◌+◌, List, [], ◌∷◌, ◌++◌, length, refl, sym, subst, arith}
use Rattle.std.specs.Prelude.{Result, Ok, encode_utf8}
use Rattle.std.specs.Char.{len_utf8}
use Rattle.std.specs.List.{FoldsTo}
use Rattle.std.specs.Str.{IsUtf8, chars}
use Rattle.std.proofs.lemmas.Str.{chars_past_char, chars-nil}
use Rattle.text_size.specs.TextRange.{Bounds}
use Rattle.literal_escape.specs.declared.error.EscapeError.{EscapeError}
use Rattle.ras_token_ext.specs.Quotes.{bounds}
use Rattle.ras_token_ext.specs.Units.{char_calls}

module _ {F : Type 0} (R : F → Bounds × Result ℕ EscapeError → F → Type 0) where
  -- a call on the first character, and then those on what is left
  pub stepped : (at c : ℕ) (bs rest : List ℕ) (f g last : F) → IsUtf8 bs → bs ≡ encode_utf8 c ++ rest → R f (bounds at (at + len_utf8 c), Ok c) g
      → FoldsTo R g (char_calls (at + len_utf8 c) (chars rest)) last → FoldsTo R f (char_calls at (chars bs)) last
  stepped at c bs rest f g last u e r k = subst (λ cs. FoldsTo R f (char_calls at cs) last) (sym (chars_past_char bs rest c u e)) (g, r, k)

  -- no call where nothing is left
  pub ended : (at : ℕ) (bs : List ℕ) (f : F) → length bs ≡ 0 → FoldsTo R f (char_calls at (chars bs)) f
  ended at [] f e = subst (λ cs. FoldsTo R f (char_calls at cs) f) (sym chars-nil) refl
  ended at (b ∷ bs) f e = absurd (omega (arith, e))
