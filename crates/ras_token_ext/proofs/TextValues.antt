-- Bytes as a text.
use Rattle.std.proofs.Common.{◌≡◌, ℕ, Bool, true, false, cond, List, refl, ap}
use Rattle.std.specs.Prelude.{Ok, Err}
use Rattle.std.specs.Str.{IsUtf8, is_utf8}
use Rattle.std.proofs.lemmas.Str.{is_utf8-from_IsUtf8, IsUtf8-from_is_utf8}
use Rattle.literal_escape.specs.declared.error.EscapeError.TheVariants.{NonAsciiCharInByte}
use Rattle.ras_token_ext.specs.Literals.{as_text}

pub text_is_text : (bytes : List ℕ) → IsUtf8 bytes → as_text bytes ≡ Ok bytes
text_is_text bytes u = ap (λ b. cond b (Ok bytes) (Err NonAsciiCharInByte)) (is_utf8-from_IsUtf8 bytes u)

pub no_text : (bytes : List ℕ) → (IsUtf8 bytes → ⊥) → as_text bytes ≡ Err NonAsciiCharInByte
no_text bytes none = by (is_utf8 bytes) (λ e. none (IsUtf8-from_is_utf8 bytes e))
  where
    by : (b : Bool) → (b ≡ true → ⊥) → cond b (Ok bytes) (Err NonAsciiCharInByte) ≡ Err NonAsciiCharInByte
    by true h = absurd (h refl)
    by false h = refl
