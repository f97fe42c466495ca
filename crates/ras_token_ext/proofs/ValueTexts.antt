-- A text without its underscores, read character by character.
use Rattle.std.proofs.Common.{◌≡◌, ◌≢◌, ℕ, true, false, cond, List, [], ◌∷◌, ◌++◌, length, sym, ap, ◌∙◌, arith, append_assoc, append-nil}
use Rattle.std.specs.Prelude.{not, ◌==◌, encode_utf8, encode_utf8_all}
use Rattle.std.specs.List.{filter}
use Rattle.std.specs.Str.{IsUtf8, chars}
use Rattle.std.proofs.lemmas.Str.{chars_past_char, chars-nil}
use Rattle.std.proofs.lemmas.Bool.Decides.{nat_tests}
use Rattle.ras_token_ext.specs.Numbers.{is_no_underscore, value_text}

other : (c : ℕ) → c ≢ 95 → (c == 95) ≡ false
other c h = grind (arith, nat_tests)

same : (c : ℕ) → c ≡ 95 → (c == 95) ≡ true
same c h = grind (arith, nat_tests)

pub kept : (old bs rest v : List ℕ) (c : ℕ) → IsUtf8 bs → bs ≡ encode_utf8 c ++ rest → c ≢ 95 → old ++ value_text bs ≡ v → (old ++ encode_utf8 c) ++ value_text rest ≡ v
kept old bs rest v c u e h k =
    append_assoc old (encode_utf8 c) (value_text rest)
    ∙ (ap (λ b. old ++ encode_utf8_all (cond (not b) (c ∷ filter is_no_underscore (chars rest)) (filter is_no_underscore (chars rest)))) (sym (other c h))
    ∙ (ap (λ cs. old ++ encode_utf8_all (filter is_no_underscore cs)) (sym (chars_past_char bs rest c u e)) ∙ k))

pub dropped : (old bs rest v : List ℕ) (c : ℕ) → IsUtf8 bs → bs ≡ encode_utf8 c ++ rest → c ≡ 95 → old ++ value_text bs ≡ v → old ++ value_text rest ≡ v
dropped old bs rest v c u e h k =
    ap (λ b. old ++ encode_utf8_all (cond (not b) (c ∷ filter is_no_underscore (chars rest)) (filter is_no_underscore (chars rest)))) (sym (same c h))
    ∙ (ap (λ cs. old ++ encode_utf8_all (filter is_no_underscore cs)) (sym (chars_past_char bs rest c u e)) ∙ k)

pub ended : (old bs v : List ℕ) → length bs ≡ 0 → old ++ value_text bs ≡ v → old ≡ v
ended old [] v h k = sym (append-nil old) ∙ (ap (λ cs. old ++ encode_utf8_all (filter is_no_underscore cs)) (sym chars-nil) ∙ k)
ended old (b ∷ bs) v h k = absurd (omega (arith, h))
