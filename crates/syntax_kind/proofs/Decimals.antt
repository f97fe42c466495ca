-- A text with a plain start that parses as a number is what that number prints.
use Rattle.std.proofs.Common.{◌≡◌, ℕ, ◌<◌, ◌∙◌, ◌↔◌, zero, suc, List, [], ◌∷◌, Some, None, Result, Ok, Err, refl, sym, ap, arith, true, false, length, get_or, decimal, lit<}
use Rattle.std.specs.Result.{result_ok}
use Rattle.std.specs.Str.{all_ascii_digits}
use Rattle.std.specs.Str.Parse.{ParsesUnsigned, digits_value}
use Rattle.std.proofs.lemmas.Str.Parse.{IsNumeralModel, numerals_by_value, parse_plain, tells_all_ascii_digits}
use Rattle.std.proofs.lemmas.Fmt.{decimal_injective, parse-decimal, decimal_digit, first_decimal, decimal-digits_value}
use Rattle.std.proofs.lemmas.Bool.{ne_eqb, both_ways, not-true, and_parts, eqb-false}
use Rattle.syntax_kind.specs.KindText.{has_plain_start}

numerals : IsNumeralModel (λ ds. all_ascii_digits ds ≡ true) (digits_value 10)
numerals = numerals_by_value _ tells_all_ascii_digits

-- a text whose first byte is past `0` starts so, and so does each printed number
past_zero : (bs : List ℕ) → 48 < get_or bs 0 0 → has_plain_start bs ≡ true
past_zero [] h = absurd (omega arith)
past_zero (b ∷ []) h = rw (ne_eqb b 43 (λ e. omega arith)) refl
past_zero (b ∷ c ∷ bs) h = rw (ne_eqb b 43 (λ e. omega arith), ne_eqb b 48 (λ e. omega arith)) refl

has_plain_start-decimal : (n : ℕ) → n < 65536 → has_plain_start (decimal n) ≡ true
has_plain_start-decimal zero h = rw (decimal_digit 0 (lit< tt)) refl
has_plain_start-decimal (suc n) h = past_zero (decimal (suc n)) (first_decimal (suc n) (omega arith) (omega arith))

pub not_decimal : (bs : List ℕ) (n : ℕ) → n < 65536 → has_plain_start bs ≡ false → decimal n ≡ bs → ⊥
not_decimal bs n h f e = both_ways (has_plain_start bs) f (ap has_plain_start (sym e) ∙ has_plain_start-decimal n h)

no_plus : (bs : List ℕ) → has_plain_start bs ≡ true → get_or bs 0 0 ≡ 43 → ⊥
no_plus [] h e = cc
no_plus (b ∷ []) h e = eqb-false b 43 (not-true _ h) e
no_plus (b ∷ c ∷ bs) h e = eqb-false b 43 (not-true _ (and_parts _ _ h).0) e

zero_alone : (bs : List ℕ) → has_plain_start bs ≡ true → get_or bs 0 0 ≡ 48 → length bs ≡ 1
zero_alone [] h e = absurd (cc)
zero_alone (b ∷ []) h e = refl
zero_alone (b ∷ c ∷ bs) h e = absurd (eqb-false b 48 (not-true _ (and_parts _ _ h).1) e)

pub reads : {E : Type 0} (bs : List ℕ) (r : Result ℕ E) → ParsesUnsigned 16 10 bs r → has_plain_start bs ≡ true → (n : ℕ)
    → n < 65536 → (result_ok r ≡ Some n) ↔ (decimal n ≡ bs)
reads bs (Err e) p plain n small =
    (λ (q : None ≡ Some n). (cc), λ q. let parsed = parse-decimal 16 n bs (Err e) small (omega arith) (sym q) p in absurd (cc))
reads {E} bs (Ok x) p plain n small =
    let digits = parse_plain numerals {E = E} 16 bs (Ok x) p (no_plus bs plain) in
    let back : decimal (digits_value 10 bs) ≡ bs = decimal-digits_value numerals bs digits.0.0 digits.0.1
    (zero_alone bs plain) (omega (arith, digits.0.2)) in
    let printed : decimal x ≡ bs = ap decimal digits.1 ∙ back in (
      λ (q : Some x ≡ Some n). let same : x ≡ n = cc in ap decimal (sym same) ∙ printed,
      λ q. ap Some (decimal_injective x n (omega (arith, digits.0.2, digits.1)) (omega arith) (printed ∙ sym q)),
    )
