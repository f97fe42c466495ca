-- A number ends before a brace.
use Rattle.std.proofs.Common.{◌≡◌, ◌≢◌, inl, inr, ℕ, suc, ◌+◌, Bool, true, false, not, ◌==◌, ◌&&◌, ◌||◌, if◌then◌else◌, List, ◌∷◌, ◌++◌, length, drop, ap, sym, ◌∙◌, refl, arith}
use Rattle.std.proofs.lemmas.Bool.{cases_eq, and_parts, eq-eqb, or_cases}
use Rattle.std.proofs.lemmas.Bool.Decides.{nat_tests}
use Rattle.syntax_kind.specs.declared.syntax_kind.SyntaxKind.TheVariants.{Token}
use Rattle.syntax_kind.specs.declared.syntax_kind.token_kind.TokenKind.TheVariants as token
use Rattle.rust_lexer.specs.declared.class.Class.{Class}
use Rattle.rust_lexer.specs.declared.class.Class.TheVariants as classes
use Rattle.rust_lexer.specs.declared.problem.Problem.TheVariants.{NoDigits, NoExponentDigits}
use Rattle.rust_lexer.specs.Classes.{begins_of, begins_digit_of, is_in_of, skip_of}
use Rattle.rust_lexer.specs.Names.{begins_name_of, skip_suffix_of}
use Rattle.rust_lexer.specs.Numbers.{begins_exponent_of, whole_of, whole_without_digits_of, float_of, float_without_digits_of, sign_of, exponent_of, fraction_of, behind_digits_of, based_of, number_of}
use Rattle.lexer_laws.specs.Behind.{IsBrace}
use Rattle.lexer_laws.proofs.Tests.{at_brace, begins_same, not_same, and_same, or_same, skip_same, tail_same, longer}
use Rattle.lexer_laws.proofs.Skipping.{digit_same, begins_name_same, skip_suffix_same}
use Rattle.lexer_laws.proofs.Ending.{Ends, choose, plain_ends, with_ends, skipped_ends}

begins : (n b : ℕ) → IsBrace b → (123 == n) ≡ false → (125 == n) ≡ false → (q y : List ℕ) → begins_of n (q ++ b ∷ y) ≡ begins_of n q
begins n b h f g q y = begins_same n b (not_same n b h f g) q y

exponent_same : (b : ℕ) → IsBrace b → (q y : List ℕ) → begins_exponent_of (q ++ b ∷ y) ≡ begins_exponent_of q
exponent_same b h q y = or_same _ _ _ _ (begins 101 b h refl refl q y) (begins 69 b h refl refl q y)

tail : (n b : ℕ) (q y : List ℕ) → begins_of n q ≡ true → drop 1 (q ++ b ∷ y) ≡ drop 1 q ++ b ∷ y
tail n b q y e = tail_same (λ (x : ℕ). x == n) b q y e

exponent_tail : (b : ℕ) (q y : List ℕ) → begins_exponent_of q ≡ true → drop 1 (q ++ b ∷ y) ≡ drop 1 q ++ b ∷ y
exponent_tail b q y e = elim (or_cases (begins_of 101 q) (begins_of 69 q) e) [ inl h ↦ tail 101 b q y h | inr h ↦ tail 69 b q y h ]

underscores : (b : ℕ) → IsBrace b → (q y : List ℕ) → skip_of classes.Underscore (q ++ b ∷ y) ≡ skip_of classes.Underscore q ++ b ∷ y
underscores b h q y = skip_same classes.Underscore b (at_brace (is_in_of classes.Underscore) b h refl refl) q y

decimals : (b : ℕ) → IsBrace b → (q y : List ℕ) → skip_of classes.Decimal (q ++ b ∷ y) ≡ skip_of classes.Decimal q ++ b ∷ y
decimals b h q y = skip_same classes.Decimal b (at_brace (is_in_of classes.Decimal) b h refl refl) q y

-- ---- the sign of an exponent

sign_on : (p p' : Bool) (u v w z z' : List ℕ) → p' ≡ p → (p ≡ true → u ≡ w ++ z) → v ≡ z' ++ z → (if p' then u else v) ≡ (if p then w else z') ++ z
sign_on true p' u v w z z' e h k = ap (λ (r : Bool). if r then u else v) e ∙ h refl
sign_on false p' u v w z z' e h k = ap (λ (r : Bool). if r then u else v) e ∙ k

sign_tail : (b : ℕ) (q y : List ℕ) → (begins_of 43 q || begins_of 45 q) ≡ true → drop 1 (q ++ b ∷ y) ≡ drop 1 q ++ b ∷ y
sign_tail b q y e = elim (or_cases (begins_of 43 q) (begins_of 45 q) e) [ inl h ↦ tail 43 b q y h | inr h ↦ tail 45 b q y h ]

sign_same : (b : ℕ) → IsBrace b → (q y : List ℕ) → sign_of (q ++ b ∷ y) ≡ sign_of q ++ b ∷ y
sign_same b h q y =
    sign_on (begins_of 43 q || begins_of 45 q) (begins_of 43 (q ++ b ∷ y) || begins_of 45 (q ++ b ∷ y)) (drop 1 (q ++ b ∷ y)) (q ++ b ∷ y) (drop 1 q) (b ∷ y) q
    (or_same _ _ _ _ (begins 43 b h refl refl q y) (begins 45 b h refl refl q y)) (λ e. sign_tail b q y e) refl

-- ---- numbers

whole_ends : (b : ℕ) (text q : List ℕ) → IsBrace b → Ends whole_of b text q
whole_ends b text q h = plain_ends (Token token.INT_NUMBER) skip_suffix_of b text q (λ y. skip_suffix_same b h q y)

without_digits_ends : (b : ℕ) (text q : List ℕ) → IsBrace b → Ends whole_without_digits_of b text q
without_digits_ends b text q h = with_ends (Token token.INT_NUMBER) NoDigits skip_suffix_of b text q (λ y. skip_suffix_same b h q y)

float_ends : (b : ℕ) (text q : List ℕ) → IsBrace b → Ends float_of b text q
float_ends b text q h = plain_ends (Token token.FLOAT_NUMBER) skip_suffix_of b text q (λ y. skip_suffix_same b h q y)

float_without_ends : (b : ℕ) (text q : List ℕ) → IsBrace b → Ends float_without_digits_of b text q
float_without_ends b text q h = with_ends (Token token.FLOAT_NUMBER) NoExponentDigits skip_suffix_of b text q (λ y. skip_suffix_same b h q y)

behind_sign : (b : ℕ) → IsBrace b → (q y : List ℕ) → skip_of classes.Decimal (sign_of (q ++ b ∷ y)) ≡ skip_of classes.Decimal (sign_of q) ++ b ∷ y
behind_sign b h q y = ap (skip_of classes.Decimal) (sign_same b h q y) ∙ decimals b h (sign_of q) y

exponent_ends : (b : ℕ) (text q : List ℕ) → IsBrace b → Ends exponent_of b text q
exponent_ends b text q h =
    choose (λ s. begins_digit_of (skip_of classes.Underscore (sign_of s))) (λ s. float_of (skip_of classes.Decimal (sign_of s)))
    (λ s. float_without_digits_of (skip_of classes.Decimal (sign_of s))) b text q
    (λ y. ap (λ (r : List ℕ). begins_digit_of (skip_of classes.Underscore r)) (sign_same b h q y)
    ∙ ap begins_digit_of (underscores b h (sign_of q) y) ∙ digit_same b h (skip_of classes.Underscore (sign_of q)) y)
    (λ e. skipped_ends float_of (λ s. skip_of classes.Decimal (sign_of s)) b text q (λ y. behind_sign b h q y) (float_ends b text _ h))
    (λ e. skipped_ends float_without_digits_of (λ s. skip_of classes.Decimal (sign_of s)) b text q (λ y. behind_sign b h q y) (float_without_ends b text _ h))

exponent_or_float : (b : ℕ) (text q : List ℕ) → IsBrace b → Ends (λ s. if begins_exponent_of s then exponent_of (drop 1 s) else float_of s) b text q
exponent_or_float b text q h =
    choose begins_exponent_of (λ s. exponent_of (drop 1 s)) float_of b text q (λ y. exponent_same b h q y)
    (λ e. skipped_ends exponent_of (drop 1) b text q (λ y. exponent_tail b q y e) (exponent_ends b text (drop 1 q) h))
    (λ e. float_ends b text q h)

fraction_ends : (b : ℕ) (text q : List ℕ) → IsBrace b → Ends fraction_of b text q
fraction_ends b text q h =
    choose (λ s. not (begins_digit_of s)) float_of (λ s. if begins_exponent_of (skip_of classes.Decimal s) then exponent_of (drop 1 (skip_of classes.Decimal s)) else float_of (skip_of classes.Decimal s))
    b text q (λ y. ap not (digit_same b h q y)) (λ e. float_ends b text q h)
    (λ e. skipped_ends (λ s. if begins_exponent_of s then exponent_of (drop 1 s) else float_of s) (skip_of classes.Decimal) b text q (λ y. decimals b h q y)
    (exponent_or_float b text (skip_of classes.Decimal q) h))

pub behind_digits_ends : (b : ℕ) (text q : List ℕ) → IsBrace b → Ends behind_digits_of b text q
behind_digits_ends b text q h =
    choose (begins_of 46) (λ s. if begins_of 46 (drop 1 s) || begins_name_of (drop 1 s) then whole_of s else fraction_of (drop 1 s))
    (λ s. if begins_exponent_of s then exponent_of (drop 1 s) else whole_of s) b text q (λ y. begins 46 b h refl refl q y)
    (λ e. choose (λ s. begins_of 46 (drop 1 s) || begins_name_of (drop 1 s)) whole_of (λ s. fraction_of (drop 1 s)) b text q
    (λ y. ap (λ (r : List ℕ). begins_of 46 r || begins_name_of r) (tail 46 b q y e)
    ∙ or_same _ _ _ _ (begins 46 b h refl refl (drop 1 q) y) (begins_name_same b h (drop 1 q) y))
    (λ k. whole_ends b text q h)
    (λ k. skipped_ends fraction_of (drop 1) b text q (λ y. tail 46 b q y e) (fraction_ends b text (drop 1 q) h)))
    (λ e. choose begins_exponent_of (λ s. exponent_of (drop 1 s)) whole_of b text q (λ y. exponent_same b h q y)
    (λ k. skipped_ends exponent_of (drop 1) b text q (λ y. exponent_tail b q y k) (exponent_ends b text (drop 1 q) h))
    (λ k. whole_ends b text q h))

unequal : (m n : ℕ) → m ≢ n → (m == n) ≡ false
unequal m n h = grind (arith, nat_tests)

shifted : (m n k m' n' : ℕ) → m' ≡ m + k → n' ≡ n + k → (m' == n') ≡ (m == n)
shifted m n k m' n' h l =
    elim (cases_eq m n) [
      | inl same ↦ eq-eqb m' n' (omega (arith, h, l, same)) ∙ sym (eq-eqb m n same)
      | inr other ↦ unequal m' n' (λ e. other (omega (arith, h, l, e))) ∙ sym (unequal m n other)
    ]

based_ends : (c : Class) (b : ℕ) (text q : List ℕ) → IsBrace b → is_in_of c b ≡ false → Ends (based_of c) b text q
based_ends c b text q h f =
    let both : (y : List ℕ) → skip_of c (skip_of classes.Underscore (q ++ b ∷ y)) ≡ skip_of c (skip_of classes.Underscore q) ++ b ∷ y =
    λ y. ap (skip_of c) (underscores b h q y) ∙ skip_same c b f (skip_of classes.Underscore q) y in
    choose (λ s. length (skip_of c (skip_of classes.Underscore s)) == length (skip_of classes.Underscore s))
    (λ s. whole_without_digits_of (skip_of c (skip_of classes.Underscore s))) (λ s. behind_digits_of (skip_of c (skip_of classes.Underscore s))) b text q
    (λ y. shifted _ _ (suc (length y)) _ _ (ap length (both y) ∙ longer _ y b) (ap length (underscores b h q y) ∙ longer _ y b))
    (λ e. skipped_ends whole_without_digits_of (λ s. skip_of c (skip_of classes.Underscore s)) b text q both (without_digits_ends b text _ h))
    (λ e. skipped_ends behind_digits_of (λ s. skip_of c (skip_of classes.Underscore s)) b text q both (behind_digits_ends b text _ h))

pub number_ends : (first b : ℕ) (text q : List ℕ) → IsBrace b → Ends (number_of first) b text q
number_ends first b text q h =
    choose (λ s. (first == 48) && begins_of 120 s) (λ s. based_of classes.Hexadecimal (drop 1 s))
    (λ s. if (first == 48) && (begins_of 98 s || begins_of 111 s) then based_of classes.Decimal (drop 1 s) else behind_digits_of (skip_of classes.Decimal s)) b text q
    (λ y. and_same _ _ _ _ refl (begins 120 b h refl refl q y))
    (λ e. skipped_ends (based_of classes.Hexadecimal) (drop 1) b text q (λ y. tail 120 b q y (and_parts (first == 48) (begins_of 120 q) e).1)
    (based_ends classes.Hexadecimal b text (drop 1 q) h (at_brace (is_in_of classes.Hexadecimal) b h refl refl)))
    (λ e. choose (λ s. (first == 48) && (begins_of 98 s || begins_of 111 s)) (λ s. based_of classes.Decimal (drop 1 s)) (λ s. behind_digits_of (skip_of classes.Decimal s)) b text q
    (λ y. and_same _ _ _ _ refl (or_same _ _ _ _ (begins 98 b h refl refl q y) (begins 111 b h refl refl q y)))
    (λ k. skipped_ends (based_of classes.Decimal) (drop 1) b text q
    (λ y. elim (or_cases (begins_of 98 q) (begins_of 111 q) (and_parts (first == 48) (begins_of 98 q || begins_of 111 q) k).1) [
      | inl l ↦ tail 98 b q y l
      | inr l ↦ tail 111 b q y l
    ])
    (based_ends classes.Decimal b text (drop 1 q) h (at_brace (is_in_of classes.Decimal) b h refl refl)))
    (λ k. skipped_ends behind_digits_of (skip_of classes.Decimal) b text q (λ y. decimals b h q y) (behind_digits_ends b text _ h)))
