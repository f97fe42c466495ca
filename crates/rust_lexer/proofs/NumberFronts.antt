-- The law of numbers.
use Rattle.std.proofs.Common.{◌≡◌, ◌⊎◌, inl, inr, ℕ, Bool, true, false, not, ◌&&◌, ◌||◌, ◌==◌, nat_le, if◌then◌else◌, List, [], ◌∷◌, ◌++◌, length, drop, ap, sym, ◌∙◌, refl, subst, arith, append_assoc, length-append}
use Rattle.std.specs.Prelude.{slice_get}
use Rattle.std.proofs.lemmas.List.Elements.{All-head, All-tail}
use Rattle.rust_lexer.specs.declared.class.Class.{Class}
use Rattle.rust_lexer.specs.declared.class.Class.TheVariants.{Decimal, Hexadecimal, Underscore}
use Rattle.rust_lexer.specs.Classes.{is_in_of, is_digit_of, is_hex_digit_of, test_on, begins_of, begins_digit_of, skip_of}
use Rattle.rust_lexer.specs.Names.{begins_name_of}
use Rattle.rust_lexer.specs.Numbers.{begins_exponent_of, whole_of, whole_without_digits_of, float_of, float_without_digits_of, sign_of, exponent_of, fraction_of, behind_digits_of, based_of, number_of}
use Rattle.rust_lexer.specs.NumberLaws.{AreIn, IsBase, Whole, decimal, based, Mantissa, bare, fractional, IsSign, digits, none, whole, no_digits, point, fraction, exponent, no_exponent_digits, NumberRead}
use Rattle.rust_lexer.proofs.Fronts.{longest, is_same, is_other}

-- no digit and no `_` is first
abbrev Stops : List ℕ → Type 0
Stops s = test_on (is_in_of Decimal) (slice_get s 0) ≡ false

both_false : (a b : Bool) → (a || b) ≡ false → (a ≡ false) × (b ≡ false)
both_false false false h = (refl, refl)
both_false true b h = absurd (cc)
both_false false true h = absurd (cc)

one_true : (a b : Bool) → (a || b) ≡ true → (a ≡ true) ⊎ (b ≡ true)
one_true true b h = inl refl
one_true false b h = inr h

two_true : (a b : Bool) → (a && b) ≡ true → (a ≡ true) × (b ≡ true)
two_true true b h = (refl, h)
two_true false b h = absurd (cc)

or_left : (a b : Bool) → a ≡ true → (a || b) ≡ true
or_left true b h = refl
or_left false b h = absurd (cc)

-- a byte that is first
first_is : (b : ℕ) (s : List ℕ) → begins_of b s ≡ true → s ≡ b ∷ drop 1 s
first_is b [] h = absurd (cc)
first_is b (x ∷ s) h = ap (λ (y : ℕ). y ∷ s) (is_same x b h)

record Digit (s : List ℕ) : Type 0 where
  d : ℕ
  is : s ≡ d ∷ drop 1 s
  is_digit : is_digit_of d ≡ true

digit_first : (s : List ℕ) → begins_digit_of s ≡ true → Digit s
digit_first [] h = absurd (cc)
digit_first (x ∷ s) h = record { d = x; is = refl; is_digit = h }

digit_is_decimal : (d : ℕ) → is_digit_of d ≡ true → is_in_of Decimal d ≡ true
digit_is_decimal d h = or_left (is_digit_of d) (d == 95) h

-- what follows the digits after a first one
skip_digit : (c : Class) (d : ℕ) (s : List ℕ) → is_in_of c d ≡ true → skip_of c (d ∷ s) ≡ skip_of c s
skip_digit c d s h = ap (λ (b : Bool). if b then skip_of c s else d ∷ s) h

stays : (c : Class) (s : List ℕ) → test_on (is_in_of c) (slice_get s 0) ≡ false → skip_of c s ≡ s
stays c [] h = refl
stays c (x ∷ s) h = ap (λ (b : Bool). if b then skip_of c s else x ∷ s) h

underscore_is_decimal : (b : ℕ) → (b == 95) ≡ true → is_in_of Decimal b ≡ true
underscore_is_decimal b h = ap (λ (x : ℕ). is_in_of Decimal x) (is_same b 95 h)

past_on : (p : Bool) (b : ℕ) (s : List ℕ) → (b == 95) ≡ p → skip_of Decimal s ≡ skip_of Decimal (skip_of Underscore s)
    → skip_of Decimal (b ∷ s) ≡ skip_of Decimal (if p then skip_of Underscore s else b ∷ s)
past_on true b s h k = skip_digit Decimal b s (underscore_is_decimal b h) ∙ k
past_on false b s h k = refl

past_underscores : (s : List ℕ) → skip_of Decimal s ≡ skip_of Decimal (skip_of Underscore s)
past_underscores [] = refl
past_underscores (b ∷ s) = past_on (b == 95) b s refl (past_underscores s)

-- ---- the exponent

-- what a sign is, and what follows it
record Signed (t : List ℕ) : Type 0 where
  sign : List ℕ
  is_sign : IsSign sign
  parts : t ≡ sign ++ sign_of t

sign_on : (p q : Bool) (t : List ℕ) → begins_of 43 t ≡ p → begins_of 45 t ≡ q → sign_of t ≡ (if p || q then drop 1 t else t) → Signed t
sign_on true q t h k e = record { sign = 43 ∷ []; is_sign = inr (inl refl); parts = first_is 43 t h ∙ ap (λ l. 43 ∷ l) (sym e) }
sign_on false true t h k e = record { sign = 45 ∷ []; is_sign = inr (inr refl); parts = first_is 45 t k ∙ ap (λ l. 45 ∷ l) (sym e) }
sign_on false false t h k e = record { sign = []; is_sign = inl refl; parts = sym e }

signed : (t : List ℕ) → Signed t
signed t = sign_on (begins_of 43 t) (begins_of 45 t) t refl refl refl

regroup : (m : List ℕ) (e : ℕ) (sign us rest : List ℕ) → m ++ e ∷ (sign ++ (us ++ rest)) ≡ (m ++ e ∷ (sign ++ us)) ++ rest
regroup m e sign us rest = ap (λ l. m ++ e ∷ l) (sym (append_assoc sign us rest)) ∙ sym (append_assoc m (e ∷ (sign ++ us)) rest)

no_decimal : (x : List ℕ) → test_on (is_in_of Underscore) (slice_get x 0) ≡ false → begins_digit_of x ≡ false → Stops x
no_decimal [] u h = refl
no_decimal (b ∷ x) u h = ap (λ (p : Bool). p || (b == 95)) h ∙ u

with_exponent_on : (p : Bool) (m : List ℕ) (e : ℕ) (t : List ℕ) → Mantissa m → (e ≡ 101) ⊎ (e ≡ 69)
    → begins_digit_of (skip_of Underscore (sign_of t)) ≡ p
    → NumberRead (m ++ e ∷ t) (if p then float_of (skip_of Decimal (sign_of t)) else float_without_digits_of (skip_of Decimal (sign_of t)))
with_exponent_on true m e t w is_e h =
    let g = signed t in
    let u = longest Underscore (sign_of t) in
    let x = skip_of Underscore (sign_of t) in
    let first = digit_first x h in
    let z = longest Decimal (drop 1 x) in
    let r = skip_of Decimal (drop 1 x) in
    let is_r : skip_of Decimal (sign_of t) ≡ r =
    past_underscores (sign_of t) ∙ ap (λ l. skip_of Decimal l) first.is ∙ skip_digit Decimal first.d (drop 1 x) (digit_is_decimal first.d first.is_digit) in
    subst (λ (l : List ℕ). NumberRead (m ++ e ∷ t) (float_of l)) (sym is_r) (record {
      number = m ++ e ∷ (g.sign ++ (u.front ++ first.d ∷ z.front));
      behind = r;
      parts =
          ap (λ l. m ++ e ∷ l) (g.parts ∙ ap (λ l. g.sign ++ l) (u.parts ∙ ap (λ l. u.front ++ l) (first.is ∙ ap (λ l. first.d ∷ l) z.parts)))
          ∙ ap (λ l. m ++ e ∷ l) (ap (λ l. g.sign ++ l) (sym (append_assoc u.front (first.d ∷ z.front) r)) ∙ sym (append_assoc g.sign (u.front ++ first.d ∷ z.front) r))
          ∙ sym (append_assoc m (e ∷ (g.sign ++ (u.front ++ first.d ∷ z.front))) r);
      is_number = exponent m (e ∷ (g.sign ++ (u.front ++ first.d ∷ z.front))) w (digits e g.sign u.front first.d z.front is_e g.is_sign u.all_pass first.is_digit z.all_pass);
      longest = z.next_fails;
      suffix = refl;
    })
with_exponent_on false m e t w is_e h =
    let g = signed t in
    let u = longest Underscore (sign_of t) in
    let x = skip_of Underscore (sign_of t) in
    let stop = no_decimal x u.next_fails h in
    let is_x : skip_of Decimal (sign_of t) ≡ x = past_underscores (sign_of t) ∙ stays Decimal x stop in
    subst (λ (l : List ℕ). NumberRead (m ++ e ∷ t) (float_without_digits_of l)) (sym is_x) (record {
      number = m ++ e ∷ (g.sign ++ u.front);
      behind = x;
      parts = ap (λ l. m ++ e ∷ l) (g.parts ∙ ap (λ l. g.sign ++ l) u.parts) ∙ regroup m e g.sign u.front x;
      is_number = no_exponent_digits m (e ∷ (g.sign ++ u.front)) w (none e g.sign u.front is_e g.is_sign u.all_pass);
      longest = stop;
      suffix = refl;
    })

with_exponent : (m s : List ℕ) → Mantissa m → begins_exponent_of s ≡ true → NumberRead (m ++ s) (exponent_of (drop 1 s))
with_exponent m s w h =
    let by : (e : ℕ) → (e ≡ 101) ⊎ (e ≡ 69) → s ≡ e ∷ drop 1 s → NumberRead (m ++ s) (exponent_of (drop 1 s)) =
    λ e is_e is. subst (λ (l : List ℕ). NumberRead (m ++ l) (exponent_of (drop 1 s))) (sym is)
    (with_exponent_on (begins_digit_of (skip_of Underscore (sign_of (drop 1 s)))) m e (drop 1 s) w is_e refl) in
    elim (one_true (begins_of 101 s) (begins_of 69 s) h) [
      | inl small ↦ by 101 (inl refl) (first_is 101 s small)
      | inr large ↦ by 69 (inr refl) (first_is 69 s large)
    ]

-- ---- the fraction

behind_fraction_on : (q : Bool) (w : List ℕ) (d : ℕ) (ds r : List ℕ) → Whole w → is_digit_of d ≡ true → AreIn Decimal ds → Stops r → begins_exponent_of r ≡ q
    → NumberRead ((w ++ 46 ∷ (d ∷ ds)) ++ r) (if q then exponent_of (drop 1 r) else float_of r)
behind_fraction_on true w d ds r k is_d are stop h = with_exponent (w ++ 46 ∷ (d ∷ ds)) r (fractional w d ds k is_d are) h
behind_fraction_on false w d ds r k is_d are stop h = record {
  number = w ++ 46 ∷ (d ∷ ds);
  behind = r;
  parts = refl;
  is_number = fraction w d ds k is_d are;
  longest = stop;
  suffix = refl;
}

no_name_no_underscore : (b : ℕ) (s : List ℕ) → begins_name_of (b ∷ s) ≡ false → (b == 95) ≡ false
no_name_no_underscore b s h = by (b == 95) refl
  where
    by : (p : Bool) → (b == 95) ≡ p → p ≡ false
    by false e = refl
    by true e =
        let is : b ≡ 95 = is_same b 95 e in
        let bad : begins_name_of (95 ∷ s) ≡ false = subst (λ (x : ℕ). begins_name_of (x ∷ s) ≡ false) is h in
        absurd (let no : true ≡ false = bad in cc)

no_digit_no_name : (t : List ℕ) → begins_digit_of t ≡ false → begins_name_of t ≡ false → Stops t
no_digit_no_name [] h k = refl
no_digit_no_name (b ∷ t) h k = ap (λ (p : Bool). p || (b == 95)) h ∙ no_name_no_underscore b t k

fraction_on : (p : Bool) (w t : List ℕ) → Whole w → begins_name_of t ≡ false → begins_digit_of t ≡ p
    → NumberRead (w ++ 46 ∷ t) (if not p then float_of t else (let r = skip_of Decimal t in if begins_exponent_of r then exponent_of (drop 1 r) else float_of r))
fraction_on false w t k no_name h = record {
  number = w ++ 46 ∷ [];
  behind = t;
  parts = sym (append_assoc w (46 ∷ []) t);
  is_number = point w k;
  longest = no_digit_no_name t h no_name;
  suffix = refl;
}
fraction_on true w t k no_name h =
    let first = digit_first t h in
    let z = longest Decimal (drop 1 t) in
    let r = skip_of Decimal (drop 1 t) in
    let is_r : skip_of Decimal t ≡ r = ap (λ l. skip_of Decimal l) first.is ∙ skip_digit Decimal first.d (drop 1 t) (digit_is_decimal first.d first.is_digit) in
    let all : (w ++ 46 ∷ (first.d ∷ z.front)) ++ r ≡ w ++ 46 ∷ t =
    append_assoc w (46 ∷ (first.d ∷ z.front)) r ∙ ap (λ l. w ++ 46 ∷ l) (ap (λ l. first.d ∷ l) (sym z.parts) ∙ sym first.is) in
    subst (λ (l : List ℕ). NumberRead (w ++ 46 ∷ t) (if begins_exponent_of l then exponent_of (drop 1 l) else float_of l)) (sym is_r)
    (subst (λ (l : List ℕ). NumberRead l (if begins_exponent_of r then exponent_of (drop 1 r) else float_of r)) all
    (behind_fraction_on (begins_exponent_of r) w first.d z.front r k first.is_digit z.all_pass z.next_fails refl))

-- ---- after the whole digits

alone : (w s : List ℕ) → Whole w → Stops s → NumberRead (w ++ s) (whole_of s)
alone w s k stop = record { number = w; behind = s; parts = refl; is_number = whole w k; longest = stop; suffix = refl }

dot_on : (q : Bool) (w s : List ℕ) → Whole w → Stops s → begins_of 46 s ≡ true → (begins_of 46 (drop 1 s) || begins_name_of (drop 1 s)) ≡ q
    → NumberRead (w ++ s) (if q then whole_of s else fraction_of (drop 1 s))
dot_on true w s k stop dot h = alone w s k stop
dot_on false w s k stop dot h =
    let t = drop 1 s in
    subst (λ (l : List ℕ). NumberRead (w ++ l) (fraction_of t)) (sym (first_is 46 s dot))
    (fraction_on (begins_digit_of t) w t k (both_false (begins_of 46 t) (begins_name_of t) h).1 refl)

bare_on : (e : Bool) (w s : List ℕ) → Whole w → Stops s → begins_exponent_of s ≡ e → NumberRead (w ++ s) (if e then exponent_of (drop 1 s) else whole_of s)
bare_on true w s k stop h = with_exponent w s (bare w k) h
bare_on false w s k stop h = alone w s k stop

behind_on : (p : Bool) (w s : List ℕ) → Whole w → Stops s → begins_of 46 s ≡ p
    → NumberRead (w ++ s)
    (if p then (if begins_of 46 (drop 1 s) || begins_name_of (drop 1 s) then whole_of s else fraction_of (drop 1 s))
    else (if begins_exponent_of s then exponent_of (drop 1 s) else whole_of s))
behind_on true w s k stop h = dot_on (begins_of 46 (drop 1 s) || begins_name_of (drop 1 s)) w s k stop h refl
behind_on false w s k stop h = bare_on (begins_exponent_of s) w s k stop refl

behind_digits : (w s : List ℕ) → Whole w → Stops s → NumberRead (w ++ s) (behind_digits_of s)
behind_digits w s k stop = behind_on (begins_of 46 s) w s k stop refl

-- ---- other bases

decimal_too : (letter : ℕ) (c : Class) (b : ℕ) → IsBase letter c → is_in_of c b ≡ false → is_in_of Decimal b ≡ false
decimal_too letter c b (inl is) h =
    let both = both_false (is_hex_digit_of b) (b == 95) (subst (λ (x : Class). is_in_of x b ≡ false) is.1 h) in
    let small = both_false (is_digit_of b || (nat_le 97 b && nat_le b 102)) (nat_le 65 b && nat_le b 70) both.0 in
    let digit = both_false (is_digit_of b) (nat_le 97 b && nat_le b 102) small.0 in
    ap (λ (p : Bool). p || (b == 95)) digit.0 ∙ both.1
decimal_too letter c b (inr is) h = subst (λ (x : Class). is_in_of x b ≡ false) is.1 h

stops_too : (letter : ℕ) (c : Class) (s : List ℕ) → IsBase letter c → test_on (is_in_of c) (slice_get s 0) ≡ false → Stops s
stops_too letter c [] k h = refl
stops_too letter c (b ∷ s) k h = decimal_too letter c b k h

-- some digits were read
record Some_digits (c : Class) (s : List ℕ) : Type 0 where
  d : ℕ
  ds : List ℕ
  parts : s ≡ d ∷ (ds ++ skip_of c s)
  is_digit : is_in_of c d ≡ true
  are_digits : AreIn c ds

digits_read : (c : Class) (s front : List ℕ) → s ≡ front ++ skip_of c s → AreIn c front → (length (skip_of c s) == length s) ≡ false → Some_digits c s
digits_read c s [] parts are h = absurd (is_other (length (skip_of c s)) (length s) h (sym (ap length parts)))
digits_read c s (d ∷ ds) parts are h = record {
  d = d;
  ds = ds;
  parts = parts;
  is_digit = All-head (λ b. is_in_of c b ≡ true) d ds are;
  are_digits = All-tail (λ b. is_in_of c b ≡ true) d ds are;
}

nothing_read : (c : Class) (s front : List ℕ) → s ≡ front ++ skip_of c s → length (skip_of c s) ≡ length s → skip_of c s ≡ s
nothing_read c s [] parts h = sym parts
nothing_read c s (d ∷ ds) parts h = absurd (omega (arith, h, ap length parts, length-append (d ∷ ds) (skip_of c s)))

first_fails : (c : Class) (s rest : List ℕ) (d : ℕ) → s ≡ d ∷ rest → test_on (is_in_of c) (slice_get s 0) ≡ false → is_in_of c d ≡ false
first_fails c s rest d is h = subst (λ (l : List ℕ). test_on (is_in_of c) (slice_get l 0) ≡ false) is h

based_on : (q : Bool) (letter : ℕ) (c : Class) (s : List ℕ) → IsBase letter c
    → (length (skip_of c (skip_of Underscore s)) == length (skip_of Underscore s)) ≡ q
    → NumberRead (48 ∷ letter ∷ s) (if q then whole_without_digits_of (skip_of c (skip_of Underscore s)) else behind_digits_of (skip_of c (skip_of Underscore s)))
based_on true letter c s k h =
    let u = longest Underscore s in
    let x = skip_of Underscore s in
    let z = longest c x in
    let same : skip_of c x ≡ x = nothing_read c x z.front z.parts (is_same (length (skip_of c x)) (length x) h) in
    subst (λ (l : List ℕ). NumberRead (48 ∷ letter ∷ s) (whole_without_digits_of l)) (sym same) (record {
      number = 48 ∷ letter ∷ u.front;
      behind = x;
      parts = ap (λ l. 48 ∷ letter ∷ l) u.parts;
      is_number = no_digits letter c u.front k u.all_pass;
      longest = stops_too letter c x k (subst (λ (l : List ℕ). test_on (is_in_of c) (slice_get l 0) ≡ false) same z.next_fails);
      suffix = refl;
    })
based_on false letter c s k h =
    let u = longest Underscore s in
    let x = skip_of Underscore s in
    let z = longest c x in
    let r = skip_of c x in
    let some = digits_read c x z.front z.parts z.all_pass h in
    let w = 48 ∷ letter ∷ (u.front ++ some.d ∷ some.ds) in
    let all : w ++ r ≡ 48 ∷ letter ∷ s =
    ap (λ l. 48 ∷ letter ∷ l) (append_assoc u.front (some.d ∷ some.ds) r ∙ ap (λ l. u.front ++ l) (sym some.parts) ∙ sym u.parts) in
    subst (λ (l : List ℕ). NumberRead l (behind_digits_of r)) all
    (behind_digits w r (based letter c u.front some.d some.ds k u.all_pass some.is_digit (first_fails Underscore x (some.ds ++ r) some.d some.parts u.next_fails) some.are_digits)
    (stops_too letter c r k z.next_fails))

based_read : (letter : ℕ) (c : Class) (s : List ℕ) → IsBase letter c → NumberRead (48 ∷ letter ∷ s) (based_of c s)
based_read letter c s k = based_on (length (skip_of c (skip_of Underscore s)) == length (skip_of Underscore s)) letter c s k refl

base_here : (first letter : ℕ) (c : Class) (s : List ℕ) → (first == 48) ≡ true → begins_of letter s ≡ true → IsBase letter c → NumberRead (first ∷ s) (based_of c (drop 1 s))
base_here first letter c s h b k =
    subst (λ (l : List ℕ). NumberRead l (based_of c (drop 1 s))) (ap (λ l. 48 ∷ l) (sym (first_is letter s b)) ∙ ap (λ x. x ∷ s) (sym (is_same first 48 h)))
    (based_read letter c (drop 1 s) k)

decimal_read : (first : ℕ) (s : List ℕ) → is_digit_of first ≡ true → NumberRead (first ∷ s) (behind_digits_of (skip_of Decimal s))
decimal_read first s h =
    let z = longest Decimal s in
    subst (λ (l : List ℕ). NumberRead l (behind_digits_of (skip_of Decimal s))) (ap (λ l. first ∷ l) (sym z.parts))
    (behind_digits (first ∷ z.front) (skip_of Decimal s) (decimal first z.front h z.all_pass) z.next_fails)

number_on : (p q : Bool) (first : ℕ) (s : List ℕ) → is_digit_of first ≡ true → ((first == 48) && begins_of 120 s) ≡ p → ((first == 48) && (begins_of 98 s || begins_of 111 s)) ≡ q
    → NumberRead (first ∷ s) (if p then based_of Hexadecimal (drop 1 s) else (if q then based_of Decimal (drop 1 s) else behind_digits_of (skip_of Decimal s)))
number_on true q first s d h k = let both = two_true (first == 48) (begins_of 120 s) h in base_here first 120 Hexadecimal s both.0 both.1 (inl (refl, refl))
number_on false true first s d h k =
    let both = two_true (first == 48) (begins_of 98 s || begins_of 111 s) k in
    elim (one_true (begins_of 98 s) (begins_of 111 s) both.1) [
      | inl binary ↦ base_here first 98 Decimal s both.0 binary (inr (inl refl, refl))
      | inr octal ↦ base_here first 111 Decimal s both.0 octal (inr (inr refl, refl))
    ]
number_on false false first s d h k = decimal_read first s d

pub numbers_read : (first : ℕ) (s : List ℕ) → is_digit_of first ≡ true → NumberRead (first ∷ s) (number_of first s)
numbers_read first s d = number_on ((first == 48) && begins_of 120 s) ((first == 48) && (begins_of 98 s || begins_of 111 s)) first s d refl refl
