-- The reader's number and count of digits, which stop at what 32 and 8 bits hold, give each \u{..}
-- its meaning.
use Rattle.std.proofs.Common.{◌≡◌, ℕ, ◌+◌, ◌*◌, ◌^◌, ◌<◌, ◌≤◌, min, Bool, true, false, ◌&&◌, List, [], ◌∷◌, refl, ap, ◌∙◌, length, arith, subst, add-zero, add-one, lit<}
use Rattle.std.specs.Prelude.{if◌then◌else◌, ◌==◌, nat_lt}
use Rattle.std.specs.List.{fold, list_all}
use Rattle.std.specs.Char.{digit_value}
use Rattle.std.proofs.lemmas.Bool.{eqb-true}
use Rattle.std.proofs.lemmas.Bool.Decides.{nat_tests}
use Rattle.std.proofs.Math.Nat.{pow-suc, pow-le-pow_right}
use Rattle.literal_escape.specs.declared.mode.Mode.{Mode}
use Rattle.literal_escape.specs.Literal.{is_hex, code, unicode, digits}
use Rattle.literal_escape.specs.Pieces.{is_inside}
use Rattle.literal_escape.specs.Reading.{longer_code, more_digits}

abbrev pub code_step : ℕ → ℕ → ℕ
code_step n c = if is_hex c then longer_code n (digit_value c) else n

abbrev pub count_step : ℕ → ℕ → ℕ
count_step k c = if is_hex c then more_digits k else k

abbrev pub number_step : ℕ → ℕ → ℕ
number_step n d = n * 16 + digit_value d

-- k and n are the count and the number as far as they fit
pub record Tracks (k n count value : ℕ) : Type 0 where
  pub counted : k ≡ min count 255
  pub valued : count ≤ 6 → n ≡ value
  pub small : count ≤ 6 → value < 16 ^ count

longer_small : (n d : ℕ) → n < 2 ^ 24 → d < 16 → longer_code n d ≡ n * 16 + d
longer_small n d h k = omega arith

Tracks-digit : (k n count value d : ℕ) → d < 16 → Tracks k n count value → Tracks (more_digits k) (longer_code n d) (count + 1) (value * 16 + d)
Tracks-digit k n count value d h t = record {
  counted = omega (arith, t.counted);
  valued = λ few. let e = t.valued (omega arith) in let s = t.small (omega arith) in let p : 16 ^ count ≤ 16 ^ 6 = pow-le-pow_right (lit< tt) {j = 6} (omega arith) in
      longer_small n d (omega (arith, e, s, p)) h ∙ ap (λ m. m * 16 + d) e;
  small = λ few. let s = t.small (omega arith) in rw (add-one, pow-suc) (omega (arith, s));
}

not_low : (c : ℕ) → is_hex c ≡ true → (low : Bool) → (c == 95) ≡ low → low ≡ false
not_low c h true e = let P : ℕ → Type 0 = λ d. is_hex d ≡ true in let k = subst P (eqb-true c 95 e) h in cc
not_low c h false e = refl

pub hex_not_low : (c : ℕ) → is_hex c ≡ true → (c == 95) ≡ false
hex_not_low c h = not_low c h (c == 95) refl

pub hex_small : (c : ℕ) → is_hex c ≡ true → digit_value c < 16
hex_small c h = grind (arith, nat_tests)

pub and_right : (a b : Bool) → (a && b) ≡ true → b ≡ true
and_right true b e = e
and_right false b e = cc

pub and_left : (a b : Bool) → (a && b) ≡ true → a ≡ true
and_left true b e = refl
and_left false b e = cc

-- one more character of the body, by whether it is a digit
body_on : (b : Bool) (c : ℕ) (cs : List ℕ) (k n count value : ℕ) → is_hex c ≡ b → is_inside c ≡ true → list_all is_inside cs ≡ true → Tracks k n count value
    → ((k n count value : ℕ) → Tracks k n count value → Tracks (fold count_step k cs) (fold code_step n cs) (count + length (digits cs)) (fold number_step value (digits cs)))
    → Tracks (fold count_step k (c ∷ cs)) (fold code_step n (c ∷ cs)) (count + length (digits (c ∷ cs))) (fold number_step value (digits (c ∷ cs)))
body_on true c cs k n count value e i h t next =
    rw (hex_not_low c e) (rw e (subst (λ m. Tracks (fold count_step (more_digits k) cs) (fold code_step (longer_code n (digit_value c)) cs) m (fold number_step (value * 16 + digit_value c) (digits cs)))
    (omega arith) (next (more_digits k) (longer_code n (digit_value c)) (count + 1) (value * 16 + digit_value c) (Tracks-digit k n count value (digit_value c) (hex_small c e) t))))
body_on false c cs k n count value e i h t next = let low = rw e at i in rw low (rw e (next k n count value t))

Tracks-body : (body : List ℕ) (k n count value : ℕ) → list_all is_inside body ≡ true → Tracks k n count value
    → Tracks (fold count_step k body) (fold code_step n body) (count + length (digits body)) (fold number_step value (digits body))
Tracks-body [] k n count value h t = rw add-zero t
Tracks-body (c ∷ cs) k n count value h t = body_on (is_hex c) c cs k n count value refl (and_left (is_inside c) _ h) (and_right (is_inside c) _ h) t (λ k' n' count' value' t'. Tracks-body cs k' n' count' value' (and_right (is_inside c) _ h) t')

code_on : (b : Bool) (mode : Mode) (k n count value : ℕ) → nat_lt 6 count ≡ b → Tracks k n count value → code mode k n ≡ code mode count value
code_on true mode k n count value e t = let q : nat_lt 6 k ≡ true = grind (arith, nat_tests, t.counted) in rw e (rw q refl)
code_on false mode k n count value e t =
    let few : count ≤ 6 = grind (arith, nat_tests) in
    let same : k ≡ count = omega (arith, t.counted) in
    rw same (rw (t.valued few) refl)

code_same : (mode : Mode) (k n count value : ℕ) → Tracks k n count value → code mode k n ≡ code mode count value
code_same mode k n count value t = code_on (nat_lt 6 count) mode k n count value refl t

-- the whole body: its first digit, and what follows it
pub body_code : (mode : Mode) (first : ℕ) (rest : List ℕ) → is_hex first ≡ true → list_all is_inside rest ≡ true
    → code mode (fold count_step 1 rest) (fold code_step (digit_value first) rest) ≡ unicode mode (first ∷ rest)
body_code mode first rest h i =
    let start : Tracks 1 (digit_value first) 1 (0 * 16 + digit_value first) = record { counted = omega arith; valued = λ few. omega arith; small = λ few. omega (arith, hex_small first h) } in
    let all = fold number_step (0 * 16 + digit_value first) (digits rest) in
    code_same mode _ _ _ _ (Tracks-body rest 1 (digit_value first) 1 (0 * 16 + digit_value first) i start)
    ∙ rw (hex_not_low first h) (ap (λ k. code mode k all) (omega arith))
