-- A character at the front of a text ends before a brace.
use Rattle.std.proofs.Common.{◌≡◌, ℕ, ◌<◌, ◌≤◌, Bool, true, false, ◌==◌, ◌&&◌, nat_lt, List, [], ◌∷◌, ◌++◌, length, drop, ap, sym, ◌∙◌, refl, arith}
use Rattle.std.specs.Prelude.{cond, slice_index}
use Rattle.std.proofs.lemmas.Bool.Decides.{nat_tests}
use Rattle.std.proofs.lemmas.List.{drop-append-le}
use Rattle.bstr.specs.Utf8.{Decoded, decoded, decoded_by, second, continues, bad, good, code_of_2, code_of_3, code_of_4}
use Rattle.rust_lexer.specs.Classes.{after_char_of}
use Rattle.lexer_laws.specs.Behind.{IsBrace}
use Rattle.lexer_laws.proofs.Tests.{at_brace, holds_at_brace}

both_false : (p q : Bool) → p ≡ false → q ≡ false → (c : Bool) → cond c p q ≡ false
both_false p q h k true = h
both_false p q h k false = k

-- a brace is no later byte of a character
no_second : (x b : ℕ) → IsBrace b → second x b ≡ false
no_second x b h =
    let one = at_brace (λ (c : ℕ). nat_lt 0x9F c && nat_lt c 0xC0) b h refl refl in
    let two = at_brace (λ (c : ℕ). nat_lt 0x7F c && nat_lt c 0xA0) b h refl refl in
    let three = at_brace (λ (c : ℕ). nat_lt 0x8F c && nat_lt c 0xC0) b h refl refl in
    let four = at_brace (λ (c : ℕ). nat_lt 0x7F c && nat_lt c 0x90) b h refl refl in
    let five = at_brace continues b h refl refl in
    both_false _ _ one (both_false _ _ two (both_false _ _ three (both_false _ _ four five (x == 0xF4)) (x == 0xF0)) (x == 0xED)) (x == 0xE0)

no_later : (b : ℕ) → IsBrace b → continues b ≡ false
no_later b h = at_brace continues b h refl refl

not_below : (n k : ℕ) → k ≤ n → nat_lt n k ≡ false
not_below n k h = grind (arith, nat_tests)

not_zero : (n : ℕ) → 0 < n → (n == 0) ≡ false
not_zero n h = grind (arith, nat_tests)

-- one more byte, if it is there and passes the test
next : ℕ → ℕ → Bool → Decoded → Decoded → Decoded
next n k s r z = cond (nat_lt n k) z (cond s r z)

next_stops : (n m k : ℕ) (s s' : Bool) (r r' z : Decoded) → nat_lt n k ≡ true → k ≤ m → s' ≡ false → next n k s r z ≡ next m k s' r' z
unfolding next
next_stops n m k s s' r r' z h l f =
    ap (λ (p : Bool). cond p z (cond s r z)) h ∙ sym (ap (λ (p : Bool). cond p z (cond s' r' z)) (not_below m k l) ∙ ap (λ (p : Bool). cond p r' z) f)

next_goes_on : (n m k : ℕ) (s : Bool) (r r' z : Decoded) → k ≤ n → k ≤ m → r ≡ r' → next n k s r z ≡ next m k s r' z
unfolding next
next_goes_on n m k s r r' z h l e =
    ap (λ (p : Bool). cond p z (cond s r z)) (not_below n k h) ∙ ap (λ (t : Decoded). cond s t z) e
    ∙ sym (ap (λ (p : Bool). cond p z (cond s r' z)) (not_below m k l))

fourth : ℕ → ℕ → ℕ → ℕ → ℕ → Decoded
fourth n b c d e = next n 4 (continues e) (good (code_of_4 b c d e) 4) (bad 3)

third : ℕ → ℕ → ℕ → ℕ → Decoded → Decoded
third n b c d r = next n 3 (continues d) (cond (nat_lt b 0xF0) (good (code_of_3 b c d) 3) r) (bad 2)

two : ℕ → ℕ → ℕ → Decoded → Decoded
two n b c r = next n 2 (second b c) (cond (nat_lt b 0xE0) (good (code_of_2 b c) 2) r) (bad 1)

first : ℕ → ℕ → Decoded → Decoded
first n b r = cond (n == 0) (bad 0) (cond (nat_lt b 0x80) (good b 1) (cond (nat_lt b 0xC2) (bad 1) (cond (nat_lt 0xF4 b) (bad 1) r)))

by_parts : (n b c d e : ℕ) → decoded_by n b c d e ≡ first n b (two n b c (third n b c d (fourth n b c d e)))
unfolding next fourth third two first
by_parts n b c d e = refl

first_same : (n m b : ℕ) (r r' : Decoded) → 0 < n → 0 < m → r ≡ r' → first n b r ≡ first m b r'
unfolding first
first_same n m b r r' h k e =
    let F : Bool → Decoded → Decoded = λ p t. cond p (bad 0) (cond (nat_lt b 0x80) (good b 1) (cond (nat_lt b 0xC2) (bad 1) (cond (nat_lt 0xF4 b) (bad 1) t))) in
    ap (λ (p : Bool). F p r) (not_zero n h) ∙ ap (λ (t : Decoded). F false t) e ∙ sym (ap (λ (p : Bool). F p r') (not_zero m k))

two_stops : (n m b c c' : ℕ) (r r' : Decoded) → nat_lt n 2 ≡ true → 2 ≤ m → second b c' ≡ false → two n b c r ≡ two m b c' r'
unfolding two
two_stops n m b c c' r r' h k f =
    next_stops n m 2 (second b c) (second b c') (cond (nat_lt b 0xE0) (good (code_of_2 b c) 2) r) (cond (nat_lt b 0xE0) (good (code_of_2 b c') 2) r') (bad 1) h k f

two_goes_on : (n m b c : ℕ) (r r' : Decoded) → 2 ≤ n → 2 ≤ m → r ≡ r' → two n b c r ≡ two m b c r'
unfolding two
two_goes_on n m b c r r' h k e =
    let G : Decoded → Decoded = λ t. cond (nat_lt b 0xE0) (good (code_of_2 b c) 2) t in
    next_goes_on n m 2 (second b c) (G r) (G r') (bad 1) h k (ap G e)

third_stops : (n m b c d d' : ℕ) (r r' : Decoded) → nat_lt n 3 ≡ true → 3 ≤ m → continues d' ≡ false → third n b c d r ≡ third m b c d' r'
unfolding third
third_stops n m b c d d' r r' h k f =
    next_stops n m 3 (continues d) (continues d') (cond (nat_lt b 0xF0) (good (code_of_3 b c d) 3) r) (cond (nat_lt b 0xF0) (good (code_of_3 b c d') 3) r') (bad 2) h k f

third_goes_on : (n m b c d : ℕ) (r r' : Decoded) → 3 ≤ n → 3 ≤ m → r ≡ r' → third n b c d r ≡ third m b c d r'
unfolding third
third_goes_on n m b c d r r' h k e =
    let G : Decoded → Decoded = λ t. cond (nat_lt b 0xF0) (good (code_of_3 b c d) 3) t in
    next_goes_on n m 3 (continues d) (G r) (G r') (bad 2) h k (ap G e)

fourth_stops : (n m b c d e e' : ℕ) → nat_lt n 4 ≡ true → 4 ≤ m → continues e' ≡ false → fourth n b c d e ≡ fourth m b c d e'
unfolding fourth
fourth_stops n m b c d e e' h k f = next_stops n m 4 (continues e) (continues e') (good (code_of_4 b c d e) 4) (good (code_of_4 b c d e') 4) (bad 3) h k f

fourth_goes_on : (n m b c d e : ℕ) → 4 ≤ n → 4 ≤ m → fourth n b c d e ≡ fourth m b c d e
unfolding fourth
fourth_goes_on n m b c d e h k = next_goes_on n m 4 (continues e) (good (code_of_4 b c d e) 4) (good (code_of_4 b c d e) 4) (bad 3) h k refl

same_parts : (n m b c d e c' d' e' : ℕ) → 0 < n → 0 < m
    → two n b c (third n b c d (fourth n b c d e)) ≡ two m b c' (third m b c' d' (fourth m b c' d' e')) → decoded_by n b c d e ≡ decoded_by m b c' d' e'
same_parts n m b c d e c' d' e' h k s =
    by_parts n b c d e
    ∙ first_same n m b (two n b c (third n b c d (fourth n b c d e))) (two m b c' (third m b c' d' (fourth m b c' d' e'))) h k s
    ∙ sym (by_parts m b c' d' e')

-- the first character of a text that is not empty is the same where a brace follows
pub decoded_same : (b : ℕ) → IsBrace b → (x : ℕ) (q y : List ℕ) → decoded (x ∷ (q ++ b ∷ y)) ≡ decoded (x ∷ q)
decoded_same b h x [] y =
    sym (same_parts (length (x ∷ [])) (length (x ∷ b ∷ y)) x (slice_index (x ∷ []) 1) (slice_index (x ∷ []) 2) (slice_index (x ∷ []) 3) (slice_index (x ∷ b ∷ y) 1) (slice_index (x ∷ b ∷ y) 2) (slice_index (x ∷ b ∷ y) 3) (omega arith) (omega arith)
    (two_stops _ _ _ _ _ _ _ refl (omega arith) (no_second x b h)))
decoded_same b h x (c ∷ []) y =
    sym (same_parts (length (x ∷ c ∷ [])) (length (x ∷ c ∷ b ∷ y)) x (slice_index (x ∷ c ∷ []) 1) (slice_index (x ∷ c ∷ []) 2) (slice_index (x ∷ c ∷ []) 3) (slice_index (x ∷ c ∷ b ∷ y) 1) (slice_index (x ∷ c ∷ b ∷ y) 2) (slice_index (x ∷ c ∷ b ∷ y) 3) (omega arith) (omega arith)
    (two_goes_on _ _ _ _ _ _ (omega arith) (omega arith)
    (third_stops _ _ _ _ _ _ _ _ refl (omega arith) (no_later b h))))
decoded_same b h x (c ∷ d ∷ []) y =
    sym (same_parts (length (x ∷ c ∷ d ∷ [])) (length (x ∷ c ∷ d ∷ b ∷ y)) x (slice_index (x ∷ c ∷ d ∷ []) 1) (slice_index (x ∷ c ∷ d ∷ []) 2) (slice_index (x ∷ c ∷ d ∷ []) 3) (slice_index (x ∷ c ∷ d ∷ b ∷ y) 1) (slice_index (x ∷ c ∷ d ∷ b ∷ y) 2) (slice_index (x ∷ c ∷ d ∷ b ∷ y) 3) (omega arith) (omega arith)
    (two_goes_on _ _ _ _ _ _ (omega arith) (omega arith)
    (third_goes_on _ _ _ _ _ _ _ (omega arith) (omega arith)
    (fourth_stops _ _ _ _ _ _ _ refl (omega arith) (no_later b h)))))
decoded_same b h x (c ∷ d ∷ e ∷ q) y =
    sym (same_parts (length (x ∷ c ∷ d ∷ e ∷ q)) (length (x ∷ c ∷ d ∷ e ∷ (q ++ b ∷ y))) x (slice_index (x ∷ c ∷ d ∷ e ∷ q) 1) (slice_index (x ∷ c ∷ d ∷ e ∷ q) 2) (slice_index (x ∷ c ∷ d ∷ e ∷ q) 3) (slice_index (x ∷ c ∷ d ∷ e ∷ (q ++ b ∷ y)) 1) (slice_index (x ∷ c ∷ d ∷ e ∷ (q ++ b ∷ y)) 2) (slice_index (x ∷ c ∷ d ∷ e ∷ (q ++ b ∷ y)) 3) (omega arith) (omega arith)
    (two_goes_on _ _ _ _ _ _ (omega arith) (omega arith)
    (third_goes_on _ _ _ _ _ _ _ (omega arith) (omega arith)
    (fourth_goes_on _ _ _ _ _ _ (omega arith) (omega arith)))))

picks : (p r : Bool) (u v w : Decoded) → p ≡ false → r ≡ true → cond p u (cond r v w) ≡ v
picks p r u v w h k = ap (λ (c : Bool). cond c u (cond r v w)) h ∙ ap (λ (c : Bool). cond c v w) k

-- a brace is a character of one byte
pub brace_decoded : (b : ℕ) → IsBrace b → (y : List ℕ) → decoded (b ∷ y) ≡ good b 1
brace_decoded b h y = picks _ _ _ _ _ (not_zero (length (b ∷ y)) (omega arith)) (holds_at_brace (λ (x : ℕ). nat_lt x 0x80) b h refl refl)

-- ---- how many bytes a character takes

on : (P : Decoded → Type 0) (p : Bool) (r t : Decoded) → (p ≡ true → P r) → (p ≡ false → P t) → P (cond p r t)
on P true r t f g = f refl
on P false r t f g = g refl

some : (n : ℕ) → (n == 0) ≡ false → 1 ≤ n
some n h = grind (arith, nat_tests)

at_least : (n k : ℕ) → nat_lt n k ≡ false → k ≤ n
at_least n k h = grind (arith, nat_tests)

next_fits : (n k i : ℕ) (s : Bool) (r z : Decoded) → z.size ≤ n → (k ≤ n → r.size ≤ n) → (next n k s r z).size ≤ n
unfolding next
next_fits n k i s r z h f =
    on (λ t. t.size ≤ n) (nat_lt n k) z (cond s r z) (λ l. h) (λ l. on (λ t. t.size ≤ n) s r z (λ e. f (at_least n k l)) (λ e. h))

either_fits : (n : ℕ) (p : Bool) (r t : Decoded) → r.size ≤ n → t.size ≤ n → (cond p r t).size ≤ n
either_fits n p r t h k = on (λ t. t.size ≤ n) p r t (λ e. h) (λ e. k)

decoded_by_fits : (n b c d e : ℕ) → (decoded_by n b c d e).size ≤ n
unfolding first two third fourth
decoded_by_fits n b c d e =
    on (λ t. t.size ≤ n) (n == 0) (bad 0) _ (λ h. omega arith) (λ h.
    let one : 1 ≤ n = some n h in
    either_fits n (nat_lt b 0x80) (good b 1) _ one
    (either_fits n (nat_lt b 0xC2) (bad 1) _ one
    (either_fits n (nat_lt 0xF4 b) (bad 1) _ one
    (on (λ t. t.size ≤ n) (nat_lt n 2) (bad 1) _ (λ l. one) (λ l.
    let k2 : 2 ≤ n = at_least n 2 l in
    either_fits n (second b c) _ (bad 1)
    (either_fits n (nat_lt b 0xE0) (good (code_of_2 b c) 2) _ k2
    (on (λ t. t.size ≤ n) (nat_lt n 3) (bad 2) _ (λ l. k2) (λ l.
    let k3 : 3 ≤ n = at_least n 3 l in
    either_fits n (continues d) _ (bad 2)
    (either_fits n (nat_lt b 0xF0) (good (code_of_3 b c d) 3) _ k3
    (on (λ t. t.size ≤ n) (nat_lt n 4) (bad 3) _ (λ l. k3) (λ l.
    let k4 : 4 ≤ n = at_least n 4 l in
    either_fits n (continues e) (good (code_of_4 b c d e) 4) (bad 3) k4 k3)))
    k2)))
    one)))))

pub decoded_fits : (s : List ℕ) → (decoded s).size ≤ length s
decoded_fits s = decoded_by_fits (length s) (slice_index s 0) (slice_index s 1) (slice_index s 2) (slice_index s 3)

-- what follows the first character is the same too, up to the brace
pub after_char_same : (b : ℕ) → IsBrace b → (x : ℕ) (q y : List ℕ) → after_char_of (x ∷ (q ++ b ∷ y)) ≡ after_char_of (x ∷ q) ++ b ∷ y
after_char_same b h x q y =
    ap (λ (r : Decoded). drop r.size (x ∷ (q ++ b ∷ y))) (decoded_same b h x q y)
    ∙ drop-append-le (decoded (x ∷ q)).size (x ∷ q) (b ∷ y) (decoded_fits (x ∷ q))

pub char_same : (b : ℕ) → IsBrace b → (x : ℕ) (q y : List ℕ) → (decoded (x ∷ (q ++ b ∷ y))).char ≡ (decoded (x ∷ q)).char
char_same b h x q y = ap (λ (r : Decoded). r.char) (decoded_same b h x q y)
