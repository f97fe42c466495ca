-- Texts at whose head there is neither a shebang nor a front matter.
use Rattle.std.proofs.Common.{◌≡◌, ◌⊎◌, inl, inr, ℕ, zero, suc, ◌-◌, ◌<◌, ◌≤◌, Bool, true, false, not, ◌==◌, ◌&&◌, ◌||◌, nat_lt, nat_eq, if◌then◌else◌, Option, Some, None, List, [], ◌∷◌, ◌++◌, length, drop, slice_index, ap, ap₂, sym, ◌∙◌, refl, arith, subst}
use Rattle.std.specs.Prelude.{IsUtf8, slice_get, cond}
use Rattle.std.specs.Str.{trim_start, chars, skip_leading_whitespace}
use lib.Utf8.{encode, encodes}
use Rattle.std.proofs.lemmas.Bool.{cases_eq, and_parts, cases_Bool, eqb-true, not-true}
use Rattle.std.proofs.lemmas.Bool.Decides.{nat_tests}
use Rattle.std.proofs.lemmas.Str.{encode_ascii, chars_past_char, IsUtf8-drop, IsCharBoundary-before_ascii}
use Rattle.bstr.specs.Utf8.{Decoded, decoded, second, continues, bad, good, code_of_2, code_of_3, code_of_4}
use Rattle.ras_front_end.specs.declared.edition.Edition.{Edition}
use Rattle.rust_lexer.specs.declared.class.Class.TheVariants as classes
use Rattle.rust_lexer.specs.declared.class.Wide.TheVariants as wides
use Rattle.rust_lexer.specs.declared.front_matter.Prelude.{Prelude}
use Rattle.rust_lexer.specs.Classes.{test_on, begins_of, begins_wide_of, is_space_of, skip_of, after_char_of}
use Rattle.rust_lexer.specs.Cuts.{is_boundary_of, cut_of}
use Rattle.rust_lexer.specs.Heads.{behind_two_of, has_shebang_of, last_line_of, empty_lines, skip_empty_lines_of, skip_line_of, with_matter, body_of, prelude_of}
use Rattle.rust_lexer.specs.Lexing.{taken_head, taken_head_on, fresh}
use Rattle.lexer_laws.specs.Behind.{IsBrace}
use Rattle.lexer_laws.specs.Heads.{HasNoHead, is_byte, may_be_shebang, is_visible, may_be_fence, may_have_head}
use Rattle.lexer_laws.proofs.Tests.{holds_at_brace, at_brace}
use Rattle.lexer_laws.proofs.Words.{boundary_starts}

-- ---- what is behind a brace

shebang_ends : (a u v : List ℕ) (b : ℕ) → IsBrace b → may_be_shebang (a ++ b ∷ u) ≡ may_be_shebang (a ++ b ∷ v)
shebang_ends [] u v b h =
    let no : nat_eq b 35 ≡ false = at_brace (λ (c : ℕ). nat_eq c 35) b h refl refl in
    ap (λ (p : Bool). p && (is_byte 33 (slice_get u 0) && not (is_byte 91 (slice_get u 1)))) no
    ∙ sym (ap (λ (p : Bool). p && (is_byte 33 (slice_get v 0) && not (is_byte 91 (slice_get v 1)))) no)
shebang_ends (x ∷ []) u v b h =
    let no : nat_eq b 33 ≡ false = at_brace (λ (c : ℕ). nat_eq c 33) b h refl refl in
    ap (λ (p : Bool). nat_eq x 35 && (p && not (is_byte 91 (slice_get u 0)))) no
    ∙ sym (ap (λ (p : Bool). nat_eq x 35 && (p && not (is_byte 91 (slice_get v 0)))) no)
shebang_ends (x ∷ y ∷ []) u v b h = refl
shebang_ends (x ∷ y ∷ z ∷ a) u v b h = refl

fence_ends : (a u v : List ℕ) (b : ℕ) → IsBrace b → may_be_fence (a ++ b ∷ u) ≡ may_be_fence (a ++ b ∷ v)
fence_ends [] u v b h =
    let yes_visible : is_visible b ≡ true = holds_at_brace is_visible b h refl refl in
    ap (λ (p : Bool). if p then nat_eq b 45 else may_be_fence u) yes_visible
    ∙ sym (ap (λ (p : Bool). if p then nat_eq b 45 else may_be_fence v) yes_visible)
fence_ends (x ∷ a) u v b h = ap (λ (p : Bool). if is_visible x then nat_eq x 45 else p) (fence_ends a u v b h)

pub heads_end : (a u v : List ℕ) (b : ℕ) → IsBrace b → may_have_head (a ++ b ∷ u) ≡ may_have_head (a ++ b ∷ v)
heads_end a u v b h = ap₂ (λ (p r : Bool). p || r) (shebang_ends a u v b h) (fence_ends a u v b h)

-- ---- no fence

-- a byte that is not seen
unseen : (x : ℕ) (s : List ℕ) → is_visible x ≡ false → may_be_fence (x ∷ s) ≡ may_be_fence s
unseen x s h = ap (λ (p : Bool). if p then nat_eq x 45 else may_be_fence s) h

high : (k x : ℕ) → 127 ≤ k → nat_lt k x ≡ true → is_visible x ≡ false
high k x h l = grind (arith, nat_tests)

second_on : (p : Bool) (u v : Bool) (x : ℕ) → (u ≡ true → is_visible x ≡ false) → (v ≡ true → is_visible x ≡ false) → cond p u v ≡ true → is_visible x ≡ false
second_on true u v x f g h = f h
second_on false u v x f g h = g h

-- a later byte of a character is not seen
later_unseen : (x : ℕ) → continues x ≡ true → is_visible x ≡ false
later_unseen x h = high 0x7F x (omega arith) (and_parts (nat_lt 0x7F x) (nat_lt x 0xC0) h).0

second_unseen : (b x : ℕ) → second b x ≡ true → is_visible x ≡ false
second_unseen b x h =
    second_on (b == 0xE0) (nat_lt 0x9F x && nat_lt x 0xC0) _ x (λ k. high 0x9F x (omega arith) (and_parts (nat_lt 0x9F x) (nat_lt x 0xC0) k).0)
    (second_on (b == 0xED) (nat_lt 0x7F x && nat_lt x 0xA0) _ x (λ k. high 0x7F x (omega arith) (and_parts (nat_lt 0x7F x) (nat_lt x 0xA0) k).0)
    (second_on (b == 0xF0) (nat_lt 0x8F x && nat_lt x 0xC0) _ x (λ k. high 0x8F x (omega arith) (and_parts (nat_lt 0x8F x) (nat_lt x 0xC0) k).0)
    (second_on (b == 0xF4) (nat_lt 0x7F x && nat_lt x 0x90) (continues x) x (λ k. high 0x7F x (omega arith) (and_parts (nat_lt 0x7F x) (nat_lt x 0x90) k).0)
    (λ k. later_unseen x k)))) h

-- what follows the character has a fence if the text has one
record Passed (s : List ℕ) (r : Decoded) : Type 0 where
  passes : (c : ℕ) → r.char ≡ Some c → may_be_fence (drop r.size s) ≡ may_be_fence s

no_char : (s : List ℕ) (n : ℕ) → Passed s (bad n)
no_char s n = record { passes = λ c h. absurd (let wrong : None ≡ Some c = h in cc) }

on : (s : List ℕ) (p : Bool) (r t : Decoded) → (p ≡ true → Passed s r) → (p ≡ false → Passed s t) → Passed s (cond p r t)
on s true r t f g = f refl
on s false r t f g = g refl

one : (x : ℕ) (s : List ℕ) → is_visible x ≡ false → may_be_fence s ≡ may_be_fence (x ∷ s)
one x s h = sym (unseen x s h)

below : (n k : ℕ) → n < k → nat_lt n k ≡ true
below n k h = grind (arith, nat_tests)

-- a character of two, three and four bytes
passed_two : (x c : ℕ) (s : List ℕ) → is_visible x ≡ false → second x c ≡ true → may_be_fence s ≡ may_be_fence (x ∷ c ∷ s)
passed_two x c s h k = one c s (second_unseen x c k) ∙ one x (c ∷ s) h

passed_three : (x c d : ℕ) (s : List ℕ) → is_visible x ≡ false → second x c ≡ true → continues d ≡ true → may_be_fence s ≡ may_be_fence (x ∷ c ∷ d ∷ s)
passed_three x c d s h k l = one d s (later_unseen d l) ∙ passed_two x c (d ∷ s) h k

passed_four : (x c d e : ℕ) (s : List ℕ) → is_visible x ≡ false → second x c ≡ true → continues d ≡ true → continues e ≡ true → may_be_fence s ≡ may_be_fence (x ∷ c ∷ d ∷ e ∷ s)
passed_four x c d e s h k l m = one e s (later_unseen e m) ∙ passed_three x c d (e ∷ s) h k l

fourth_passed : (x c d : ℕ) (s : List ℕ) → is_visible x ≡ false → second x c ≡ true → continues d ≡ true
    → Passed (x ∷ c ∷ d ∷ s) (cond (nat_lt (length (x ∷ c ∷ d ∷ s)) 4) (bad 3) (cond (continues (slice_index s 0)) (good (code_of_4 x c d (slice_index s 0)) 4) (bad 3)))
fourth_passed x c d [] h k l = no_char (x ∷ c ∷ d ∷ []) 3
fourth_passed x c d (e ∷ s) h k l =
    on (x ∷ c ∷ d ∷ e ∷ s) _ (bad 3) _ (λ z. no_char _ 3)
    (λ z. on (x ∷ c ∷ d ∷ e ∷ s) (continues e) (good (code_of_4 x c d e) 4) (bad 3) (λ m. record { passes = λ n o. passed_four x c d e s h k l m }) (λ m. no_char _ 3))

third_passed : (x c : ℕ) (s : List ℕ) → is_visible x ≡ false → second x c ≡ true
    → Passed (x ∷ c ∷ s) (cond (nat_lt (length (x ∷ c ∷ s)) 3) (bad 2) (cond (continues (slice_index s 0))
    (cond (nat_lt x 0xF0) (good (code_of_3 x c (slice_index s 0)) 3)
    (cond (nat_lt (length (x ∷ c ∷ s)) 4) (bad 3) (cond (continues (slice_index s 1)) (good (code_of_4 x c (slice_index s 0) (slice_index s 1)) 4) (bad 3)))) (bad 2)))
third_passed x c [] h k = no_char (x ∷ c ∷ []) 2
third_passed x c (d ∷ s) h k =
    on (x ∷ c ∷ d ∷ s) _ (bad 2) _ (λ z. no_char _ 2) (λ z. on (x ∷ c ∷ d ∷ s) (continues d) _ (bad 2)
    (λ l. on (x ∷ c ∷ d ∷ s) (nat_lt x 0xF0) (good (code_of_3 x c d) 3) _ (λ m. record { passes = λ n o. passed_three x c d s h k l }) (λ m. fourth_passed x c d s h k l))
    (λ l. no_char _ 2))

two_passed : (x : ℕ) (s : List ℕ) → is_visible x ≡ false
    → Passed (x ∷ s) (cond (nat_lt (length (x ∷ s)) 2) (bad 1) (cond (second x (slice_index s 0))
    (cond (nat_lt x 0xE0) (good (code_of_2 x (slice_index s 0)) 2)
    (cond (nat_lt (length (x ∷ s)) 3) (bad 2) (cond (continues (slice_index s 1))
    (cond (nat_lt x 0xF0) (good (code_of_3 x (slice_index s 0) (slice_index s 1)) 3)
    (cond (nat_lt (length (x ∷ s)) 4) (bad 3) (cond (continues (slice_index s 2)) (good (code_of_4 x (slice_index s 0) (slice_index s 1) (slice_index s 2)) 4) (bad 3))))
    (bad 2)))) (bad 1)))
two_passed x [] h = no_char (x ∷ []) 1
two_passed x (c ∷ s) h =
    on (x ∷ c ∷ s) _ (bad 1) _ (λ z. no_char _ 1) (λ z. on (x ∷ c ∷ s) (second x c) _ (bad 1)
    (λ k. on (x ∷ c ∷ s) (nat_lt x 0xE0) (good (code_of_2 x c) 2) _ (λ m. record { passes = λ n o. passed_two x c s h k }) (λ m. third_passed x c s h k))
    (λ k. no_char _ 1))

char_passed : (x : ℕ) (s : List ℕ) → is_visible x ≡ false → Passed (x ∷ s) (decoded (x ∷ s))
char_passed x s h =
    on (x ∷ s) (length (x ∷ s) == 0) (bad 0) _ (λ z. no_char _ 0)
    (λ z. on (x ∷ s) (nat_lt x 0x80) (good x 1) _ (λ k. record { passes = λ n o. one x s h })
    (λ k. on (x ∷ s) (nat_lt x 0xC2) (bad 1) _ (λ l. no_char _ 1)
    (λ l. on (x ∷ s) (nat_lt 0xF4 x) (bad 1) _ (λ m. no_char _ 1)
    (λ m. two_passed x s h))))

-- ---- white space is not seen

fine_below : ℕ → Bool
fine_below zero = true
fine_below (suc n) = not (is_space_of n && is_visible n) && fine_below n

fine_at : (n x : ℕ) → fine_below n ≡ true → x < n → not (is_space_of x && is_visible x) ≡ true
unfolding fine_below
fine_at zero x h l = absurd (omega (arith, l))
fine_at (suc n) x h l =
    elim (cases_eq x n) [
      | inl same ↦ ap (λ (j : ℕ). not (is_space_of j && is_visible j)) same ∙ (and_parts (not (is_space_of n && is_visible n)) (fine_below n) h).0
      | inr other ↦ fine_at n x (and_parts (not (is_space_of n && is_visible n)) (fine_below n) h).1 (omega (arith, l, other))
    ]

all_fine : fine_below 128 ≡ true
unfolding fine_below
all_fine = refl

not_both : (p r : Bool) → not (p && r) ≡ true → p ≡ true → r ≡ false
not_both true r h k = not-true r h
not_both false r h k = absurd (cc)

picks : (p r : Bool) (u v w : Decoded) → p ≡ false → r ≡ true → cond p u (cond r v w) ≡ v
picks p r u v w h k = ap (λ (c : Bool). cond c u (cond r v w)) h ∙ ap (λ (c : Bool). cond c v w) k

not_zero : (n : ℕ) → 0 < n → (n == 0) ≡ false
not_zero n h = grind (arith, nat_tests)

ascii_decoded : (x : ℕ) (s : List ℕ) → x < 128 → decoded (x ∷ s) ≡ good x 1
ascii_decoded x s h = picks _ _ _ _ _ (not_zero (length (x ∷ s)) (omega arith)) (below x 0x80 h)

seen_small : (x : ℕ) → is_visible x ≡ true → x < 128
seen_small x h = grind (arith, nat_tests)

space_unseen : (x : ℕ) (s : List ℕ) → begins_wide_of wides.Space (x ∷ s) ≡ true → (is_visible x ≡ true) ⊎ (is_visible x ≡ false) → is_visible x ≡ false
space_unseen x s h (inr k) = k
space_unseen x s h (inl k) =
    let small : x < 128 = seen_small x k in
    let space : is_space_of x ≡ true = sym (ap (λ (r : Decoded). test_on is_space_of r.char) (ascii_decoded x s small)) ∙ h in
    not_both (is_space_of x) (is_visible x) (fine_at 128 x all_fine small) space

some_char : (test : ℕ → Bool) (o : Option ℕ) → test_on test o ≡ true → (c : ℕ) × (o ≡ Some c)
some_char test None h = absurd (cc)
some_char test (Some c) h = (c, refl)

space_passed : (s : List ℕ) → begins_wide_of wides.Space s ≡ true → may_be_fence s ≡ false → may_be_fence (after_char_of s) ≡ false
space_passed [] h k = absurd (cc)
space_passed (x ∷ s) h k =
    let c = some_char is_space_of (decoded (x ∷ s)).char h in
    (char_passed x s (space_unseen x s h (cases_Bool (is_visible x)))).passes c.0 c.1 ∙ k

unequal : (x n : ℕ) → (x ≡ n → ⊥) → (x == n) ≡ false
unequal x n h = grind (arith, nat_tests)

no_dash : (s : List ℕ) → may_be_fence s ≡ false → begins_of 45 s ≡ false
no_dash [] h = refl
no_dash (x ∷ s) h = unequal x 45 (λ e.
    let dash : may_be_fence (x ∷ s) ≡ true = ap (λ (j : ℕ). if is_visible j then nat_eq j 45 else may_be_fence s) e in
    absurd (let bad : true ≡ false = sym dash ∙ h in cc))

last_line_plain : (p : Bool) (r t : List ℕ) → begins_of 45 r ≡ false → begins_of 45 t ≡ false → begins_of 45 (if p then r else t) ≡ false
last_line_plain true r t h k = h
last_line_plain false r t h k = k

lines_on : (b : Bool) (s p q : List ℕ) → begins_wide_of wides.Space s ≡ b → (b ≡ true → begins_of 45 p ≡ false) → begins_of 45 q ≡ false → begins_of 45 (if b then p else q) ≡ false
lines_on true s p q e h k = h refl
lines_on false s p q e h k = k

lines_plain : (n : ℕ) (p s : List ℕ) → may_be_fence s ≡ false → begins_of 45 p ≡ false → begins_of 45 (empty_lines n p s) ≡ false
unfolding empty_lines
lines_plain zero p s h k = k
lines_plain (suc n) p s h k =
    lines_on (begins_wide_of wides.Space s) s (empty_lines n (last_line_of p s) (after_char_of s)) p refl (λ w.
    let after : may_be_fence (after_char_of s) ≡ false = space_passed s w h in
    lines_plain n (last_line_of p s) (after_char_of s) after (last_line_plain (begins_of 10 s) (after_char_of s) p (no_dash (after_char_of s) after) k)) k

-- ---- no shebang

shebang_on : (p q r t : Bool) → (p && (q && not r)) ≡ false → (r ≡ true → t ≡ true) → ((p && q) && not t) ≡ false
shebang_on false q r t h f = refl
shebang_on true false r t h f = refl
shebang_on true true true t h f = ap not (f refl)
shebang_on true true false t h f = absurd (cc)

right_false : (p t : Bool) → ((p && false) && t) ≡ false
right_false true t = refl
right_false false t = refl

behind_marks : (x y z : ℕ) (s : List ℕ) → z < 128 → behind_two_of (x ∷ y ∷ z ∷ s) ≡ z ∷ s
behind_marks x y z s h =
    let text : List ℕ = x ∷ y ∷ z ∷ s in
    let i : ℕ = length text - (length text - 2) in
    let two : i ≡ 2 = omega arith in
    let at : is_boundary_of i text ≡ true = ap (λ (j : ℕ). is_boundary_of j text) two ∙ boundary_starts 2 text (IsCharBoundary-before_ascii text 2 (omega arith) h) in
    let cut : cut_of (length text - 2) text ≡ 2 =
    ap₂ (λ (p r : Bool). if p || not r then length text else i) (not_zero i (omega (arith, two))) at ∙ two in
    ap (λ (j : ℕ). drop j text) cut

trimmed : (s : List ℕ) → IsUtf8 (91 ∷ s) → begins_of 91 (trim_start (91 ∷ s)) ≡ true
unfolding trim_start
trimmed s u =
    let code : encode 91 ≡ 91 ∷ [] = encode_ascii 91 (omega arith) in
    ap (λ (cs : List ℕ). begins_of 91 (encodes (skip_leading_whitespace cs))) (chars_past_char (91 ∷ s) s 91 u (ap (λ (w : List ℕ). w ++ s) (sym code)))
    ∙ ap (λ (w : List ℕ). begins_of 91 (w ++ encodes (chars s))) code

no_shebang : (s : List ℕ) → IsUtf8 s → may_be_shebang s ≡ false → has_shebang_of s ≡ false
no_shebang [] u h = refl
no_shebang (x ∷ []) u h = right_false (x == 35) (not (begins_of 91 (trim_start (behind_two_of (x ∷ [])))))
no_shebang (x ∷ y ∷ []) u h = shebang_on (x == 35) (y == 33) false (begins_of 91 (trim_start (behind_two_of (x ∷ y ∷ [])))) h (λ e. absurd (cc))
no_shebang (x ∷ y ∷ z ∷ s) u h =
    shebang_on (x == 35) (y == 33) (nat_eq z 91) (begins_of 91 (trim_start (behind_two_of (x ∷ y ∷ z ∷ s)))) h (λ e.
    let is : z ≡ 91 = eqb-true z 91 e in
    let small : z < 128 = omega (arith, is) in
    let text : IsUtf8 (z ∷ s) = IsUtf8-drop (x ∷ y ∷ z ∷ s) 2 u (IsCharBoundary-before_ascii (x ∷ y ∷ z ∷ s) 2 (omega arith) small) in
    ap (λ (t : List ℕ). begins_of 91 (trim_start t)) (behind_marks x y z s small)
    ∙ ap (λ (j : ℕ). begins_of 91 (trim_start (j ∷ s))) is
    ∙ trimmed s (subst (λ (j : ℕ). IsUtf8 (j ∷ s)) is text))

-- ---- nothing is at the head

no_dashes : (f : List ℕ) → begins_of 45 f ≡ false → skip_of classes.Dash f ≡ f
no_dashes [] h = refl
no_dashes (x ∷ f) h = ap (λ (b : Bool). if b then skip_of classes.Dash f else x ∷ f) h

same_length : (n : ℕ) → ((n - n) == 0) ≡ true
same_length n = grind (arith, nat_tests)

prelude_on : Bool → List ℕ → Option Prelude
prelude_on p s =
    let t : List ℕ = if p then skip_line_of s else s in
    let b : Option ℕ = if p then Some (length t) else None in
    let f = skip_empty_lines_of t in
    let r = skip_of classes.Dash f in
    let d = length f - length r in
    if d == 0 then Some (record { shebang = b; front_matter = None })
    else (if nat_lt d 3 then None
    else with_matter b (body_of d r))

no_prelude : (s : List ℕ) → has_shebang_of s ≡ false → begins_of 45 (skip_empty_lines_of s) ≡ false → prelude_of s ≡ Some (record { shebang = None; front_matter = None })
unfolding prelude_on
no_prelude s h k =
    let f : List ℕ = skip_empty_lines_of s in
    let made : List ℕ → Option Prelude = λ r.
    if (length f - length r) == 0 then Some (record { shebang = None; front_matter = None })
    else (if nat_lt (length f - length r) 3 then None
    else with_matter None (body_of (length f - length r) r)) in
    ap (λ (p : Bool). prelude_on p s) h ∙ ap made (no_dashes f k)
    ∙ ap (λ (b : Bool). if b then Some (record { shebang = None; front_matter = None }) else (if nat_lt (length f - length f) 3 then None else with_matter None (body_of (length f - length f) f)))
    (same_length (length f))

both_false : (p r : Bool) → (p || r) ≡ false → (p ≡ false) × (r ≡ false)
both_false false r h = (refl, h)
both_false true r h = absurd (cc)

pub plain_heads : (e : Edition) (text : List ℕ) → IsUtf8 text → may_have_head text ≡ false → HasNoHead e text
unfolding taken_head
plain_heads e text u h =
    let parts = both_false (may_be_shebang text) (may_be_fence text) h in
    let p = no_prelude text (no_shebang text u parts.0) (lines_plain (length text) text text parts.1 (no_dash text parts.1)) in
    ap (λ (o : Option Prelude). taken_head_on e text (fresh text) o) p
