-- The content of a literal ends before a quote of its token.
use Rattle.std.proofs.Common.{◌≡◌, ℕ, zero, suc, ◌-◌, ◌<◌, ◌^◌, Bool, true, false, not, ◌==◌, ◌&&◌, ◌||◌, nat_lt, nat_le, if◌then◌else◌, List, [], ◌∷◌, ◌++◌, length, drop, take, ap, ap₂, sym, ◌∙◌, refl, arith, append_assoc, length-append, take-append-drop}
use Rattle.std.specs.Prelude.{bytes_eq, codes, slice_index}
use Rattle.std.proofs.lemmas.Bool.{and_parts, eqb-true}
use Rattle.std.proofs.lemmas.Bool.Decides.{nat_tests}
use Rattle.syntax_kind.specs.declared.syntax_kind.SyntaxKind.{SyntaxKind}
use Rattle.syntax_kind.specs.declared.syntax_kind.SyntaxKind.TheVariants as kinds
use Rattle.syntax_kind.specs.declared.syntax_kind.token_kind.TokenKind.TheVariants as token
use Rattle.literal_escape.specs.declared.mode.Mode.{Mode}
use Rattle.literal_escape.specs.declared.mode.Mode.TheVariants as modes
use Rattle.ras_front_end.specs.declared.edition.Edition.{Edition}
use Rattle.bstr.specs.Utf8.{decoded}
use Rattle.rust_lexer.specs.declared.class.Class.{Class}
use Rattle.rust_lexer.specs.declared.class.Class.TheVariants as classes
use Rattle.rust_lexer.specs.declared.class.Wide.{Wide}
use Rattle.rust_lexer.specs.declared.class.Wide.TheVariants as wides
use Rattle.rust_lexer.specs.declared.scan.Scan.{Scan}
use Rattle.rust_lexer.specs.declared.scan.Scan.TheVariants.{Comment, Text, Quote, QuoteLine, Raw, Closed}
use Rattle.rust_lexer.specs.declared.shape.Shape.{Shape}
use Rattle.rust_lexer.specs.declared.shape.Check.{Check}
use Rattle.rust_lexer.specs.declared.shape.Check.TheVariants.{No, Is, Prefix, Content}
use Rattle.rust_lexer.specs.Classes.{begins_of, begins_digit_of, begins_beyond_of, begins_wide_of, is_in_of, is_letter_of, is_digit_of, skip_of, skip_some, skip_wide_of, after_char_of}
use Rattle.rust_lexer.specs.Comments.{block_kind_of, block_on}
use Rattle.rust_lexer.specs.Cuts.{is_boundary_of, front_of}
use Rattle.rust_lexer.specs.Fronts.{StringRead}
use Rattle.rust_lexer.specs.Names.{begins_name_of, begins_emoji_of, begins_wide_emoji_of, is_literal_mark_of, name_of, skip_name_of, skip_suffix_of}
use Rattle.rust_lexer.specs.Numbers.{begins_exponent_of, exponent_of, fraction_of, behind_digits_of, based_of, number_of, sign_of as signed}
use Rattle.rust_lexer.specs.QuoteLaws.{CharacterRead}
use Rattle.rust_lexer.specs.Quotes.{one_more, closed_of, string_on, string_of, is_mark_of, character_on, character_of, lifetime_of, is_raw_lifetime_of, may_be_lifetime_of, character_or_lifetime_of}
use Rattle.rust_lexer.specs.RawStrings.{invalid_of, body_on, body_of, raw_string_of}
use Rattle.rust_lexer.specs.Scans.{run_of}
use Rattle.rust_lexer.specs.Shapes.{plain_of}
use Rattle.rust_lexer.specs.Tokens.{space_of, slash_of, opens_raw_of, is_reserved_of, letter_r_of, letter_b_of, letter_c_of, letter_of, beyond_of, mark_of, other_of, token_of}
use Rattle.rust_lexer.proofs.Fronts.{longest, strings_read}
use Rattle.rust_lexer.proofs.QuoteFronts.{characters_read}
use Rattle.lexer_laws.proofs.Words.{is_whole, boundary_at, byte_behind}

-- where the check is a content's, the text can be cut behind that content
abbrev pub FitsIn : List ℕ → Check → Type 0
FitsIn s No = Unit {0}
FitsIn s (Is p) = Unit {0}
FitsIn s Prefix = Unit {0}
FitsIn s (Content m before behind) = is_whole behind s ≡ false

pick : (s : List ℕ) (c : Bool) (u v : Shape) → (c ≡ true → FitsIn s u.check) → (c ≡ false → FitsIn s v.check) → FitsIn s (if c then u else v).check
pick s true u v h k = h refl
pick s false u v h k = k refl

-- ---- a quote behind a content

not_zero : (n : ℕ) → 0 < n → (n == 0) ≡ false
not_zero n h = grind (arith, nat_tests)

is_below : (q : ℕ) → q < 128 → nat_lt q 128 ≡ true
is_below q h = grind (arith, nat_tests)

starts : (before r : List ℕ) (q : ℕ) → q < 128 → is_boundary_of (length before) (before ++ q ∷ r) ≡ true
starts before r q h =
    boundary_at (length before) (length (before ++ q ∷ r)) (slice_index (before ++ q ∷ r) (length before)) (omega (arith, length-append before (q ∷ r)))
    ∙ ap (λ (c : ℕ). nat_lt c 128 || nat_le 192 c) (byte_behind before r q)
    ∙ ap (λ (p : Bool). p || nat_le 192 q) (is_below q h)

-- a text can be cut before a byte of ASCII that is not its first
cut_before : (before r : List ℕ) (q n : ℕ) → q < 128 → 0 < length before → n ≡ suc (length r) → is_whole n (before ++ q ∷ r) ≡ false
cut_before before r q n h l e =
    let s : List ℕ = before ++ q ∷ r in
    let i : length s - n ≡ length before = omega (arith, length-append before (q ∷ r), e) in
    ap (λ (j : ℕ). (j == 0) || not (is_boundary_of j s)) i
    ∙ ap₂ (λ (p b : Bool). p || not b) (not_zero (length before) l) (starts before r q h)

closed_fits : (m : Mode) (s before r : List ℕ) (q : ℕ) → s ≡ before ++ q ∷ r → q < 128 → 0 < length before → length s < 2 ^ 32 → FitsIn s (closed_of m r).check
closed_fits m s before r q is h l few =
    let more : one_more (length r) ≡ suc (length r) = omega (arith, ap length is, length-append before (q ∷ r), few) in
    ap (is_whole (one_more (length r))) is ∙ cut_before before r q (one_more (length r)) h l more

string_on_fits : (m : Mode) (p : Scan) (s t before r : List ℕ) → s ≡ before ++ t → 0 < length before → length s < 2 ^ 32 → (p ≡ Closed → StringRead t r) → FitsIn s (string_on m p r).check
string_on_fits m Closed s t before r is l few f =
    let read : StringRead t r = f refl in
    let parts : s ≡ (before ++ read.content) ++ 34 ∷ r = is ∙ ap (λ (z : List ℕ). before ++ z) read.parts ∙ sym (append_assoc before read.content (34 ∷ r)) in
    closed_fits m s (before ++ read.content) r 34 parts (omega arith) (omega (arith, l, length-append before read.content)) few
string_on_fits m _ s t before r is l few f = tt

string_fits : (m : Mode) (s t before : List ℕ) → s ≡ before ++ t → 0 < length before → length s < 2 ^ 32 → FitsIn s (string_of m t).check
string_fits m s t before is l few = string_on_fits m (run_of Text t).0 s t before (run_of Text t).1 is l few (λ h. strings_read t h)

character_on_fits : (m : Mode) (p : Scan) (s t before r : List ℕ) → s ≡ before ++ t → 0 < length before → length s < 2 ^ 32 → (p ≡ Closed → CharacterRead t r) → FitsIn s (character_on m p r).check
character_on_fits m Closed s t before r is l few f =
    let read : CharacterRead t r = f refl in
    let parts : s ≡ (before ++ read.content) ++ 39 ∷ r = is ∙ ap (λ (z : List ℕ). before ++ z) read.parts ∙ sym (append_assoc before read.content (39 ∷ r)) in
    closed_fits m s (before ++ read.content) r 39 parts (omega arith) (omega (arith, l, length-append before read.content)) few
character_on_fits m QuoteLine s t before r is l few f = tt
character_on_fits m _ s t before r is l few f = tt

mark_parts : (t : List ℕ) → is_mark_of t ≡ true → (y : ℕ) × (t ≡ y ∷ 39 ∷ drop 2 t)
mark_parts [] h = absurd (cc)
mark_parts (y ∷ []) h = absurd (let bad : false ≡ true = (and_parts ((y == 39) || (y == 47)) false h).1 in cc)
mark_parts (y ∷ z ∷ t) h = (y, ap (λ (j : ℕ). y ∷ j ∷ t) (eqb-true z 39 (and_parts ((y == 39) || (y == 47)) (z == 39) h).1))

character_fits : (m : Mode) (s t before : List ℕ) → s ≡ before ++ t → 0 < length before → length s < 2 ^ 32 → FitsIn s (character_of m t).check
character_fits m s t before is l few =
    pick s (is_mark_of t) (closed_of m (drop 2 t)) (character_on m (run_of Quote t).0 (run_of Quote t).1)
    (λ h.
    let mark = mark_parts t h in
    let parts : s ≡ (before ++ mark.0 ∷ []) ++ 39 ∷ drop 2 t =
    is ∙ ap (λ (z : List ℕ). before ++ z) mark.1 ∙ sym (append_assoc before (mark.0 ∷ []) (39 ∷ drop 2 t)) in
    closed_fits m s (before ++ mark.0 ∷ []) (drop 2 t) 39 parts (omega arith) (omega (arith, l, length-append before (mark.0 ∷ []))) few)
    (λ h. character_on_fits m (run_of Quote t).0 s t before (run_of Quote t).1 is l few (λ k. characters_read t k))

-- ---- a name between quotes

record Behind (s r : List ℕ) : Type 0 where
  front : List ℕ
  parts : s ≡ front ++ r

behind_on : (p : Bool) (s r : List ℕ) → Behind s r → Behind s (if p then r else s)
behind_on true s r h = h
behind_on false s r h = record { front = []; parts = refl }

some_behind : (n : ℕ) (w : Wide) (s : List ℕ) → Behind s (skip_some n w s)
unfolding skip_some
some_behind zero w s = record { front = []; parts = refl }
some_behind (suc n) w s =
    let rest = some_behind n w (after_char_of s) in
    let k : ℕ = (decoded s).size in
    behind_on (begins_wide_of w s) s (skip_some n w (after_char_of s)) (record {
      front = take k s ++ rest.front;
      parts = sym (take-append-drop k s) ∙ ap (λ (z : List ℕ). take k s ++ z) rest.parts ∙ sym (append_assoc (take k s) rest.front (skip_some n w (after_char_of s)));
    })

name_on : (p : Bool) (s m r : List ℕ) → Behind s m → Behind m r → Behind s (if p then r else m)
name_on true s m r h k = record { front = h.front ++ k.front; parts = h.parts ∙ ap (λ (z : List ℕ). h.front ++ z) k.parts ∙ sym (append_assoc h.front k.front r) }
name_on false s m r h k = h

name_behind : (s : List ℕ) → Behind s (skip_name_of s)
name_behind s =
    let m : List ℕ = skip_of classes.Name s in
    let read = longest classes.Name s in
    name_on (begins_beyond_of m) s m (skip_wide_of wides.Name m) (record { front = read.front; parts = read.parts }) (some_behind (length m) wides.Name m)

first_is : (n : ℕ) (s : List ℕ) → begins_of n s ≡ true → s ≡ n ∷ drop 1 s
first_is n [] h = absurd (cc)
first_is n (x ∷ s) h = ap (λ (y : ℕ). y ∷ s) (eqb-true x n h)

lifetime_fits : (s t before : List ℕ) → s ≡ before ++ t → 0 < length before → FitsIn s (lifetime_of t).check
lifetime_fits s t before is l =
    let r : List ℕ = skip_name_of t in
    pick s (begins_of 39 r) _ _
    (λ h.
    let name = name_behind t in
    let quote : r ≡ 39 ∷ drop 1 r = first_is 39 r h in
    let parts : s ≡ (before ++ name.front) ++ 39 ∷ drop 1 r =
    is ∙ ap (λ (z : List ℕ). before ++ z) name.parts ∙ sym (append_assoc before name.front r) ∙ ap (λ (z : List ℕ). (before ++ name.front) ++ z) quote in
    ap (is_whole (length r)) parts
    ∙ cut_before (before ++ name.front) (drop 1 r) 39 (length r) (omega arith) (omega (arith, l, length-append before name.front)) (ap length quote))
    (λ h. pick s (begins_digit_of t) _ _ (λ k. tt) (λ k. pick s (begins_of 35 r) _ _ (λ n. tt) (λ n. tt)))

character_or_lifetime_fits : (s t before : List ℕ) → s ≡ before ++ t → 0 < length before → length s < 2 ^ 32 → FitsIn s (character_or_lifetime_of t).check
character_or_lifetime_fits s t before is l few =
    pick s (not (may_be_lifetime_of t)) _ _ (λ h. character_fits modes.Char s t before is l few)
    (λ h. pick s (is_raw_lifetime_of t) _ _ (λ k. tt) (λ k. lifetime_fits s t before is l))

-- ---- all tokens

name_fits : (e : Edition) (s t : List ℕ) → FitsIn s (name_of e t).check
name_fits e s t =
    let r : List ℕ = skip_name_of t in
    pick s (is_literal_mark_of r) _ _ (λ h. pick s (bytes_eq (front_of (length r) t) (codes "builtin")) _ _ (λ k. tt) (λ k. tt))
    (λ h. pick s (begins_wide_emoji_of r) _ _ (λ k. tt) (λ k. tt))

body_fits : (k : SyntaxKind) (h : ℕ) (p : Scan) (s r : List ℕ) → FitsIn s (body_on k h p r).check
body_fits k h Closed s r = pick s (nat_lt h 256) (plain_of k (length (skip_suffix_of r))) (invalid_of k (length r)) (λ n. tt) (λ n. tt)
body_fits k h _ s r = tt

raw_fits : (k : SyntaxKind) (s t : List ℕ) → FitsIn s (raw_string_of k t).check
raw_fits k s t =
    let o : List ℕ = skip_of classes.Hash t in
    let n : ℕ = length t - length o in
    pick s (begins_of 34 o) (body_of k n (drop 1 o)) (invalid_of k (length (after_char_of o)))
    (λ h. body_fits k n (run_of (Raw n) (drop 1 o)).0 s (run_of (Raw n) (drop 1 o)).1) (λ h. tt)

exponent_fits : (s t : List ℕ) → FitsIn s (exponent_of t).check
exponent_fits s t = pick s (begins_digit_of (skip_of classes.Underscore (signed t))) _ _ (λ h. tt) (λ h. tt)

fraction_fits : (s t : List ℕ) → FitsIn s (fraction_of t).check
fraction_fits s t =
    pick s (not (begins_digit_of t)) _ _ (λ h. tt)
    (λ h. pick s (begins_exponent_of (skip_of classes.Decimal t)) _ _ (λ k. exponent_fits s (drop 1 (skip_of classes.Decimal t))) (λ k. tt))

digits_fits : (s t : List ℕ) → FitsIn s (behind_digits_of t).check
digits_fits s t =
    pick s (begins_of 46 t) _ _ (λ h. pick s (begins_of 46 (drop 1 t) || begins_name_of (drop 1 t)) _ _ (λ k. tt) (λ k. fraction_fits s (drop 1 t)))
    (λ h. pick s (begins_exponent_of t) _ _ (λ k. exponent_fits s (drop 1 t)) (λ k. tt))

based_fits : (c : Class) (s t : List ℕ) → FitsIn s (based_of c t).check
based_fits c s t =
    let d : List ℕ = skip_of classes.Underscore t in
    pick s (length (skip_of c d) == length d) _ _ (λ h. tt) (λ h. digits_fits s (skip_of c d))

number_fits : (x : ℕ) (s t : List ℕ) → FitsIn s (number_of x t).check
number_fits x s t =
    pick s ((x == 48) && begins_of 120 t) _ _ (λ h. based_fits classes.Hexadecimal s (drop 1 t))
    (λ h. pick s ((x == 48) && (begins_of 98 t || begins_of 111 t)) _ _ (λ k. based_fits classes.Decimal s (drop 1 t)) (λ k. digits_fits s (skip_of classes.Decimal t)))

block_fits : (k : SyntaxKind) (p : Scan) (n : ℕ) (s : List ℕ) → FitsIn s (block_on k p n).check
block_fits k Closed n s = tt
block_fits k _ n s = tt

slash_fits : (s t : List ℕ) → FitsIn s (slash_of t).check
slash_fits s t =
    pick s (begins_of 47 t) _ _ (λ h. tt)
    (λ h. pick s (begins_of 42 t) _ _ (λ k. block_fits (block_kind_of (drop 1 t)) (run_of (Comment 0) (drop 1 t)).0 (length (run_of (Comment 0) (drop 1 t)).1) s) (λ k. tt))

space_fits : (s t : List ℕ) → FitsIn s (space_of t).check
space_fits s t = pick s (begins_beyond_of (skip_of classes.Space t)) _ _ (λ h. tt) (λ h. tt)

-- a literal behind one more letter
second_of : (n x : ℕ) (t : List ℕ) → begins_of n t ≡ true → x ∷ t ≡ (x ∷ n ∷ []) ++ drop 1 t
second_of n x t h = ap (λ (z : List ℕ). x ∷ z) (first_is n t h)

letter_r_fits : (e : Edition) (s w t : List ℕ) → FitsIn s (letter_r_of e w t).check
letter_r_fits e s w t =
    pick s (begins_of 35 t && begins_name_of (drop 1 t)) _ _ (λ h. tt)
    (λ h. pick s (opens_raw_of t) _ _ (λ k. raw_fits (kinds.Token token.STRING) s t) (λ k. name_fits e s w))

letter_b_fits : (e : Edition) (x : ℕ) (t : List ℕ) → length (x ∷ t) < 2 ^ 32 → FitsIn (x ∷ t) (letter_b_of e (x ∷ t) t).check
letter_b_fits e x t few =
    let s : List ℕ = x ∷ t in
    pick s (begins_of 114 t && opens_raw_of (drop 1 t)) _ _ (λ h. raw_fits (kinds.Token token.BYTE_STRING) s (drop 1 t))
    (λ h. pick s (begins_of 34 t) _ _ (λ k. string_fits modes.ByteStr s (drop 1 t) (x ∷ 34 ∷ []) (second_of 34 x t k) (omega arith) few)
    (λ k. pick s (begins_of 39 t) _ _ (λ n. character_fits modes.Byte s (drop 1 t) (x ∷ 39 ∷ []) (second_of 39 x t n) (omega arith) few) (λ n. name_fits e s s)))

letter_c_fits : (e : Edition) (x : ℕ) (t : List ℕ) → length (x ∷ t) < 2 ^ 32 → FitsIn (x ∷ t) (letter_c_of e (x ∷ t) t).check
letter_c_fits e x t few =
    let s : List ℕ = x ∷ t in
    pick s (begins_of 114 t && opens_raw_of (drop 1 t)) _ _ (λ h. raw_fits (kinds.Token token.C_STRING) s (drop 1 t))
    (λ h. pick s (begins_of 34 t) _ _ (λ k. string_fits modes.CStr s (drop 1 t) (x ∷ 34 ∷ []) (second_of 34 x t k) (omega arith) few) (λ k. name_fits e s s))

letter_fits : (e : Edition) (x : ℕ) (t : List ℕ) → length (x ∷ t) < 2 ^ 32 → FitsIn (x ∷ t) (letter_of e x (x ∷ t) t).check
letter_fits e x t few =
    let s : List ℕ = x ∷ t in
    pick s (x == 114) _ _ (λ h. letter_r_fits e s s t)
    (λ h. pick s (x == 98) _ _ (λ k. letter_b_fits e x t few)
    (λ k. pick s (x == 99) _ _ (λ n. letter_c_fits e x t few) (λ n. name_fits e s s)))

beyond_fits : (e : Edition) (s t : List ℕ) → FitsIn s (beyond_of e t).check
beyond_fits e s t =
    pick s (begins_wide_of wides.Space t) _ _ (λ h. space_fits s t)
    (λ h. pick s (begins_name_of t) _ _ (λ k. name_fits e s t) (λ k. pick s (begins_emoji_of t) _ _ (λ n. tt) (λ n. tt)))

mark_fits : (e : Edition) (x : ℕ) (t : List ℕ) → length (x ∷ t) < 2 ^ 32 → FitsIn (x ∷ t) (mark_of e x t).check
mark_fits e x t few =
    let s : List ℕ = x ∷ t in
    pick s (x == 47) _ _ (λ h. slash_fits s t)
    (λ h. pick s (x == 34) _ _ (λ k. string_fits modes.Str s t (x ∷ []) refl (omega arith) few)
    (λ k. pick s (x == 39) _ _ (λ n. character_or_lifetime_fits s t (x ∷ []) refl (omega arith) few)
    (λ n. pick s (x == 35) _ _ (λ m. pick s (is_reserved_of e t) _ _ (λ o. tt) (λ o. tt)) (λ m. tt))))

other_fits : (e : Edition) (x : ℕ) (t : List ℕ) → length (x ∷ t) < 2 ^ 32 → FitsIn (x ∷ t) (other_of e x (x ∷ t) t).check
other_fits e x t few =
    let s : List ℕ = x ∷ t in
    pick s (is_digit_of x) _ _ (λ h. number_fits x s t) (λ h. pick s (nat_le 128 x) _ _ (λ k. beyond_fits e s s) (λ k. mark_fits e x t few))

pub token_fits : (e : Edition) (x : ℕ) (t : List ℕ) → length (x ∷ t) < 2 ^ 32 → FitsIn (x ∷ t) (token_of e (x ∷ t)).check
unfolding token_of
token_fits e x t few =
    let s : List ℕ = x ∷ t in
    pick s (is_in_of classes.Space x) _ _ (λ h. space_fits s s)
    (λ h. pick s (is_letter_of x || x == 95) _ _ (λ k. letter_fits e x t few) (λ k. other_fits e x t few))
