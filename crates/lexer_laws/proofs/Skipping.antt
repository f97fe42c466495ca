-- Names, suffixes and white space past ASCII end before a brace.
use Rattle.std.proofs.Common.{◌≡◌, ℕ, zero, suc, ◌≤◌, Bool, true, false, ◌==◌, ◌||◌, nat_lt, nat_le, if◌then◌else◌, List, [], ◌∷◌, ◌++◌, length, ap, sym, ◌∙◌, refl, arith}
use Rattle.std.proofs.lemmas.Bool.{or_from}
use Rattle.std.proofs.lemmas.List.{length-drop}
use Rattle.unicode_ident.proofs.IdentLemmas.{is_xid_continue-ascii}
use Rattle.bstr.specs.Utf8.{Decoded, decoded}
use Rattle.rust_lexer.specs.declared.class.Class.{Class}
use Rattle.rust_lexer.specs.declared.class.Class.TheVariants as classes
use Rattle.rust_lexer.specs.declared.class.Wide.{Wide}
use Rattle.rust_lexer.specs.declared.class.Wide.TheVariants as wides
use Rattle.rust_lexer.specs.Classes.{test_on, begins_beyond_of, begins_digit_of, begins_wide_of, is_letter_of, is_digit_of, is_in_of, is_wide_of, is_emoji_of, is_name_start_of, is_name_continue_of, skip_of, skip_some, skip_wide_of, after_char_of}
use Rattle.rust_lexer.specs.Names.{begins_wide_name_of, begins_name_of, begins_emoji_of, begins_wide_emoji_of, is_literal_mark_of, skip_name_of, skip_suffix_of}
use Rattle.rust_lexer.proofs.NameFronts.{decoded_some}
use Rattle.lexer_laws.specs.Behind.{IsBrace}
use Rattle.lexer_laws.proofs.Tests.{at_brace, test_same, not_same, and_same, skip_same, longer}
use Rattle.lexer_laws.proofs.Decoding.{brace_decoded, after_char_same, char_same}

no_continue : (b : ℕ) → IsBrace b → is_name_continue_of b ≡ false
no_continue b h = at_brace is_name_continue_of b h (is_xid_continue-ascii 123 (omega arith)) (is_xid_continue-ascii 125 (omega arith))

no_emoji : (b : ℕ) → IsBrace b → is_emoji_of b ≡ false
no_emoji b h = at_brace is_emoji_of b h refl refl

-- a brace is in none of the classes of characters
pub not_wide : (w : Wide) (b : ℕ) → IsBrace b → is_wide_of w b ≡ false
not_wide wides.Space b h = at_brace (λ (c : ℕ). is_wide_of wides.Space c) b h refl refl
not_wide wides.Name b h = no_continue b h
not_wide wides.Emoji b h =
    or_from (is_name_continue_of b || is_emoji_of b) (b == 0x200d) (or_from (is_name_continue_of b) (is_emoji_of b) (no_continue b h) (no_emoji b h))
    (not_same 0x200d b h refl refl)

at_wide : (test : ℕ → Bool) (b : ℕ) → IsBrace b → test b ≡ false → (y : List ℕ) → test_on test (decoded (b ∷ y)).char ≡ false
at_wide test b h f y = ap (λ (r : Decoded). test_on test r.char) (brace_decoded b h y) ∙ f

-- a test of the first character does not depend on what follows a brace
pub char_test_same : (test : ℕ → Bool) (b : ℕ) → IsBrace b → test b ≡ false → (q y : List ℕ) → test_on test (decoded (q ++ b ∷ y)).char ≡ test_on test (decoded q).char
char_test_same test b h f [] y = at_wide test b h f y
char_test_same test b h f (x ∷ q) y = ap (test_on test) (char_same b h x q y)

pub begins_wide_same : (w : Wide) (b : ℕ) → IsBrace b → (q y : List ℕ) → begins_wide_of w (q ++ b ∷ y) ≡ begins_wide_of w q
begins_wide_same w b h q y = char_test_same (is_wide_of w) b h (not_wide w b h) q y

pub begins_emoji_same : (b : ℕ) → IsBrace b → (q y : List ℕ) → begins_emoji_of (q ++ b ∷ y) ≡ begins_emoji_of q
begins_emoji_same b h q y = char_test_same is_emoji_of b h (no_emoji b h) q y

pub beyond_same : (b : ℕ) → IsBrace b → (q y : List ℕ) → begins_beyond_of (q ++ b ∷ y) ≡ begins_beyond_of q
beyond_same b h q y = test_same (λ (x : ℕ). nat_le 128 x) b (at_brace (λ (x : ℕ). nat_le 128 x) b h refl refl) q y

pub digit_same : (b : ℕ) → IsBrace b → (q y : List ℕ) → begins_digit_of (q ++ b ∷ y) ≡ begins_digit_of q
digit_same b h q y = test_same is_digit_of b (at_brace is_digit_of b h refl refl) q y

pub literal_mark_same : (b : ℕ) → IsBrace b → (q y : List ℕ) → is_literal_mark_of (q ++ b ∷ y) ≡ is_literal_mark_of q
literal_mark_same b h q y =
    test_same (λ (x : ℕ). x == 35 || x == 34 || x == 39) b (at_brace (λ (x : ℕ). x == 35 || x == 34 || x == 39) b h refl refl) q y

pub wide_emoji_same : (b : ℕ) → IsBrace b → (q y : List ℕ) → begins_wide_emoji_of (q ++ b ∷ y) ≡ begins_wide_emoji_of q
wide_emoji_same b h q y =
    and_same (begins_beyond_of (q ++ b ∷ y)) (begins_beyond_of q) (begins_emoji_of (q ++ b ∷ y)) (begins_emoji_of q) (beyond_same b h q y) (begins_emoji_same b h q y)

wide_name_same : (b : ℕ) → IsBrace b → (x : ℕ) (q y : List ℕ) → begins_wide_name_of (x ∷ (q ++ b ∷ y)) ≡ begins_wide_name_of (x ∷ q)
wide_name_same b h x q y = ap (test_on is_name_start_of) (char_same b h x q y)

pub begins_name_same : (b : ℕ) → IsBrace b → (q y : List ℕ) → begins_name_of (q ++ b ∷ y) ≡ begins_name_of q
begins_name_same b h [] y = at_brace (λ (x : ℕ). if nat_lt x 128 then is_letter_of x || x == 95 else begins_wide_name_of (b ∷ y)) b h refl refl
begins_name_same b h (x ∷ q) y = ap (λ (p : Bool). if nat_lt x 128 then is_letter_of x || x == 95 else p) (wide_name_same b h x q y)

-- ---- what is skipped

some_on : (p p' : Bool) (u v w z z' : List ℕ) → p' ≡ p → u ≡ w ++ z → v ≡ z' ++ z → (if p' then u else v) ≡ (if p then w else z') ++ z
some_on true p' u v w z z' e h k = ap (λ (r : Bool). if r then u else v) e ∙ h
some_on false p' u v w z z' e h k = ap (λ (r : Bool). if r then u else v) e ∙ k

some_same : (n : ℕ) (w : Wide) (b : ℕ) → IsBrace b → (q y : List ℕ) → skip_some n w (q ++ b ∷ y) ≡ skip_some n w q ++ b ∷ y
unfolding skip_some
some_same zero w b h q y = refl
some_same (suc n) w b h [] y = ap (λ (p : Bool). if p then skip_some n w (after_char_of (b ∷ y)) else b ∷ y) (begins_wide_same w b h [] y)
some_same (suc n) w b h (x ∷ q) y =
    some_on (begins_wide_of w (x ∷ q)) (begins_wide_of w (x ∷ (q ++ b ∷ y))) (skip_some n w (after_char_of (x ∷ (q ++ b ∷ y)))) (x ∷ (q ++ b ∷ y)) (skip_some n w (after_char_of (x ∷ q))) (b ∷ y) (x ∷ q)
    (begins_wide_same w b h (x ∷ q) y)
    (ap (skip_some n w) (after_char_same b h x q y) ∙ some_same n w b h (after_char_of (x ∷ q)) y)
    refl

less : (x : ℕ) (s : List ℕ) (n : ℕ) → length (x ∷ s) ≤ suc n → length (after_char_of (x ∷ s)) ≤ n
less x s n h = omega (arith, h, length-drop (decoded (x ∷ s)).size (x ∷ s), decoded_some x s)

nothing_skipped : (n : ℕ) (w : Wide) → skip_some n w [] ≡ []
unfolding skip_some
nothing_skipped zero w = refl
nothing_skipped (suc n) w = refl

enough : (n m : ℕ) (w : Wide) (s : List ℕ) → length s ≤ n → length s ≤ m → skip_some n w s ≡ skip_some m w s
unfolding skip_some
enough n m w [] h k = nothing_skipped n w ∙ sym (nothing_skipped m w)
enough zero m w (x ∷ s) h k = absurd (omega (arith, h))
enough (suc n) zero w (x ∷ s) h k = absurd (omega (arith, k))
enough (suc n) (suc m) w (x ∷ s) h k =
    ap (λ (r : List ℕ). if begins_wide_of w (x ∷ s) then r else x ∷ s) (enough n m w (after_char_of (x ∷ s)) (less x s n h) (less x s m k))

pub skip_wide_same : (w : Wide) (b : ℕ) → IsBrace b → (q y : List ℕ) → skip_wide_of w (q ++ b ∷ y) ≡ skip_wide_of w q ++ b ∷ y
skip_wide_same w b h q y =
    some_same (length (q ++ b ∷ y)) w b h q y
    ∙ ap (λ (r : List ℕ). r ++ b ∷ y) (enough (length (q ++ b ∷ y)) (length q) w q (omega (arith, longer q y b)) (omega arith))

pub skip_name_same : (b : ℕ) → IsBrace b → (q y : List ℕ) → skip_name_of (q ++ b ∷ y) ≡ skip_name_of q ++ b ∷ y
skip_name_same b h q y =
    let r = skip_of classes.Name q in
    let e = skip_same classes.Name b (at_brace (is_in_of classes.Name) b h refl refl) q y in
    ap (λ (t : List ℕ). if begins_beyond_of t then skip_wide_of wides.Name t else t) e
    ∙ some_on (begins_beyond_of r) (begins_beyond_of (r ++ b ∷ y)) (skip_wide_of wides.Name (r ++ b ∷ y)) (r ++ b ∷ y) (skip_wide_of wides.Name r) (b ∷ y) r
    (beyond_same b h r y) (skip_wide_same wides.Name b h r y) refl

pub skip_suffix_same : (b : ℕ) → IsBrace b → (q y : List ℕ) → skip_suffix_of (q ++ b ∷ y) ≡ skip_suffix_of q ++ b ∷ y
skip_suffix_same b h q y =
    some_on (begins_name_of q) (begins_name_of (q ++ b ∷ y)) (skip_name_of (q ++ b ∷ y)) (q ++ b ∷ y) (skip_name_of q) (b ∷ y) q
    (begins_name_same b h q y) (skip_name_same b h q y) refl

-- ---- what is skipped is no longer

shorter_on : (p : Bool) (r s : List ℕ) → length r ≤ length s → length (if p then r else s) ≤ length s
shorter_on true r s h = h
shorter_on false r s h = omega arith

after_shorter : (s : List ℕ) → length (after_char_of s) ≤ length s
after_shorter s = omega (arith, length-drop (decoded s).size s)

some_shorter : (n : ℕ) (w : Wide) (s : List ℕ) → length (skip_some n w s) ≤ length s
unfolding skip_some
some_shorter zero w s = omega arith
some_shorter (suc n) w s =
    shorter_on (begins_wide_of w s) (skip_some n w (after_char_of s)) s (omega (arith, some_shorter n w (after_char_of s), after_shorter s))

pub skip_shorter : (c : Class) (s : List ℕ) → length (skip_of c s) ≤ length s
skip_shorter c [] = omega arith
skip_shorter c (x ∷ s) = shorter_on (is_in_of c x) (skip_of c s) (x ∷ s) (omega (arith, skip_shorter c s))

pub name_shorter : (s : List ℕ) → length (skip_name_of s) ≤ length s
name_shorter s =
    let r = skip_of classes.Name s in
    omega (arith, skip_shorter classes.Name s, shorter_on (begins_beyond_of r) (skip_wide_of wides.Name r) r (some_shorter (length r) wides.Name r))

pub suffix_shorter : (s : List ℕ) → length (skip_suffix_of s) ≤ length s
suffix_shorter s = shorter_on (begins_name_of s) (skip_name_of s) s (name_shorter s)
