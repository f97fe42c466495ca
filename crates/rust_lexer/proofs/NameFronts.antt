-- The laws of names.
use Rattle.std.proofs.Common.{◌≡◌, ℕ, zero, suc, ◌<◌, ◌≤◌, Bool, true, false, ◌==◌, nat_lt, if◌then◌else◌, Option, None, Some, List, [], ◌∷◌, length, sym, ◌∙◌, refl, arith}
use Rattle.std.specs.Prelude.{cond, slice_index}
use Rattle.std.proofs.lemmas.List.{length-drop}
use Rattle.std.proofs.lemmas.Bool.Decides.{nat_tests}
use Rattle.bstr.specs.Utf8.{Decoded, decoded, decoded_by, second, continues}
use Rattle.rust_lexer.specs.declared.class.Class.TheVariants as classes
use Rattle.rust_lexer.specs.declared.class.Wide.{Wide}
use Rattle.rust_lexer.specs.declared.class.Wide.TheVariants as wides
use Rattle.rust_lexer.specs.Classes.{is_wide_of, is_name_continue_of, test_on, begins_beyond_of, begins_wide_of, skip_of, skip_some, skip_wide_of, after_char_of}
use Rattle.rust_lexer.specs.NameLaws.{FollowsCharacters, ends, goes_on, NameRead}
use Rattle.rust_lexer.specs.Names.{skip_name_of}
use Rattle.rust_lexer.proofs.Fronts.{longest}

either_some : (b : Bool) (x y : Decoded) → 0 < x.size → 0 < y.size → 0 < (cond b x y).size
either_some true x y h k = h
either_some false x y h k = k

not_first : (b : Bool) (x y : Decoded) → b ≡ false → 0 < y.size → 0 < (cond b x y).size
not_first true x y h k = absurd (cc)
not_first false x y h k = k

sized : (n b c d e : ℕ) → (n == 0) ≡ false → 0 < (decoded_by n b c d e).size
sized n b c d e h =
    let one : 0 < 1 = omega arith in
    let two : 0 < 2 = omega arith in
    let three : 0 < 3 = omega arith in
    let four : 0 < 4 = omega arith in
    not_first (n == 0) _ _ h
    (either_some (nat_lt b 0x80) _ _ one
    (either_some (nat_lt b 0xC2) _ _ one
    (either_some (nat_lt 0xF4 b) _ _ one
    (either_some (nat_lt n 2) _ _ one
    (either_some (second b c) _ _
    (either_some (nat_lt b 0xE0) _ _ two
    (either_some (nat_lt n 3) _ _ two
    (either_some (continues d) _ _
    (either_some (nat_lt b 0xF0) _ _ three
    (either_some (nat_lt n 4) _ _ three
    (either_some (continues e) _ _ four three)))
    two)))
    one)))))

is_some : (n : ℕ) → (suc n == 0) ≡ false
is_some n = grind (arith, nat_tests)

pub decoded_some : (b : ℕ) (s : List ℕ) → 0 < (decoded (b ∷ s)).size
decoded_some b s =
    sized (length (b ∷ s)) (slice_index (b ∷ s) 0) (slice_index (b ∷ s) 1) (slice_index (b ∷ s) 2) (slice_index (b ∷ s) 3) (is_some (length s))

some_char : (test : ℕ → Bool) (s : List ℕ) (o : Option ℕ) → test_on test o ≡ true → (c : ℕ) × (o ≡ Some c) × (test c ≡ true)
some_char test s None h = absurd (cc)
some_char test s (Some c) h = (c, refl, h)

none_decoded : (test : ℕ → Bool) → test_on test (decoded []).char ≡ false
none_decoded test = refl

less : (b : ℕ) (s : List ℕ) (n : ℕ) → length (b ∷ s) ≤ suc n → length (after_char_of (b ∷ s)) ≤ n
less b s n h = omega (arith, h, length-drop (decoded (b ∷ s)).size (b ∷ s), decoded_some b s)

mutual_on : (p : Bool) (n : ℕ) (w : Wide) (s : List ℕ) → begins_wide_of w s ≡ p → ((c : ℕ) → FollowsCharacters (is_wide_of w) (after_char_of s) (skip_some n w (after_char_of s)))
    → FollowsCharacters (is_wide_of w) s (if p then skip_some n w (after_char_of s) else s)
mutual_on false n w s h k = ends (is_wide_of w) s h
mutual_on true n w s h k = let c = some_char (is_wide_of w) s (decoded s).char h in goes_on (is_wide_of w) s (skip_some n w (after_char_of s)) c.0 c.1 c.2 (k 0)

longest_some : (n : ℕ) (w : Wide) (s : List ℕ) → length s ≤ n → FollowsCharacters (is_wide_of w) s (skip_some n w s)
unfolding skip_some
longest_some zero w [] h = ends (is_wide_of w) [] (none_decoded (is_wide_of w))
longest_some (suc n) w [] h = mutual_on false n w [] (none_decoded (is_wide_of w)) (λ c. longest_some n w [] (omega (arith, h)))
longest_some zero w (b ∷ s) h = absurd (omega (arith, h))
longest_some (suc n) w (b ∷ s) h = mutual_on (begins_wide_of w (b ∷ s)) n w (b ∷ s) refl (λ c. longest_some n w (after_char_of (b ∷ s)) (less b s n h))

pub longest_characters : (w : Wide) (s : List ℕ) → FollowsCharacters (is_wide_of w) s (skip_wide_of w s)
longest_characters w s = longest_some (length s) w s (omega arith)

wide_on : (p : Bool) (m : List ℕ) → begins_beyond_of m ≡ p
    → (begins_beyond_of m ≡ true → FollowsCharacters is_name_continue_of m (if p then skip_wide_of wides.Name m else m)) × (begins_beyond_of m ≡ false → (if p then skip_wide_of wides.Name m else m) ≡ m)
wide_on true m h = ((λ k. longest_characters wides.Name m), (λ k. absurd (let no : true ≡ false = sym h ∙ k in cc)))
wide_on false m h = ((λ k. absurd (let no : true ≡ false = sym k ∙ h in cc)), (λ k. refl))

pub names_read : (s : List ℕ) → NameRead s (skip_name_of s)
names_read s =
    let m = skip_of classes.Name s in
    let both = wide_on (begins_beyond_of m) m refl in
    record { middle = m; in_ascii = longest classes.Name s; past_ascii = both.0; all_ascii = both.1 }
