-- The first token of a text ends before a brace, or goes over it, whatever follows the brace.
use Rattle.std.proofs.Common.{◌≡◌, ◌⊎◌, inl, inr, ℕ, ◌<◌, ◌≤◌, Bool, true, false, ◌==◌, ◌&&◌, ◌||◌, nat_le, if◌then◌else◌, List, [], ◌∷◌, ◌++◌, length, drop, ap, ◌∙◌, refl, arith}
use Rattle.std.proofs.lemmas.Bool.{and_parts, or_cases}
use Rattle.syntax_kind.specs.declared.syntax_kind.SyntaxKind.TheVariants.{Token}
use Rattle.syntax_kind.specs.declared.syntax_kind.token_kind.TokenKind.TheVariants as token
use Rattle.literal_escape.specs.declared.mode.Mode.TheVariants as modes
use Rattle.ras_front_end.specs.declared.edition.Edition.{Edition}
use Rattle.ras_front_end.specs.declared.edition.Edition.TheVariants.{Edition2015, Edition2018, Edition2021, Edition2024}
use Rattle.rust_lexer.specs.declared.class.Class.TheVariants as classes
use Rattle.rust_lexer.specs.declared.class.Wide.TheVariants as wides
use Rattle.rust_lexer.specs.declared.problem.Problem.TheVariants.{ReservedGuard}
use Rattle.rust_lexer.specs.declared.shape.Shape.{Shape}
use Rattle.rust_lexer.specs.Classes.{begins_of, begins_beyond_of, begins_wide_of, is_in_of, is_letter_of, is_digit_of, skip_of, skip_wide_of, after_char_of}
use Rattle.rust_lexer.specs.Names.{begins_name_of, begins_emoji_of, emoji_name_of, name_of, skip_name_of}
use Rattle.rust_lexer.specs.Numbers.{number_of}
use Rattle.rust_lexer.specs.Quotes.{character_of, character_or_lifetime_of, string_of}
use Rattle.rust_lexer.specs.RawStrings.{raw_string_of}
use Rattle.rust_lexer.specs.Shapes.{plain_of, with_of}
use Rattle.rust_lexer.specs.Signs.{sign_kind_of}
use Rattle.rust_lexer.specs.Tokens.{space_of, sign_of, slash_of, opens_raw_of, pound_of, letter_r_of, letter_b_of, letter_c_of, letter_of, beyond_of, mark_of, other_of, token_of}
use Rattle.lexer_laws.specs.Behind.{IsBrace}
use Rattle.lexer_laws.specs.Firsts.{EndsBefore, GoesOver}
use Rattle.lexer_laws.proofs.Tests.{at_brace, begins_same, not_same, and_same, or_same, and_fails, skip_same, tail_same}
use Rattle.lexer_laws.proofs.Decoding.{after_char_same}
use Rattle.lexer_laws.proofs.Skipping.{begins_wide_same, begins_emoji_same, beyond_same, begins_name_same, skip_wide_same, skip_name_same}
use Rattle.lexer_laws.proofs.Ending.{Ends, ended, choose, plain_ends, with_ends, skipped_ends}
use Rattle.lexer_laws.proofs.Digits.{number_ends}
use Rattle.lexer_laws.proofs.Literals.{string_ends, character_ends, character_or_lifetime_ends}
use Rattle.lexer_laws.proofs.RawTexts.{raw_string_ends, sign_ends, slash_ends}
use Rattle.lexer_laws.proofs.Words.{emoji_ends, name_ends}

begins : (n b : ℕ) → IsBrace b → (123 == n) ≡ false → (125 == n) ≡ false → (q y : List ℕ) → begins_of n (q ++ b ∷ y) ≡ begins_of n q
begins n b h f g q y = begins_same n b (not_same n b h f g) q y

tail : (n b : ℕ) (q y : List ℕ) → begins_of n q ≡ true → drop 1 (q ++ b ∷ y) ≡ drop 1 q ++ b ∷ y
tail n b q y e = tail_same (λ (x : ℕ). x == n) b q y e

shorter : (q text : List ℕ) → length q ≤ length text → length (drop 1 q) ≤ length text
shorter [] text h = h
shorter (x ∷ q) text h = omega (arith, h)

-- a test of a byte, and one of what follows it
then_same : (n b : ℕ) → IsBrace b → (b == n) ≡ false → (t : List ℕ → Bool) → ((q y : List ℕ) → t (q ++ b ∷ y) ≡ t q) → (q y : List ℕ)
    → (begins_of n (q ++ b ∷ y) && t (drop 1 (q ++ b ∷ y))) ≡ (begins_of n q && t (drop 1 q))
then_same n b h f t k [] y = and_fails (b == n) (t y) f
then_same n b h f t k (x ∷ q) y = and_same _ _ _ _ refl (k q y)

opens_raw_same : (b : ℕ) → IsBrace b → (q y : List ℕ) → opens_raw_of (q ++ b ∷ y) ≡ opens_raw_of q
opens_raw_same b h q y = or_same _ _ _ _ (begins 34 b h refl refl q y) (begins 35 b h refl refl q y)

-- ---- white space

space_ends : (b : ℕ) (text q : List ℕ) → IsBrace b → Ends space_of b text q
space_ends b text q h =
    let spaces : (y : List ℕ) → skip_of classes.Space (q ++ b ∷ y) ≡ skip_of classes.Space q ++ b ∷ y =
    λ y. skip_same classes.Space b (at_brace (is_in_of classes.Space) b h refl refl) q y in
    choose (λ s. begins_beyond_of (skip_of classes.Space s)) (λ s. plain_of (Token token.WHITESPACE) (length (skip_wide_of wides.Space (skip_of classes.Space s))))
    (λ s. plain_of (Token token.WHITESPACE) (length (skip_of classes.Space s))) b text q
    (λ y. ap begins_beyond_of (spaces y) ∙ beyond_same b h (skip_of classes.Space q) y)
    (λ e. plain_ends (Token token.WHITESPACE) (λ s. skip_wide_of wides.Space (skip_of classes.Space s)) b text q
    (λ y. ap (skip_wide_of wides.Space) (spaces y) ∙ skip_wide_same wides.Space b h (skip_of classes.Space q) y))
    (λ e. plain_ends (Token token.WHITESPACE) (skip_of classes.Space) b text q spaces)

-- ---- what begins with a letter

-- the rest of a text behind its first byte, and a reading of the whole
whole_ends : (f : List ℕ → Shape) (x b : ℕ) (text q : List ℕ) → Ends f b text (x ∷ q) → Ends (λ s. f (x ∷ s)) b text q
whole_ends f x b text q (inl k) = ended (λ s. f (x ∷ s)) b text q (λ y l. k.same y l)
whole_ends f x b text q (inr k) = inr (record { over = λ y. k.over y })

named : (e : Edition) (x b : ℕ) (q : List ℕ) → IsBrace b → Ends (λ s. name_of e (x ∷ s)) b (x ∷ q) q
named e x b q h = whole_ends (name_of e) x b (x ∷ q) q (name_ends e b (x ∷ q) h)

letter_r_ends : (e : Edition) (x b : ℕ) (q : List ℕ) → IsBrace b → Ends (λ s. letter_r_of e (x ∷ s) s) b (x ∷ q) q
letter_r_ends e x b q h =
    choose (λ s. begins_of 35 s && begins_name_of (drop 1 s)) (λ s. plain_of (Token token.IDENT) (length (skip_name_of (drop 1 s))))
    (λ s. if opens_raw_of s then raw_string_of (Token token.STRING) s else name_of e (x ∷ s)) b (x ∷ q) q
    (λ y. then_same 35 b h (not_same 35 b h refl refl) begins_name_of (λ r z. begins_name_same b h r z) q y)
    (λ k. plain_ends (Token token.IDENT) (λ s. skip_name_of (drop 1 s)) b (x ∷ q) q
    (λ y. ap skip_name_of (tail 35 b q y (and_parts (begins_of 35 q) (begins_name_of (drop 1 q)) k).0) ∙ skip_name_same b h (drop 1 q) y))
    (λ k. choose opens_raw_of (raw_string_of (Token token.STRING)) (λ s. name_of e (x ∷ s)) b (x ∷ q) q (λ y. opens_raw_same b h q y)
    (λ l. raw_string_ends (Token token.STRING) b (x ∷ q) q h)
    (λ l. named e x b q h))

letter_b_ends : (e : Edition) (x b : ℕ) (q : List ℕ) → IsBrace b → Ends (λ s. letter_b_of e (x ∷ s) s) b (x ∷ q) q
letter_b_ends e x b q h =
    choose (λ s. begins_of 114 s && opens_raw_of (drop 1 s)) (λ s. raw_string_of (Token token.BYTE_STRING) (drop 1 s))
    (λ s. if begins_of 34 s then string_of modes.ByteStr (drop 1 s) else (if begins_of 39 s then character_of modes.Byte (drop 1 s) else name_of e (x ∷ s)))
    b (x ∷ q) q
    (λ y. then_same 114 b h (not_same 114 b h refl refl) opens_raw_of (λ r z. opens_raw_same b h r z) q y)
    (λ k. skipped_ends (raw_string_of (Token token.BYTE_STRING)) (drop 1) b (x ∷ q) q
    (λ y. tail 114 b q y (and_parts (begins_of 114 q) (opens_raw_of (drop 1 q)) k).0) (raw_string_ends (Token token.BYTE_STRING) b (x ∷ q) (drop 1 q) h))
    (λ k. choose (begins_of 34) (λ s. string_of modes.ByteStr (drop 1 s)) (λ s. if begins_of 39 s then character_of modes.Byte (drop 1 s) else name_of e (x ∷ s))
    b (x ∷ q) q (λ y. begins 34 b h refl refl q y)
    (λ l. skipped_ends (string_of modes.ByteStr) (drop 1) b (x ∷ q) q (λ y. tail 34 b q y l)
    (string_ends modes.ByteStr b (x ∷ q) (drop 1 q) h (shorter q (x ∷ q) (omega arith))))
    (λ l. choose (begins_of 39) (λ s. character_of modes.Byte (drop 1 s)) (λ s. name_of e (x ∷ s)) b (x ∷ q) q (λ y. begins 39 b h refl refl q y)
    (λ m. skipped_ends (character_of modes.Byte) (drop 1) b (x ∷ q) q (λ y. tail 39 b q y m)
    (character_ends modes.Byte b (x ∷ q) (drop 1 q) h (shorter q (x ∷ q) (omega arith))))
    (λ m. named e x b q h)))

letter_c_ends : (e : Edition) (x b : ℕ) (q : List ℕ) → IsBrace b → Ends (λ s. letter_c_of e (x ∷ s) s) b (x ∷ q) q
letter_c_ends e x b q h =
    choose (λ s. begins_of 114 s && opens_raw_of (drop 1 s)) (λ s. raw_string_of (Token token.C_STRING) (drop 1 s))
    (λ s. if begins_of 34 s then string_of modes.CStr (drop 1 s) else name_of e (x ∷ s)) b (x ∷ q) q
    (λ y. then_same 114 b h (not_same 114 b h refl refl) opens_raw_of (λ r z. opens_raw_same b h r z) q y)
    (λ k. skipped_ends (raw_string_of (Token token.C_STRING)) (drop 1) b (x ∷ q) q
    (λ y. tail 114 b q y (and_parts (begins_of 114 q) (opens_raw_of (drop 1 q)) k).0) (raw_string_ends (Token token.C_STRING) b (x ∷ q) (drop 1 q) h))
    (λ k. choose (begins_of 34) (λ s. string_of modes.CStr (drop 1 s)) (λ s. name_of e (x ∷ s)) b (x ∷ q) q (λ y. begins 34 b h refl refl q y)
    (λ l. skipped_ends (string_of modes.CStr) (drop 1) b (x ∷ q) q (λ y. tail 34 b q y l)
    (string_ends modes.CStr b (x ∷ q) (drop 1 q) h (shorter q (x ∷ q) (omega arith))))
    (λ l. named e x b q h))

letter_ends : (e : Edition) (x b : ℕ) (q : List ℕ) → IsBrace b → Ends (λ s. letter_of e x (x ∷ s) s) b (x ∷ q) q
letter_ends e x b q h =
    choose (λ s. x == 114) (λ s. letter_r_of e (x ∷ s) s)
    (λ s. if x == 98 then letter_b_of e (x ∷ s) s else (if x == 99 then letter_c_of e (x ∷ s) s else name_of e (x ∷ s))) b (x ∷ q) q (λ y. refl)
    (λ k. letter_r_ends e x b q h)
    (λ k. choose (λ s. x == 98) (λ s. letter_b_of e (x ∷ s) s) (λ s. if x == 99 then letter_c_of e (x ∷ s) s else name_of e (x ∷ s)) b (x ∷ q) q (λ y. refl)
    (λ l. letter_b_ends e x b q h)
    (λ l. choose (λ s. x == 99) (λ s. letter_c_of e (x ∷ s) s) (λ s. name_of e (x ∷ s)) b (x ∷ q) q (λ y. refl)
    (λ m. letter_c_ends e x b q h)
    (λ m. named e x b q h)))

-- ---- what begins with another byte

-- a text that is not empty
beyond_ends : (e : Edition) (x b : ℕ) (q : List ℕ) → IsBrace b → Ends (λ s. beyond_of e (x ∷ s)) b (x ∷ q) q
beyond_ends e x b q h =
    choose (λ s. begins_wide_of wides.Space (x ∷ s)) (λ s. space_of (x ∷ s))
    (λ s. if begins_name_of (x ∷ s) then name_of e (x ∷ s)
    else (if begins_emoji_of (x ∷ s) then emoji_name_of (after_char_of (x ∷ s)) else plain_of (Token token.ERROR) (length (after_char_of (x ∷ s)))))
    b (x ∷ q) q (λ y. begins_wide_same wides.Space b h (x ∷ q) y)
    (λ k. whole_ends space_of x b (x ∷ q) q (space_ends b (x ∷ q) (x ∷ q) h))
    (λ k. choose (λ s. begins_name_of (x ∷ s)) (λ s. name_of e (x ∷ s))
    (λ s. if begins_emoji_of (x ∷ s) then emoji_name_of (after_char_of (x ∷ s)) else plain_of (Token token.ERROR) (length (after_char_of (x ∷ s))))
    b (x ∷ q) q (λ y. begins_name_same b h (x ∷ q) y)
    (λ l. named e x b q h)
    (λ l. choose (λ s. begins_emoji_of (x ∷ s)) (λ s. emoji_name_of (after_char_of (x ∷ s))) (λ s. plain_of (Token token.ERROR) (length (after_char_of (x ∷ s))))
    b (x ∷ q) q (λ y. begins_emoji_same b h (x ∷ q) y)
    (λ m. skipped_ends emoji_name_of (λ s. after_char_of (x ∷ s)) b (x ∷ q) q (λ y. after_char_same b h x q y) (emoji_ends b (x ∷ q) (after_char_of (x ∷ q)) h))
    (λ m. plain_ends (Token token.ERROR) (λ s. after_char_of (x ∷ s)) b (x ∷ q) q (λ y. after_char_same b h x q y))))

sign_ended : (x b : ℕ) (text q : List ℕ) → Ends (sign_of x) b text q
sign_ended x b text q = sign_ends (sign_kind_of x) b text q

guard_ends : (b : ℕ) (text q : List ℕ) → IsBrace b → Ends (λ s. if opens_raw_of s then with_of (Token token.ERROR) (length (drop 1 s)) ReservedGuard else sign_of 35 s) b text q
guard_ends b text q h =
    choose opens_raw_of (λ s. with_of (Token token.ERROR) (length (drop 1 s)) ReservedGuard) (sign_of 35) b text q (λ y. opens_raw_same b h q y)
    (λ k. with_ends (Token token.ERROR) ReservedGuard (drop 1) b text q
    (λ y. elim (or_cases (begins_of 34 q) (begins_of 35 q) k) [ inl l ↦ tail 34 b q y l | inr l ↦ tail 35 b q y l ]))
    (λ k. sign_ended 35 b text q)

pound_ends : (e : Edition) (b : ℕ) (text q : List ℕ) → IsBrace b → Ends (pound_of e) b text q
pound_ends Edition2024 b text q h = guard_ends b text q h
pound_ends Edition2015 b text q h = sign_ended 35 b text q
pound_ends Edition2018 b text q h = sign_ended 35 b text q
pound_ends Edition2021 b text q h = sign_ended 35 b text q

mark_ends : (e : Edition) (x b : ℕ) (text q : List ℕ) → IsBrace b → length q ≤ length text → Ends (mark_of e x) b text q
mark_ends e x b text q h n =
    choose (λ s. x == 47) slash_of
    (λ s. if x == 34 then string_of modes.Str s else (if x == 39 then character_or_lifetime_of s else (if x == 35 then pound_of e s else sign_of x s)))
    b text q (λ y. refl)
    (λ k. slash_ends b text q h)
    (λ k. choose (λ s. x == 34) (string_of modes.Str) (λ s. if x == 39 then character_or_lifetime_of s else (if x == 35 then pound_of e s else sign_of x s))
    b text q (λ y. refl)
    (λ l. string_ends modes.Str b text q h n)
    (λ l. choose (λ s. x == 39) character_or_lifetime_of (λ s. if x == 35 then pound_of e s else sign_of x s) b text q (λ y. refl)
    (λ m. character_or_lifetime_ends b text q h n)
    (λ m. choose (λ s. x == 35) (pound_of e) (sign_of x) b text q (λ y. refl)
    (λ o. pound_ends e b text q h)
    (λ o. sign_ended x b text q))))

other_ends : (e : Edition) (x b : ℕ) (q : List ℕ) → IsBrace b → Ends (λ s. other_of e x (x ∷ s) s) b (x ∷ q) q
other_ends e x b q h =
    choose (λ s. is_digit_of x) (number_of x) (λ s. if nat_le 128 x then beyond_of e (x ∷ s) else mark_of e x s) b (x ∷ q) q (λ y. refl)
    (λ k. number_ends x b (x ∷ q) q h)
    (λ k. choose (λ s. nat_le 128 x) (λ s. beyond_of e (x ∷ s)) (mark_of e x) b (x ∷ q) q (λ y. refl)
    (λ l. beyond_ends e x b q h)
    (λ l. mark_ends e x b (x ∷ q) q h (omega arith)))

first_ends : (e : Edition) (x b : ℕ) (q : List ℕ) → IsBrace b → Ends (λ s. token_of e (x ∷ s)) b (x ∷ q) q
unfolding token_of
first_ends e x b q h =
    choose (λ s. is_in_of classes.Space x) (λ s. space_of (x ∷ s))
    (λ s. if is_letter_of x || x == 95 then letter_of e x (x ∷ s) s else other_of e x (x ∷ s) s) b (x ∷ q) q (λ y. refl)
    (λ k. whole_ends space_of x b (x ∷ q) q (space_ends b (x ∷ q) (x ∷ q) h))
    (λ k. choose (λ s. is_letter_of x || x == 95) (λ s. letter_of e x (x ∷ s) s) (λ s. other_of e x (x ∷ s) s) b (x ∷ q) q (λ y. refl)
    (λ l. letter_ends e x b q h)
    (λ l. other_ends e x b q h))

pub token_ends : (e : Edition) (x b : ℕ) (q : List ℕ) → IsBrace b → Ends (token_of e) b (x ∷ q) (x ∷ q)
token_ends e x b q h =
    elim (first_ends e x b q h) [
      | inl k ↦ ended (token_of e) b (x ∷ q) (x ∷ q) (λ y l. k.same y l)
      | inr k ↦ inr (record { over = λ y. k.over y })
    ]

pub first_tokens_end : (e : Edition) (b : ℕ) (s : List ℕ) → IsBrace b → 0 < length s → EndsBefore e b s ⊎ GoesOver e b s
first_tokens_end e b [] h l = absurd (omega (arith, l))
first_tokens_end e b (x ∷ s) h l = elim (token_ends e x b s h) [ inl k ↦ inl (λ y m. k.same y m) | inr k ↦ inr (λ y. k.over y) ]
