-- Names at a brace.
use Rattle.std.proofs.Common.{◌≡◌, ◌⊎◌, inl, inr, ℕ, suc, ◌+◌, ◌-◌, ◌<◌, ◌≤◌, Bool, true, false, not, ◌==◌, ◌&&◌, ◌||◌, nat_lt, nat_le, if◌then◌else◌, List, [], ◌∷◌, ◌++◌, length, take, slice_index, ap, ap₂, sym, ◌∙◌, refl, arith}
use Rattle.std.specs.Prelude.{bytes_eq, codes}
use Rattle.std.specs.Str.{IsCharBoundary}
use Rattle.std.proofs.lemmas.Bool.{cases_eq, cases_Bool, eq-eqb}
use Rattle.std.proofs.lemmas.Bool.Decides.{nat_tests}
use Rattle.std.proofs.lemmas.List.{take-append-le, get_or_append_left}
use Rattle.syntax_kind.specs.declared.syntax_kind.SyntaxKind.TheVariants.{Token}
use Rattle.syntax_kind.specs.declared.syntax_kind.token_kind.TokenKind.TheVariants as token
use Rattle.ras_front_end.specs.declared.edition.Edition.{Edition}
use Rattle.rust_lexer.specs.declared.class.Wide.TheVariants as wides
use Rattle.rust_lexer.specs.declared.problem.Problem.TheVariants.{InvalidIdent}
use Rattle.rust_lexer.specs.declared.shape.Shape.{Shape}
use Rattle.rust_lexer.specs.declared.shape.Check.TheVariants.{Prefix}
use Rattle.rust_lexer.specs.Classes.{skip_wide_of}
use Rattle.rust_lexer.specs.Cuts.{is_boundary_of, cut_of, front_of}
use Rattle.rust_lexer.specs.Names.{emoji_name_of, word_kind_of, prefix_of, is_literal_mark_of, begins_wide_emoji_of, skip_name_of, name_of}
use Rattle.rust_lexer.specs.Shapes.{plain_of}
use Rattle.lexer_laws.specs.Behind.{IsBrace, before}
use Rattle.lexer_laws.proofs.Tests.{holds_at_brace, longer}
use Rattle.lexer_laws.proofs.Skipping.{skip_wide_same, skip_name_same, literal_mark_same, wide_emoji_same}
use Rattle.lexer_laws.proofs.Ending.{Ends, ended, choose, with_ends, skipped_ends}

-- ---- where the text is cut

-- the text is taken as a whole, since it cannot be cut before its last n bytes
abbrev pub is_whole : ℕ → List ℕ → Bool
is_whole n s = ((length s - n) == 0) || not (is_boundary_of (length s - n) s)

below : (i n : ℕ) → i < n → nat_lt i n ≡ true
below i n h = grind (arith, nat_tests)

differ : (i n : ℕ) → i < n → (n == i) ≡ false
differ i n h = grind (arith, nat_tests)

-- the byte at i, and whether it is there, decide
pub boundary_at : (i n c : ℕ) → i < n → ((n == i) || (nat_lt i n && (nat_lt c 128 || nat_le 192 c))) ≡ (nat_lt c 128 || nat_le 192 c)
boundary_at i n c h =
    ap₂ (λ (p r : Bool). p || (r && (nat_lt c 128 || nat_le 192 c))) (differ i n h) (below i n h)

inner_boundary : (i b : ℕ) (q y : List ℕ) → i < length q → is_boundary_of i (q ++ b ∷ y) ≡ is_boundary_of i q
inner_boundary i b q y h =
    boundary_at i (length (q ++ b ∷ y)) (slice_index (q ++ b ∷ y) i) (omega (arith, h, longer q y b))
    ∙ ap (λ (c : ℕ). nat_lt c 128 || nat_le 192 c) (get_or_append_left q (b ∷ y) 0 i h)
    ∙ sym (boundary_at i (length q) (slice_index q i) h)

pub byte_behind : (q y : List ℕ) (b : ℕ) → slice_index (q ++ b ∷ y) (length q) ≡ b
byte_behind [] y b = refl
byte_behind (x ∷ q) y b = byte_behind q y b

or_true : (p r : Bool) → p ≡ true → (p || r) ≡ true
or_true p r h = ap (λ (x : Bool). x || r) h

last_boundary : (i b : ℕ) → IsBrace b → (q y : List ℕ) → i ≡ length q → is_boundary_of i (q ++ b ∷ y) ≡ is_boundary_of i q
last_boundary i b h q y e =
    boundary_at i (length (q ++ b ∷ y)) (slice_index (q ++ b ∷ y) i) (omega (arith, e, longer q y b))
    ∙ ap (λ (j : ℕ). nat_lt (slice_index (q ++ b ∷ y) j) 128 || nat_le 192 (slice_index (q ++ b ∷ y) j)) e
    ∙ ap (λ (c : ℕ). nat_lt c 128 || nat_le 192 c) (byte_behind q y b)
    ∙ or_true (nat_lt b 128) (nat_le 192 b) (holds_at_brace (λ (c : ℕ). nat_lt c 128) b h refl refl)
    ∙ sym (or_true (length q == i) (nat_lt i (length q) && (nat_lt (slice_index q i) 128 || nat_le 192 (slice_index q i))) (eq-eqb (length q) i (sym e)))

in_or_at : (i n : ℕ) → i ≤ n → (i < n) ⊎ (i ≡ n)
in_or_at i n h = elim (cases_eq i n) [ inl same ↦ inr same | inr other ↦ inl (omega (arith, h, other)) ]

pub boundary_same : (i b : ℕ) → IsBrace b → (q y : List ℕ) → i ≤ length q → is_boundary_of i (q ++ b ∷ y) ≡ is_boundary_of i q
boundary_same i b h q y l = elim (in_or_at i (length q) l) [ inl k ↦ inner_boundary i b q y k | inr k ↦ last_boundary i b h q y k ]

-- n bytes before the brace, and what follows
pub same_place : (n b : ℕ) (q y : List ℕ) → length (q ++ b ∷ y) - (n + suc (length y)) ≡ length q - n
same_place n b q y = omega (arith, longer q y b)

pub whole_same : (n b : ℕ) → IsBrace b → (q y : List ℕ) → is_whole (n + suc (length y)) (q ++ b ∷ y) ≡ is_whole n q
whole_same n b h q y =
    let i : ℕ = length q - n in
    ap (λ (j : ℕ). (j == 0) || not (is_boundary_of j (q ++ b ∷ y))) (same_place n b q y)
    ∙ ap (λ (p : Bool). (i == 0) || not p) (boundary_same i b h q y (omega arith))

-- a text that is cut before the brace
pub cut_inside : (n b : ℕ) → IsBrace b → (q y : List ℕ) → is_whole n q ≡ false → cut_of (n + suc (length y)) (q ++ b ∷ y) ≡ length q - n
cut_inside n b h q y e =
    ap (λ (p : Bool). if p then length (q ++ b ∷ y) else length (q ++ b ∷ y) - (n + suc (length y))) (whole_same n b h q y ∙ e)
    ∙ same_place n b q y

pub cut_whole : (n b : ℕ) → IsBrace b → (q y : List ℕ) → is_whole n q ≡ true → cut_of (n + suc (length y)) (q ++ b ∷ y) ≡ length (q ++ b ∷ y)
cut_whole n b h q y e = ap (λ (p : Bool). if p then length (q ++ b ∷ y) else length (q ++ b ∷ y) - (n + suc (length y))) (whole_same n b h q y ∙ e)

cut_short : (n : ℕ) (q : List ℕ) → is_whole n q ≡ false → cut_of n q ≡ length q - n
cut_short n q e = ap (λ (p : Bool). if p then length q else length q - n) e

pub front_same : (n b : ℕ) → IsBrace b → (q y : List ℕ) → is_whole n q ≡ false → front_of (n + suc (length y)) (q ++ b ∷ y) ≡ front_of n q
front_same n b h q y e =
    let i : ℕ = length q - n in
    ap (λ (j : ℕ). take j (q ++ b ∷ y)) (cut_inside n b h q y e)
    ∙ take-append-le i q (b ∷ y) (omega arith)
    ∙ sym (ap (λ (j : ℕ). take j q) (cut_short n q e))

-- ---- tokens made of their text

-- what is made of the text up to n bytes before its end
made_on : (f : List ℕ → ℕ → Shape) (g : List ℕ → List ℕ) (b : ℕ) (q : List ℕ) → IsBrace b → ((y : List ℕ) → g (q ++ b ∷ y) ≡ g q ++ b ∷ y)
    → ((w : List ℕ) (n k : ℕ) → f w (n + k) ≡ before k (f w n)) → ((w : List ℕ) (n : ℕ) → (f w n).left ≡ n)
    → (is_whole (length (g q)) q ≡ true) ⊎ (is_whole (length (g q)) q ≡ false) → Ends (λ s. f (front_of (length (g s)) s) (length (g s))) b q q
made_on f g b q h k m r (inl e) =
    inr (record {
      over = λ y.
          let n : ℕ = length (g q) in
          let len : length (g (q ++ b ∷ y)) ≡ n + suc (length y) = ap length (k y) ∙ longer (g q) y b in
          let left : (f (front_of (length (g (q ++ b ∷ y))) (q ++ b ∷ y)) (length (g (q ++ b ∷ y)))).left ≡ n + suc (length y) =
          r (front_of (length (g (q ++ b ∷ y))) (q ++ b ∷ y)) (length (g (q ++ b ∷ y))) ∙ len in
          let cut : cut_of (f (front_of (length (g (q ++ b ∷ y))) (q ++ b ∷ y)) (length (g (q ++ b ∷ y)))).left (q ++ b ∷ y) ≡ length (q ++ b ∷ y) =
          ap (λ (j : ℕ). cut_of j (q ++ b ∷ y)) left ∙ cut_whole n b h q y e in
          omega (arith, cut, longer q y b);
    })
made_on f g b q h k m r (inr e) =
    ended _ b q q (λ y l.
    let n : ℕ = length (g q) in
    let len : length (g (q ++ b ∷ y)) ≡ n + suc (length y) = ap length (k y) ∙ longer (g q) y b in
    ap (λ (j : ℕ). f (front_of j (q ++ b ∷ y)) j) len
    ∙ ap (λ (w : List ℕ). f w (n + suc (length y))) (front_same n b h q y e)
    ∙ m (front_of n q) n (suc (length y)))

made_ends : (f : List ℕ → ℕ → Shape) (g : List ℕ → List ℕ) (b : ℕ) (q : List ℕ) → IsBrace b → ((y : List ℕ) → g (q ++ b ∷ y) ≡ g q ++ b ∷ y)
    → ((w : List ℕ) (n k : ℕ) → f w (n + k) ≡ before k (f w n)) → ((w : List ℕ) (n : ℕ) → (f w n).left ≡ n)
    → Ends (λ s. f (front_of (length (g s)) s) (length (g s))) b q q
made_ends f g b q h k m r = made_on f g b q h k m r (cases_Bool (is_whole (length (g q)) q))

prefix_on : (p : Bool) (n k : ℕ)
    → (if p then plain_of (Token token.IDENT) (n + k) else record { kind = Token token.IDENT; left = n + k; check = Prefix })
    ≡ before k (if p then plain_of (Token token.IDENT) n else record { kind = Token token.IDENT; left = n; check = Prefix })
prefix_on true n k = refl
prefix_on false n k = refl

prefix_left : (p : Bool) (n : ℕ) → (if p then plain_of (Token token.IDENT) n else record { kind = Token token.IDENT; left = n; check = Prefix }).left ≡ n
prefix_left true n = refl
prefix_left false n = refl

pub emoji_ends : (b : ℕ) (text q : List ℕ) → IsBrace b → Ends emoji_name_of b text q
emoji_ends b text q h = with_ends (Token token.IDENT) InvalidIdent (skip_wide_of wides.Emoji) b text q (λ y. skip_wide_same wides.Emoji b h q y)

pub name_ends : (e : Edition) (b : ℕ) (q : List ℕ) → IsBrace b → Ends (name_of e) b q q
name_ends e b q h =
    choose (λ s. is_literal_mark_of (skip_name_of s)) (λ s. prefix_of (front_of (length (skip_name_of s)) s) (length (skip_name_of s)))
    (λ s. if begins_wide_emoji_of (skip_name_of s) then emoji_name_of (skip_name_of s)
    else plain_of (word_kind_of e (front_of (length (skip_name_of s)) s)) (length (skip_name_of s))) b q q
    (λ y. ap is_literal_mark_of (skip_name_same b h q y) ∙ literal_mark_same b h (skip_name_of q) y)
    (λ k. made_ends prefix_of skip_name_of b q h (λ y. skip_name_same b h q y)
    (λ w n m. prefix_on (bytes_eq w (codes "builtin")) n m) (λ w n. prefix_left (bytes_eq w (codes "builtin")) n))
    (λ k. choose (λ s. begins_wide_emoji_of (skip_name_of s)) (λ s. emoji_name_of (skip_name_of s))
    (λ s. plain_of (word_kind_of e (front_of (length (skip_name_of s)) s)) (length (skip_name_of s))) b q q
    (λ y. ap begins_wide_emoji_of (skip_name_same b h q y) ∙ wide_emoji_same b h (skip_name_of q) y)
    (λ l. skipped_ends emoji_name_of skip_name_of b q q (λ y. skip_name_same b h q y) (emoji_ends b q (skip_name_of q) h))
    (λ l. made_ends (λ w n. plain_of (word_kind_of e w) n) skip_name_of b q h (λ y. skip_name_same b h q y) (λ w n m. refl) (λ w n. refl)))

either_way : (p r : Bool) → r ≡ true → (p || r) ≡ true
either_way true r h = refl
either_way false r h = h

at_most : (n c : ℕ) → n ≤ c → nat_le n c ≡ true
at_most n c h = grind (arith, nat_tests)

reaches : (c n : ℕ) → nat_lt c n ≡ false → n ≤ c
reaches c n h = grind (arith, nat_tests)

byte_starts : (c : ℕ) → (128 ≤ c → 192 ≤ c) → (nat_lt c 128 || nat_le 192 c) ≡ true
byte_starts c h = elim (cases_Bool (nat_lt c 128)) [
  | inl k ↦ or_true (nat_lt c 128) (nat_le 192 c) k
  | inr k ↦ either_way (nat_lt c 128) (nat_le 192 c) (at_most 192 c (h (reaches c 128 k)))
]

starts_on : (i : ℕ) (s : List ℕ) → IsCharBoundary s i → (i < length s) ⊎ (i ≡ length s) → is_boundary_of i s ≡ true
starts_on i s h (inl k) = boundary_at i (length s) (slice_index s i) k ∙ byte_starts (slice_index s i) (h.1 k)
starts_on i s h (inr k) = or_true (length s == i) (nat_lt i (length s) && (nat_lt (slice_index s i) 128 || nat_le 192 (slice_index s i))) (eq-eqb (length s) i (sym k))

-- a character begins there
pub boundary_starts : (i : ℕ) (s : List ℕ) → IsCharBoundary s i → is_boundary_of i s ≡ true
boundary_starts i s h = starts_on i s h (in_or_at i (length s) h.0)
