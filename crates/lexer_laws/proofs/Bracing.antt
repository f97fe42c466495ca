-- The tokens of a text that is cut at a brace.
use Rattle.std.proofs.Common.{◌≡◌, ◌⊎◌, inl, inr, ℕ, zero, suc, ◌+◌, ◌-◌, ◌<◌, ◌≤◌, ◌^◌, Bool, true, false, not, ◌==◌, ◌||◌, if◌then◌else◌, List, [], ◌∷◌, ◌++◌, length, drop, ap, ap₂, sym, ◌∙◌, refl, arith, subst, length-drop}
use Rattle.std.specs.Prelude.{IsUtf8}
use Rattle.std.specs.Str.{IsCharBoundary}
use Rattle.std.proofs.lemmas.Bool.{cases_Bool}
use Rattle.std.proofs.lemmas.Bool.Decides.{nat_tests}
use Rattle.std.proofs.lemmas.List.{drop-append-le}
use Rattle.std.proofs.lemmas.Str.{IsCharBoundary-at_seam}
use Rattle.syntax_kind.specs.declared.syntax_kind.SyntaxKind.{SyntaxKind}
use Rattle.ras_front_end.specs.declared.edition.Edition.{Edition}
use Rattle.token_layout.specs.declared.span.Token as span
use Rattle.rust_lexer.specs.declared.shape.Shape.{Shape}
use Rattle.rust_lexer.specs.Cuts.{is_boundary_of, cut_of, front_of, back_of}
use Rattle.rust_lexer.specs.Lexing.{size_of}
use Rattle.rust_lexer.specs.Shapes.{plain_of}
use Rattle.rust_lexer.specs.Signs.{sign_kind_of}
use Rattle.rust_lexer.specs.Tokens.{token_of}
use Rattle.lexer_laws.specs.Behind.{IsBrace, check_before, before}
use Rattle.lexer_laws.specs.Cuts.{tokens_within, bytes_of}
use Rattle.lexer_laws.proofs.Tests.{longer}
use Rattle.lexer_laws.proofs.Firsts.{token_ends}
use Rattle.lexer_laws.proofs.Stepping.{Tokens, head_same, tail_same, token_at, within_more, token_some, front_length}
use Rattle.lexer_laws.proofs.Words.{is_whole, cut_inside, cut_whole, boundary_starts}

-- ---- lists

no_token : (t : span.Token) (ts : Tokens) → [] ≡ t ∷ ts → ⊥
no_token t ts h = absurd (cc)

-- ---- the first token where a brace is behind the text s

-- it ends after i bytes, which are some of s, whatever follows the brace
pub record Inside (e : Edition) (s : List ℕ) (b : ℕ) : Type 0 where
  pub token : span.Token
  pub bytes : ℕ
  pub some : 0 < bytes
  pub few : bytes ≤ length s
  pub is_long : token.len ≡ bytes
  pub is_first : (y : List ℕ) → length s + length y < 2 ^ 32 - 1 → token_at e (s ++ b ∷ y) ≡ token
  pub is_fault : (y : List ℕ) → length s + length y < 2 ^ 32 - 1 → (token_of e (s ++ b ∷ y)).check ≡ check_before (suc (length y)) (token_of e s).check
  pub is_cut : (y : List ℕ) → length s + length y < 2 ^ 32 - 1 → cut_of (token_of e (s ++ b ∷ y)).left (s ++ b ∷ y) ≡ bytes
  pub is_rest : (y : List ℕ) → length s + length y < 2 ^ 32 - 1 → back_of (token_of e (s ++ b ∷ y)).left (s ++ b ∷ y) ≡ drop bytes s ++ b ∷ y

-- it is longer than s, whatever follows the brace
pub record Beyond (e : Edition) (s : List ℕ) (b : ℕ) : Type 0 where
  pub is_longer : (y : List ℕ) → length s + length y < 2 ^ 32 - 1 → length s < (token_at e (s ++ b ∷ y)).len

long_token : (e : Edition) (s : List ℕ) (n : ℕ) → n < 2 ^ 32 - 1 → n < cut_of (token_of e s).left s → n < (token_at e s).len
long_token e s n h k = omega (arith, front_length (token_of e s).left s, h, k)

not_start : (i : ℕ) (p : Bool) → ((i == 0) || p) ≡ false → 0 < i
not_start i p h = grind (arith, nat_tests)

inside : (e : Edition) (s : List ℕ) (b : ℕ) → IsBrace b → length s < 2 ^ 32 - 1
    → ((y : List ℕ) → length s + length y < 2 ^ 32 → token_of e (s ++ b ∷ y) ≡ before (suc (length y)) (token_of e s))
    → is_whole (token_of e s).left s ≡ false → Inside e s b
inside e s b h l f w =
    let n : ℕ = (token_of e s).left in
    let i : ℕ = length s - n in
    let k : SyntaxKind = (token_of e s).kind in
    let first : span.Token = record { kind = k; len = i } in
    let left : (y : List ℕ) → length s + length y < 2 ^ 32 - 1 → (token_of e (s ++ b ∷ y)).left ≡ n + suc (length y) =
    λ y m. ap (λ (t : Shape). t.left) (f y (omega (arith, m))) in
    let cut : (y : List ℕ) → length s + length y < 2 ^ 32 - 1 → cut_of (token_of e (s ++ b ∷ y)).left (s ++ b ∷ y) ≡ i =
    λ y m. ap (λ (j : ℕ). cut_of j (s ++ b ∷ y)) (left y m) ∙ cut_inside n b h s y w in
    record {
      token = first;
      bytes = i;
      some = not_start i (not (is_boundary_of i s)) w;
      few = omega arith;
      is_long = refl;
      is_first = λ y m.
          let len : size_of (length (front_of (token_of e (s ++ b ∷ y)).left (s ++ b ∷ y))) ≡ i =
          ap size_of (front_length (token_of e (s ++ b ∷ y)).left (s ++ b ∷ y) ∙ cut y m) ∙ omega (arith, l) in
          ap₂ (λ (c : SyntaxKind) (j : ℕ). record { kind = c; len = j }) (ap (λ (t : Shape). t.kind) (f y (omega (arith, m)))) len;
      is_cut = cut;
      is_fault = λ y m. ap (λ (t : Shape). t.check) (f y (omega (arith, m)));
      is_rest = λ y m. ap (λ (j : ℕ). drop j (s ++ b ∷ y)) (cut y m) ∙ drop-append-le i s (b ∷ y) (omega arith);
    }

whole : (e : Edition) (s : List ℕ) (b : ℕ) → IsBrace b
    → ((y : List ℕ) → length s + length y < 2 ^ 32 → token_of e (s ++ b ∷ y) ≡ before (suc (length y)) (token_of e s))
    → is_whole (token_of e s).left s ≡ true → Beyond e s b
whole e s b h f w =
    let n : ℕ = (token_of e s).left in
    record {
      is_longer = λ y m.
          let cut : cut_of (token_of e (s ++ b ∷ y)).left (s ++ b ∷ y) ≡ length (s ++ b ∷ y) =
          ap (λ (t : Shape). cut_of t.left (s ++ b ∷ y)) (f y (omega (arith, m))) ∙ cut_whole n b h s y w in
          long_token e (s ++ b ∷ y) (length s) (omega (arith, m)) (omega (arith, cut, longer s y b));
    }

pub first_token : (e : Edition) (x : ℕ) (s : List ℕ) (b : ℕ) → IsBrace b → length (x ∷ s) < 2 ^ 32 - 1 → Inside e (x ∷ s) b ⊎ Beyond e (x ∷ s) b
first_token e x s b h l =
    elim (token_ends e x b s h) [
      | inl k ↦ elim (cases_Bool (is_whole (token_of e (x ∷ s)).left (x ∷ s))) [
        | inl w ↦ inr (whole e (x ∷ s) b h k.same w)
        | inr w ↦ inl (inside e (x ∷ s) b h l k.same w)
      ]
      | inr k ↦ inr (record { is_longer = λ y m. long_token e (x ∷ (s ++ b ∷ y)) (length (x ∷ s)) (omega (arith, m)) (k.over y) })
    ]

-- ---- all tokens

none_before : (e : Edition) (b : ℕ) (u v : List ℕ) (ts us : Tokens) → tokens_within e (b ∷ u) ≡ ts ++ us → bytes_of ts ≡ 0
    → tokens_within e (b ∷ v) ≡ ts ++ tokens_within e (b ∷ v)
none_before e b u v [] us h k = refl
none_before e b u v (t ∷ ts) us h k =
    let first : token_at e (b ∷ u) ≡ t = head_same (token_at e (b ∷ u)) t _ (ts ++ us) (sym (within_more e b u) ∙ h) in
    absurd (omega (arith, k, token_some e b u, ap (λ (r : span.Token). r.len) first))

one_inside : (e : Edition) (x : ℕ) (s : List ℕ) (b : ℕ) (u v : List ℕ) (t : span.Token) (ts us : Tokens) (n : ℕ)
    → Inside e (x ∷ s) b → length (x ∷ s) ≤ suc n → length (x ∷ s) + length u < 2 ^ 32 - 1 → length (x ∷ s) + length v < 2 ^ 32 - 1
    → tokens_within e (x ∷ (s ++ b ∷ u)) ≡ t ∷ (ts ++ us) → t.len + bytes_of ts ≡ length (x ∷ s)
    → ((r : List ℕ) → length r ≤ n → length r + length u < 2 ^ 32 - 1 → length r + length v < 2 ^ 32 - 1
    → tokens_within e (r ++ b ∷ u) ≡ ts ++ us → bytes_of ts ≡ length r → tokens_within e (r ++ b ∷ v) ≡ ts ++ tokens_within e (b ∷ v))
    → tokens_within e (x ∷ (s ++ b ∷ v)) ≡ t ∷ (ts ++ tokens_within e (b ∷ v))
one_inside e x s b u v t ts us n i l lu lv h k more =
    let r : List ℕ = drop i.bytes (x ∷ s) in
    let len : length r ≡ length (x ∷ s) - i.bytes = length-drop i.bytes (x ∷ s) in
    let both = sym (within_more e x (s ++ b ∷ u)) ∙ h in
    let first : i.token ≡ t = sym (i.is_first u lu) ∙ head_same _ t _ (ts ++ us) both in
    let same_len : t.len ≡ i.bytes = sym (ap (λ (z : span.Token). z.len) first) ∙ i.is_long in
    let behind : tokens_within e (r ++ b ∷ u) ≡ ts ++ us = ap (tokens_within e) (sym (i.is_rest u lu)) ∙ tail_same _ t _ (ts ++ us) both in
    let later : tokens_within e (r ++ b ∷ v) ≡ ts ++ tokens_within e (b ∷ v) =
    more r (omega (arith, len, i.some, i.few, l)) (omega (arith, len, lu)) (omega (arith, len, lv)) behind (omega (arith, len, same_len, k, i.few)) in
    within_more e x (s ++ b ∷ v)
    ∙ ap₂ (λ (z : span.Token) (zs : Tokens). z ∷ zs) (i.is_first v lv ∙ first) (ap (tokens_within e) (i.is_rest v lv) ∙ later)

one_more : (e : Edition) (x : ℕ) (s : List ℕ) (b : ℕ) (u v : List ℕ) (t : span.Token) (ts us : Tokens) (n : ℕ)
    → Inside e (x ∷ s) b ⊎ Beyond e (x ∷ s) b → length (x ∷ s) ≤ suc n → length (x ∷ s) + length u < 2 ^ 32 - 1 → length (x ∷ s) + length v < 2 ^ 32 - 1
    → tokens_within e (x ∷ (s ++ b ∷ u)) ≡ t ∷ (ts ++ us) → t.len + bytes_of ts ≡ length (x ∷ s)
    → ((r : List ℕ) → length r ≤ n → length r + length u < 2 ^ 32 - 1 → length r + length v < 2 ^ 32 - 1
    → tokens_within e (r ++ b ∷ u) ≡ ts ++ us → bytes_of ts ≡ length r → tokens_within e (r ++ b ∷ v) ≡ ts ++ tokens_within e (b ∷ v))
    → tokens_within e (x ∷ (s ++ b ∷ v)) ≡ t ∷ (ts ++ tokens_within e (b ∷ v))
one_more e x s b u v t ts us n (inl i) l lu lv h k more = one_inside e x s b u v t ts us n i l lu lv h k more
one_more e x s b u v t ts us n (inr i) l lu lv h k more =
    let first : token_at e (x ∷ (s ++ b ∷ u)) ≡ t = head_same _ t _ (ts ++ us) (sym (within_more e x (s ++ b ∷ u)) ∙ h) in
    absurd (omega (arith, k, i.is_longer u lu, ap (λ (z : span.Token). z.len) first))

cuts : (n : ℕ) (e : Edition) (b : ℕ) → IsBrace b → (s u v : List ℕ) (ts us : Tokens) → length s ≤ n → length s + length u < 2 ^ 32 - 1 → length s + length v < 2 ^ 32 - 1
    → tokens_within e (s ++ b ∷ u) ≡ ts ++ us → bytes_of ts ≡ length s → tokens_within e (s ++ b ∷ v) ≡ ts ++ tokens_within e (b ∷ v)
cuts n e b h [] u v ts us l lu lv is k = none_before e b u v ts us is k
cuts zero e b h (x ∷ s) u v ts us l lu lv is k = absurd (omega (arith, l))
cuts (suc n) e b h (x ∷ s) u v [] us l lu lv is k = absurd (omega (arith, k))
cuts (suc n) e b h (x ∷ s) u v (t ∷ ts) us l lu lv is k =
    one_more e x s b u v t ts us n (first_token e x s b h (omega (arith, lu))) l lu lv is k (λ r m mu mv now len. cuts n e b h r u v ts us m mu mv now len)

pub braces_cut : (e : Edition) (s u v : List ℕ) (b : ℕ) (ts us : Tokens) → IsBrace b → length s + length u < 2 ^ 32 - 1 → length s + length v < 2 ^ 32 - 1
    → tokens_within e (s ++ b ∷ u) ≡ ts ++ us → bytes_of ts ≡ length s → tokens_within e (s ++ b ∷ v) ≡ ts ++ tokens_within e (b ∷ v)
braces_cut e s u v b ts us h lu lv is k = cuts (length s) e b h s u v ts us (omega arith) lu lv is k

-- ---- a brace is a token

pub brace_token : (e : Edition) (b : ℕ) (y : List ℕ) → IsBrace b → token_of e (b ∷ y) ≡ plain_of (sign_kind_of b) (length y)
unfolding token_of
brace_token e b y (inl h) = subst (λ (c : ℕ). token_of e (c ∷ y) ≡ plain_of (sign_kind_of c) (length y)) (sym h) refl
brace_token e b y (inr h) = subst (λ (c : ℕ). token_of e (c ∷ y) ≡ plain_of (sign_kind_of c) (length y)) (sym h) refl

not_zero : (n : ℕ) → 0 < n → (n == 0) ≡ false
not_zero n h = grind (arith, nat_tests)

pub cut_one : (b : ℕ) (y : List ℕ) → IsUtf8 y → cut_of (length y) (b ∷ y) ≡ 1
cut_one b y u =
    let i : ℕ = length (b ∷ y) - length y in
    let one : i ≡ 1 = omega arith in
    let seam : IsCharBoundary (b ∷ y) 1 = IsCharBoundary-at_seam (b ∷ y) (b ∷ []) y refl u in
    let at : is_boundary_of i (b ∷ y) ≡ true = ap (λ (j : ℕ). is_boundary_of j (b ∷ y)) one ∙ boundary_starts 1 (b ∷ y) seam in
    ap₂ (λ (p r : Bool). if p || not r then length (b ∷ y) else i) (not_zero i (omega (arith, one))) at ∙ one

pub brace_alone : (e : Edition) (b : ℕ) (y : List ℕ) → IsBrace b → IsUtf8 y → tokens_within e (b ∷ y) ≡ record { kind = sign_kind_of b; len = 1 } ∷ tokens_within e y
brace_alone e b y h u =
    let cut : cut_of (token_of e (b ∷ y)).left (b ∷ y) ≡ 1 = ap (λ (t : Shape). cut_of t.left (b ∷ y)) (brace_token e b y h) ∙ cut_one b y u in
    let len : size_of (length (front_of (token_of e (b ∷ y)).left (b ∷ y))) ≡ 1 = ap size_of (front_length (token_of e (b ∷ y)).left (b ∷ y) ∙ cut) in
    within_more e b y
    ∙ ap₂ (λ (z : span.Token) (zs : Tokens). z ∷ zs)
    (ap₂ (λ (c : SyntaxKind) (j : ℕ). record { kind = c; len = j }) (ap (λ (t : Shape). t.kind) (brace_token e b y h)) len)
    (ap (λ (j : ℕ). tokens_within e (drop j (b ∷ y))) cut)
