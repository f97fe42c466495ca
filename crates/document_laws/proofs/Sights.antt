-- What the grammar's machine sees of tokens of Rust are sights of these tokens.
use Rattle.std.proofs.Common.{◌≡◌, inl, inr, ℕ, zero, suc, ◌+◌, ◌<◌, Bool, true, false, ◌==◌, ◌||◌, nat_lt, if◌then◌else◌, List, [], ◌∷◌, ◌++◌, length, drop, take, ap, sym, ◌∙◌, refl, arith, subst}
use Rattle.std.specs.Prelude.{Some, None, slice_get}
use Rattle.std.proofs.lemmas.Bool.{cases_Bool}
use Rattle.std.proofs.lemmas.Bool.Decides.{nat_tests}
use Rattle.syntax_kind.specs.declared.syntax_kind.SyntaxKind.{SyntaxKind}
use Rattle.syntax_kind.specs.declared.syntax_kind.SyntaxKind.TheVariants.{Token as TokenKind}
use Rattle.syntax_kind.specs.declared.syntax_kind.token_kind.TokenKind.TheVariants as token
use Rattle.syntax_kind.specs.Kinds.{is_trivia}
use Rattle.ras_front_end.specs.declared.edition.Edition.{Edition}
use Rattle.token_layout.specs.declared.span.Token.{Token}
use Rattle.grammar_machine.specs.declared.grammar.Sight.{Sight}
use Rattle.event_layout.specs.Finding.{JoinsNext, StandTogether}
use Rattle.event_layout.specs.Taking.{seen_tokens}
use Rattle.event_layout.specs.Trivia.{lead}
use Rattle.event_layout.proofs.Amid.{lead_more}
use Rattle.lexer_laws.proofs.Sighting.{no_left}
use Rattle.rust_grammar.specs.Seeing.{number_of, number_on, joined_of, finer_of, sight_of, sights_of}
use Rattle.document_laws.specs.Sights.{AreKnown, SightsAreOfTokens}

-- ---- kinds

trivia_number : (k : SyntaxKind) → is_trivia k ≡ true → number_of k ≡ 0
trivia_number (TokenKind token.WHITESPACE) h = refl
trivia_number (TokenKind token.COMMENT) h = refl
trivia_number _ h = absurd (cc)

not_trivia : (k : SyntaxKind) → 0 < number_of k → is_trivia k ≡ false
not_trivia k h = elim (cases_Bool (is_trivia k)) [ inl e ↦ absurd (omega (arith, h, trivia_number k e)) | inr e ↦ e ]

-- ---- what is joined

zero_on : (p r : Bool) (n : ℕ) → p ≡ true → (if p || r then 0 else n) ≡ 0
zero_on p r n h = ap (λ (x : Bool). if x || r then 0 else n) h

no_sign : (left sign : ℕ) → nat_lt sign 24 ≡ true → joined_of left sign ≡ 0
no_sign left sign h = zero_on (nat_lt sign 24) _ _ h

is_some : (sign : ℕ) → nat_lt sign 24 ≡ false → 0 < sign
is_some sign h = grind (arith, nat_tests, h)

-- only a sign is joined with what is before it
sign_joins : (left sign : ℕ) → 0 < joined_of left sign → 0 < sign
sign_joins left sign h = elim (cases_Bool (nat_lt sign 24)) [ inl e ↦ absurd (omega (arith, h, no_sign left sign e)) | inr e ↦ is_some sign e ]

-- ---- tokens that are seen

seen_keep : (t : Token) (ts : List Token) → is_trivia t.kind ≡ false → seen_tokens (t ∷ ts) ≡ t ∷ seen_tokens ts
seen_keep t ts h = ap (λ (b : Bool). if b then seen_tokens ts else t ∷ seen_tokens ts) h

seen_skip : (t : Token) (ts : List Token) → is_trivia t.kind ≡ true → seen_tokens (t ∷ ts) ≡ seen_tokens ts
seen_skip t ts h = ap (λ (b : Bool). if b then seen_tokens ts else t ∷ seen_tokens ts) h

two_stand : (t : Token) (ts : List Token) → is_trivia t.kind ≡ false → 0 < number_on (slice_get ts 0) → StandTogether 2 (t ∷ ts)
two_stand t [] h k = absurd (omega (arith, k))
two_stand t (u ∷ ts) h k = (omega arith, seen_keep t (u ∷ []) h ∙ ap (λ (us : List Token). t ∷ us) (seen_keep u [] (not_trivia u.kind k)))

three_stand : (t : Token) (ts : List Token) → is_trivia t.kind ≡ false → 0 < number_on (slice_get ts 0) → 0 < number_on (slice_get ts 1) → StandTogether 3 (t ∷ ts)
three_stand t [] h k j = absurd (omega (arith, k))
three_stand t (u ∷ []) h k j = absurd (omega (arith, j))
three_stand t (u ∷ v ∷ ts) h k j =
    (omega arith, seen_keep t (u ∷ v ∷ []) h ∙ ap (λ (us : List Token). t ∷ us) (seen_keep u (v ∷ []) (not_trivia u.kind k) ∙ ap (λ (us : List Token). u ∷ us) (seen_keep v [] (not_trivia v.kind j))))

second_joins : (one second third : ℕ) → 0 < joined_of (joined_of one second) third → 0 < second
second_joins one second third h =
    elim (cases_Bool (nat_lt second 24)) [
      | inl e ↦ absurd (let none : joined_of (joined_of one second) third ≡ 0 = ap (λ (j : ℕ). joined_of j third) (no_sign one second e) ∙ no_left third in omega (arith, h, none))
      | inr e ↦ is_some second e
    ]

sight_joins : (e : Edition) (w : List ℕ) (t : Token) (ts : List Token) → is_trivia t.kind ≡ false
    → JoinsNext (sight_of e w (number_of t.kind) (number_on (slice_get ts 0)) (number_on (slice_get ts 1))) (t ∷ ts)
sight_joins e w t ts h =
    let one : ℕ = number_of t.kind in
    let second : ℕ = number_on (slice_get ts 0) in
    let third : ℕ = number_on (slice_get ts 1) in
    record {
      two = λ k. two_stand t ts h (sign_joins one second k);
      three = λ k. three_stand t ts h (second_joins one second third k) (sign_joins (joined_of one second) third k);
    }

-- ---- sights

abbrev KnownAll : List Token → Type 0
KnownAll [] = Unit {0}
KnownAll (t ∷ ts) = (is_trivia t.kind ≡ false → 0 < number_of t.kind) × KnownAll ts

known_all : (ts : List Token) → AreKnown ts → KnownAll ts
known_all [] h = tt
known_all (t ∷ ts) h = (h 0 t refl, known_all ts (λ i u e. h (suc i) u e))

not_zero : (n : ℕ) → 0 < n → (n == 0) ≡ false
not_zero n h = grind (arith, nat_tests)

zero_is : (n : ℕ) → n ≡ 0 → (n == 0) ≡ true
zero_is n h = grind (arith, nat_tests)

sight_here : (e : Edition) (text : List ℕ) (t : Token) (ts : List Token) → 0 < number_of t.kind
    → sights_of e text (t ∷ ts) ≡ sight_of e (take t.len text) (number_of t.kind) (number_on (slice_get ts 0)) (number_on (slice_get ts 1)) ∷ sights_of e (drop t.len text) ts
sight_here e text t ts h =
    ap (λ (b : Bool). (if b then [] else sight_of e (take t.len text) (number_of t.kind) (number_on (slice_get ts 0)) (number_on (slice_get ts 1)) ∷ []) ++ sights_of e (drop t.len text) ts)
    (not_zero (number_of t.kind) h)

sight_skip : (e : Edition) (text : List ℕ) (t : Token) (ts : List Token) → is_trivia t.kind ≡ true → sights_of e text (t ∷ ts) ≡ sights_of e (drop t.len text) ts
sight_skip e text t ts h =
    ap (λ (b : Bool). (if b then [] else sight_of e (take t.len text) (number_of t.kind) (number_on (slice_get ts 0)) (number_on (slice_get ts 1)) ∷ []) ++ sights_of e (drop t.len text) ts)
    (zero_is (number_of t.kind) (trivia_number t.kind h))

counted : (e : Edition) (text : List ℕ) (ts : List Token) → KnownAll ts → length (sights_of e text ts) ≡ length (seen_tokens ts)
counted e text [] h = refl
counted e text (t ∷ ts) h =
    elim (cases_Bool (is_trivia t.kind)) [
      | inl k ↦ ap length (sight_skip e text t ts k) ∙ counted e (drop t.len text) ts h.1 ∙ sym (ap length (seen_skip t ts k))
      | inr k ↦ ap length (sight_here e text t ts (h.0 k)) ∙ ap suc (counted e (drop t.len text) ts h.1) ∙ sym (ap length (seen_keep t ts k))
    ]

first_sight : (x s : Sight) → Some x ≡ Some s → x ≡ s
first_sight x s e = cc

-- the sight behind a part of the tokens is that of the next token
pub record FirstHas (back : List Token) (number : ℕ) : Type 0 where
  pub first : Token
  pub later : List Token
  pub is : back ≡ first ∷ later
  pub number_is : number ≡ number_of first.kind

next_here : (e : Edition) (text : List ℕ) (back : List Token) (s : Sight) → KnownAll back → lead back ≡ 0 → slice_get (sights_of e text back) 0 ≡ Some s
    → JoinsNext s back × FirstHas back s.one
next_here e text [] s h l g = absurd (let bad : None ≡ Some s = g in cc)
next_here e text (t ∷ ts) s h l g =
    elim (cases_Bool (is_trivia t.kind)) [
      | inl k ↦ absurd (let more : lead (t ∷ ts) ≡ lead ts + 1 = lead_more t ts ∙ ap (λ (b : Bool). if b then lead ts + 1 else 0) k in omega (arith, more, l))
      | inr k ↦
          let x : Sight = sight_of e (take t.len text) (number_of t.kind) (number_on (slice_get ts 0)) (number_on (slice_get ts 1)) in
          let same : x ≡ s = first_sight x s (sym (ap (λ (ss : List Sight). slice_get ss 0) (sight_here e text t ts (h.0 k))) ∙ g) in (
            subst (λ (y : Sight). JoinsNext y (t ∷ ts)) same (sight_joins e (take t.len text) t ts k),
            record { first = t; later = ts; is = refl; number_is = sym (ap (λ (y : Sight). y.one) same) },
          )
    ]

next_at : (e : Edition) (text : List ℕ) (front back : List Token) (s : Sight) → KnownAll (front ++ back) → lead back ≡ 0
    → slice_get (sights_of e text (front ++ back)) (length (seen_tokens front)) ≡ Some s → JoinsNext s back × FirstHas back s.one
next_at e text [] back s h l g = next_here e text back s h l g
next_at e text (t ∷ front) back s h l g =
    elim (cases_Bool (is_trivia t.kind)) [
      | inl k ↦ next_at e (drop t.len text) front back s h.1 l
          (sym (ap (λ (ss : List Sight). slice_get ss (length (seen_tokens front))) (sight_skip e text t (front ++ back) k))
          ∙ sym (ap (λ (us : List Token). slice_get (sights_of e text (t ∷ (front ++ back))) (length us)) (seen_skip t front k)) ∙ g)
      | inr k ↦ next_at e (drop t.len text) front back s h.1 l
          (sym (ap (λ (ss : List Sight). slice_get ss (suc (length (seen_tokens front)))) (sight_here e text t (front ++ back) (h.0 k)))
          ∙ sym (ap (λ (us : List Token). slice_get (sights_of e text (t ∷ (front ++ back))) (length us)) (seen_keep t front k)) ∙ g)
    ]

next_of : (e : Edition) (text : List ℕ) (ts front back : List Token) (s : Sight) → AreKnown ts → ts ≡ front ++ back → lead back ≡ 0
    → slice_get (sights_of e text ts) (length (seen_tokens front)) ≡ Some s → JoinsNext s back × FirstHas back s.one
next_of e text ts front back s known is l g =
    next_at e text front back s (subst KnownAll is (known_all ts known)) l (ap (λ (us : List Token). slice_get (sights_of e text us) (length (seen_tokens front))) (sym is) ∙ g)

pub sights_are : SightsAreOfTokens
sights_are e text ts known = record {
  count = counted e text ts (known_all ts known);
  joins = λ front back s is l g. (next_of e text ts front back s known is l g).0;
}

pub first_has : (e : Edition) (text : List ℕ) (ts front back : List Token) (s : Sight) → AreKnown ts → ts ≡ front ++ back → lead back ≡ 0
    → slice_get (sights_of e text ts) (length (seen_tokens front)) ≡ Some s → FirstHas back s.one
first_has e text ts front back s known is l g = (next_of e text ts front back s known is l g).1

-- ---- the sight of a token

-- what else a token is depends on its number and its text
pub record IsFine (e : Edition) (s : Sight) : Type 0 where
  pub its_text : List ℕ
  pub is : s.word ≡ finer_of e s.one its_text

pub sights_fine : (e : Edition) (text : List ℕ) (ts : List Token) (i : ℕ) (s : Sight) → slice_get (sights_of e text ts) i ≡ Some s → IsFine e s
sights_fine e text [] i s h = absurd (let bad : None ≡ Some s = h in cc)
sights_fine e text (t ∷ ts) i s h = by (number_of t.kind == 0) i h (λ j. sights_fine e (drop t.len text) ts j s)
  where
    by : (b : Bool) (j : ℕ)
        → slice_get ((if b then [] else sight_of e (take t.len text) (number_of t.kind) (number_on (slice_get ts 0)) (number_on (slice_get ts 1)) ∷ []) ++ sights_of e (drop t.len text) ts) j ≡ Some s
        → ((m : ℕ) → slice_get (sights_of e (drop t.len text) ts) m ≡ Some s → IsFine e s) → IsFine e s
    by true j q k = k j q
    by false zero q k =
        subst (IsFine e) (first_sight (sight_of e (take t.len text) (number_of t.kind) (number_on (slice_get ts 0)) (number_on (slice_get ts 1))) s q)
        (record { its_text = take t.len text; is = refl })
    by false (suc j) q k = k j q
