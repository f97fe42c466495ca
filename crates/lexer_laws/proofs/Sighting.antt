-- How the grammar's machine sees a text that is cut at a brace.
use Rattle.std.proofs.Common.{◌≡◌, ◌⊎◌, inl, inr, ℕ, zero, suc, ◌+◌, ◌-◌, ◌<◌, ◌≤◌, Bool, true, false, ◌==◌, ◌&&◌, ◌||◌, nat_lt, nat_le, if◌then◌else◌, List, [], ◌∷◌, ◌++◌, length, drop, take, ap, ap₂, sym, ◌∙◌, refl, arith, append_assoc, append-nil, take-append-drop, length-drop, length-take}
use Rattle.std.specs.Prelude.{slice_get}
use Rattle.std.proofs.Math.Seq.{drop-append_seam}
use Rattle.std.proofs.lemmas.Bool.{cases_eq, and_parts, cases_Bool, eqb-true, ltb-true}
use Rattle.std.proofs.lemmas.Bool.Decides.{nat_tests}
use Rattle.std.proofs.lemmas.List.{take-append-le, drop-append-le}
use Rattle.syntax_kind.specs.declared.syntax_kind.SyntaxKind.{SyntaxKind}
use Rattle.ras_front_end.specs.declared.edition.Edition.{Edition}
use Rattle.token_layout.specs.declared.span.Token as span
use Rattle.grammar_machine.specs.declared.grammar.Sight.{Sight}
use Rattle.rust_grammar.specs.Seeing.{number_of, number_on, joined_of, finer_of, seen_of, sights_of}
use Rattle.lexer_laws.specs.Cuts.{bytes_of}
use Rattle.lexer_laws.specs.Pieces.{IsBraced}
use Rattle.lexer_laws.specs.Windows.{IsBraceKind, BeginsInBrace, EndsInBrace}

abbrev Tokens : Type 0
Tokens = List span.Token

-- ---- what is joined

first_holds : (p r : Bool) (n : ℕ) → p ≡ true → (if p || r then 0 else n) ≡ 0
first_holds p r n h = ap (λ (x : Bool). if x || r then 0 else n) h

second_holds : (p r : Bool) (n : ℕ) → r ≡ true → (if p || r then 0 else n) ≡ 0
second_holds true r n h = refl
second_holds false r n h = ap (λ (x : Bool). if x then 0 else n) h

-- a number below that of the first sign is joined to nothing before it
not_joined : (left sign : ℕ) → nat_lt sign 24 ≡ true → joined_of left sign ≡ 0
not_joined left sign h = first_holds (nat_lt sign 24) _ _ h

-- the token makes nothing with the signs below n
empty_below : ℕ → ℕ → Bool
empty_below left zero = true
empty_below left (suc n) = (joined_of left n == 0) && empty_below left n

empty_at : (left n i : ℕ) → empty_below left n ≡ true → i < n → joined_of left i ≡ 0
unfolding empty_below
empty_at left zero i h l = absurd (omega (arith, l))
empty_at left (suc n) i h l =
    elim (cases_eq i n) [
      | inl same ↦ ap (joined_of left) same ∙ eqb-true (joined_of left n) 0 (and_parts (joined_of left n == 0) (empty_below left n) h).0
      | inr other ↦ empty_at left n i (and_parts (joined_of left n == 0) (empty_below left n) h).1 (omega (arith, l, other))
    ]

none_before : empty_below 0 43 ≡ true
unfolding empty_below
none_before = refl

none_behind : empty_below 21 43 ≡ true
unfolding empty_below
none_behind = refl

beyond_signs : (sign : ℕ) → nat_lt sign 43 ≡ false → nat_le 19 (sign - 24) ≡ true
beyond_signs sign h = grind (arith, nat_tests)

row_on : (left sign : ℕ) → empty_below left 43 ≡ true → (nat_lt sign 43 ≡ true) ⊎ (nat_lt sign 43 ≡ false) → joined_of left sign ≡ 0
row_on left sign h (inl k) = empty_at left 43 sign h (ltb-true sign 43 k)
row_on left sign h (inr k) = second_holds (nat_lt sign 24) (nat_le 19 (sign - 24)) _ (beyond_signs sign k)

-- nothing is joined with no token, and nothing with a brace
pub no_left : (sign : ℕ) → joined_of 0 sign ≡ 0
no_left sign = row_on 0 sign none_before (cases_Bool (nat_lt sign 43))

none_behind_open : empty_below 20 43 ≡ true
unfolding empty_below
none_behind_open = refl

pub no_right_open : (sign : ℕ) → joined_of 20 sign ≡ 0
no_right_open sign = row_on 20 sign none_behind_open (cases_Bool (nat_lt sign 43))

no_right : (sign : ℕ) → joined_of 21 sign ≡ 0
no_right sign = row_on 21 sign none_behind (cases_Bool (nat_lt sign 43))

-- ---- what is seen

seen_same : (e : Edition) (w : List ℕ) (one s t s' t' : ℕ) → joined_of one s ≡ joined_of one s' → joined_of (joined_of one s) t ≡ joined_of (joined_of one s') t'
    → seen_of e w one s t ≡ seen_of e w one s' t'
seen_same e w one s t s' t' h k =
    ap₂ (λ (x y : ℕ). if one == 0 then [] else record { one = one; two = x; three = y; word = finer_of e one w } ∷ []) h k

last_seen : (e : Edition) (w : List ℕ) (one n t : ℕ) → nat_lt n 24 ≡ true → seen_of e w one n t ≡ seen_of e w one 0 0
last_seen e w one n t h =
    seen_same e w one n t 0 0 (not_joined one n h ∙ sym (not_joined one 0 refl))
    (ap (λ (j : ℕ). joined_of j t) (not_joined one n h) ∙ no_left t ∙ sym (ap (λ (j : ℕ). joined_of j 0) (not_joined one 0 refl) ∙ no_left 0))

-- how a token before others is seen does not depend on what follows these, if that is a brace
seen_before : (e : Edition) (w : List ℕ) (one : ℕ) (ts us : Tokens) (t : span.Token) → nat_lt (number_of t.kind) 24 ≡ true
    → seen_of e w one (number_on (slice_get (ts ++ t ∷ us) 0)) (number_on (slice_get (ts ++ t ∷ us) 1)) ≡ seen_of e w one (number_on (slice_get ts 0)) (number_on (slice_get ts 1))
seen_before e w one [] us t h = last_seen e w one (number_of t.kind) (number_on (slice_get us 0)) h
seen_before e w one (x ∷ []) us t h =
    seen_same e w one (number_of x.kind) (number_of t.kind) (number_of x.kind) 0 refl
    (not_joined (joined_of one (number_of x.kind)) (number_of t.kind) h ∙ sym (not_joined (joined_of one (number_of x.kind)) 0 refl))
seen_before e w one (x ∷ y ∷ ts) us t h = refl

empty : (s : List ℕ) → 0 ≡ length s → s ≡ []
empty [] h = refl
empty (x ∷ s) h = absurd (omega (arith, h))

before_brace : (e : Edition) (a c : List ℕ) (ts us : Tokens) (t : span.Token) → bytes_of ts ≡ length a → nat_lt (number_of t.kind) 24 ≡ true
    → sights_of e (a ++ c) (ts ++ t ∷ us) ≡ sights_of e a ts ++ sights_of e c (t ∷ us)
before_brace e a c [] us t l h = ap (λ (s : List ℕ). sights_of e (s ++ c) (t ∷ us)) (empty a l)
before_brace e a c (x ∷ ts) us t l h =
    let few : x.len ≤ length a = omega (arith, l) in
    let rest : bytes_of ts ≡ length (drop x.len a) = omega (arith, l, length-drop x.len a) in
    ap₂ (λ (w : List ℕ) (r : List ℕ). seen_of e w (number_of x.kind) (number_on (slice_get (ts ++ t ∷ us) 0)) (number_on (slice_get (ts ++ t ∷ us) 1)) ++ sights_of e r (ts ++ t ∷ us))
    (take-append-le x.len a c few) (drop-append-le x.len a c few)
    ∙ ap₂ (λ (p r : List Sight). p ++ r) (seen_before e (take x.len a) (number_of x.kind) ts us t h) (before_brace e (drop x.len a) c ts us t rest h)
    ∙ sym (append_assoc (seen_of e (take x.len a) (number_of x.kind) (number_on (slice_get ts 0)) (number_on (slice_get ts 1))) (sights_of e (drop x.len a) ts) (sights_of e c (t ∷ us)))

-- the number of a brace
record IsBraceNumber (n : ℕ) : Type 0 where
  is_small : nat_lt n 24 ≡ true
  is_last : (j : ℕ) → joined_of n j ≡ 0

-- what a brace is seen as does not depend on what follows it
seen_last : (e : Edition) (w : List ℕ) (n s t : ℕ) → IsBraceNumber n → seen_of e w n s t ≡ seen_of e w n 0 0
seen_last e w n s t h =
    let none : (j : ℕ) → joined_of n j ≡ 0 = h.is_last in
    seen_same e w n s t 0 0 (none s ∙ sym (none 0))
    (ap (λ (j : ℕ). joined_of j t) (none s) ∙ no_left t ∙ sym (ap (λ (j : ℕ). joined_of j 0) (none 0) ∙ no_left 0))

small_on : (n m : ℕ) → n ≡ m → nat_lt m 24 ≡ true → nat_lt n 24 ≡ true
small_on n m h k = ap (λ (j : ℕ). nat_lt j 24) h ∙ k

brace_number : (k : SyntaxKind) → IsBraceKind k → IsBraceNumber (number_of k)
brace_number k (inl h) = record { is_small = small_on (number_of k) 20 (ap number_of h) refl; is_last = λ j. ap (λ (m : SyntaxKind). joined_of (number_of m) j) h ∙ no_right_open j }
brace_number k (inr h) = record { is_small = small_on (number_of k) 21 (ap number_of h) refl; is_last = λ j. ap (λ (m : SyntaxKind). joined_of (number_of m) j) h ∙ no_right j }

closing_last : (e : Edition) (w c : List ℕ) (t : span.Token) (us : Tokens) → t.len ≡ length w → IsBraceNumber (number_of t.kind)
    → sights_of e (w ++ c) (t ∷ us) ≡ sights_of e w (t ∷ []) ++ sights_of e c us
closing_last e w c t us l h =
    let front : take t.len (w ++ c) ≡ take t.len w = take-append-le t.len w c (omega (arith, l)) in
    let rest : drop t.len (w ++ c) ≡ c = ap (λ (n : ℕ). drop n (w ++ c)) l ∙ drop-append_seam w c in
    ap₂ (λ (x y : List ℕ). seen_of e x (number_of t.kind) (number_on (slice_get us 0)) (number_on (slice_get us 1)) ++ sights_of e y us) front rest
    ∙ ap (λ (p : List Sight). p ++ sights_of e c us) (
    seen_last e (take t.len w) (number_of t.kind) (number_on (slice_get us 0)) (number_on (slice_get us 1)) h
    ∙ sym (append-nil (seen_of e (take t.len w) (number_of t.kind) 0 0))
    )

bytes_append : (ts us : Tokens) → bytes_of (ts ++ us) ≡ bytes_of ts + bytes_of us
bytes_append [] us = omega arith
bytes_append (t ∷ ts) us = omega (arith, bytes_append ts us)

behind_brace : (e : Edition) (p c : List ℕ) (front us : Tokens) (t : span.Token) → bytes_of (front ++ t ∷ []) ≡ length p → IsBraceNumber (number_of t.kind)
    → sights_of e (p ++ c) (front ++ t ∷ us) ≡ sights_of e p (front ++ t ∷ []) ++ sights_of e c us
behind_brace e p c front us t l h =
    let n : ℕ = bytes_of front in
    let total : n + t.len ≡ length p = omega (arith, l, bytes_append front (t ∷ [])) in
    let a : List ℕ = take n p in
    let w : List ℕ = drop n p in
    let parts : a ++ w ≡ p = take-append-drop n p in
    let front_len : bytes_of front ≡ length a = omega (arith, total, length-take n p) in
    let last_len : t.len ≡ length w = omega (arith, total, length-drop n p) in
    let few : nat_lt (number_of t.kind) 24 ≡ true = h.is_small in
    ap (λ (s : List ℕ). sights_of e (s ++ c) (front ++ t ∷ us)) (sym parts)
    ∙ ap (λ (s : List ℕ). sights_of e s (front ++ t ∷ us)) (append_assoc a w c)
    ∙ before_brace e a (w ++ c) front us t front_len few
    ∙ ap (λ (r : List Sight). sights_of e a front ++ r) (closing_last e w c t us last_len h)
    ∙ sym (append_assoc (sights_of e a front) (sights_of e w (t ∷ [])) (sights_of e c us))
    ∙ ap (λ (r : List Sight). r ++ sights_of e c us) (sym (before_brace e a w front [] t front_len few) ∙ ap (λ (s : List ℕ). sights_of e s (front ++ t ∷ [])) parts)

pub sights_cut : (e : Edition) (a piece c : List ℕ) (ts ps us : Tokens) → bytes_of ts ≡ length a → bytes_of ps ≡ length piece → IsBraced ps
    → sights_of e (a ++ (piece ++ c)) (ts ++ (ps ++ us)) ≡ sights_of e a ts ++ (sights_of e piece ps ++ sights_of e c us)
sights_cut e a piece c ts ps us l m p =
    let opening : nat_lt (number_of p.0.first.kind) 24 ≡ true = (brace_number p.0.first.kind (inl p.0.is_open)).is_small in
    let closing : IsBraceNumber (number_of p.1.last.kind) = brace_number p.1.last.kind (inr p.1.is_close) in
    ap (λ (rs : Tokens). sights_of e (a ++ (piece ++ c)) (ts ++ (rs ++ us))) p.0.begins
    ∙ before_brace e a (piece ++ c) ts (p.0.rest ++ us) p.0.first l opening
    ∙ ap (λ (rs : Tokens). sights_of e a ts ++ sights_of e (piece ++ c) (rs ++ us)) (sym p.0.begins ∙ p.1.ends)
    ∙ ap (λ (rs : Tokens). sights_of e a ts ++ sights_of e (piece ++ c) rs) (append_assoc p.1.front (p.1.last ∷ []) us)
    ∙ ap (λ (r : List Sight). sights_of e a ts ++ r) (
    behind_brace e piece c p.1.front us p.1.last (ap bytes_of (sym p.1.ends) ∙ m) closing
    ∙ ap (λ (rs : Tokens). sights_of e piece rs ++ sights_of e c us) (sym p.1.ends)
    )

-- ---- a window, which may also begin or end where the text does

begins_at : (e : Edition) (a s : List ℕ) (ts ps : Tokens) → bytes_of ts ≡ length a → ((a ≡ []) × (ts ≡ [])) ⊎ BeginsInBrace ps
    → sights_of e (a ++ s) (ts ++ ps) ≡ sights_of e a ts ++ sights_of e s ps
begins_at e a s ts ps l (inl h) =
    ap₂ (λ (d : List ℕ) (rs : Tokens). sights_of e (d ++ s) (rs ++ ps)) h.0 h.1
    ∙ ap (λ (r : List Sight). r ++ sights_of e s ps) (ap (sights_of e a) (sym h.1))
begins_at e a s ts ps l (inr b) =
    ap (λ (rs : Tokens). sights_of e (a ++ s) (ts ++ rs)) b.begins
    ∙ before_brace e a s ts b.rest b.first l (brace_number b.first.kind b.is_brace).is_small
    ∙ ap (λ (rs : Tokens). sights_of e a ts ++ sights_of e s rs) (sym b.begins)

ends_at : (e : Edition) (w c : List ℕ) (ps us : Tokens) → bytes_of ps ≡ length w → ((c ≡ []) × (us ≡ [])) ⊎ EndsInBrace ps
    → sights_of e (w ++ c) (ps ++ us) ≡ sights_of e w ps ++ sights_of e c us
ends_at e w c ps us l (inl h) =
    ap₂ (λ (d : List ℕ) (rs : Tokens). sights_of e d (ps ++ rs)) (ap (λ (d : List ℕ). w ++ d) h.0 ∙ append-nil w) h.1
    ∙ ap (sights_of e w) (append-nil ps)
    ∙ sym (ap (λ (rs : Tokens). sights_of e w ps ++ sights_of e c rs) h.1 ∙ append-nil (sights_of e w ps))
ends_at e w c ps us l (inr b) =
    ap (λ (rs : Tokens). sights_of e (w ++ c) (rs ++ us)) b.ends
    ∙ ap (sights_of e (w ++ c)) (append_assoc b.front (b.last ∷ []) us)
    ∙ behind_brace e w c b.front us b.last (ap bytes_of (sym b.ends) ∙ l) (brace_number b.last.kind b.is_brace)
    ∙ ap (λ (rs : Tokens). sights_of e w rs ++ sights_of e c us) (sym b.ends)

more_begins : (ps us : Tokens) → BeginsInBrace ps → BeginsInBrace (ps ++ us)
more_begins ps us b = record { first = b.first; rest = b.rest ++ us; begins = ap (λ (rs : Tokens). rs ++ us) b.begins; is_brace = b.is_brace }

begins_more : (a : List ℕ) (ts ps us : Tokens) → ((a ≡ []) × (ts ≡ [])) ⊎ BeginsInBrace ps → ((a ≡ []) × (ts ≡ [])) ⊎ BeginsInBrace (ps ++ us)
begins_more a ts ps us (inl h) = inl h
begins_more a ts ps us (inr b) = inr (more_begins ps us b)

-- each part is seen as by itself
pub window_seen : (e : Edition) (a w c : List ℕ) (ts ps us : Tokens) → bytes_of ts ≡ length a → bytes_of ps ≡ length w
    → ((a ≡ []) × (ts ≡ [])) ⊎ BeginsInBrace ps → ((c ≡ []) × (us ≡ [])) ⊎ EndsInBrace ps
    → sights_of e (a ++ (w ++ c)) (ts ++ (ps ++ us)) ≡ sights_of e a ts ++ (sights_of e w ps ++ sights_of e c us)
window_seen e a w c ts ps us l m begins ends =
    begins_at e a (w ++ c) ts (ps ++ us) l (begins_more a ts ps us begins)
    ∙ ap (λ (r : List Sight). sights_of e a ts ++ r) (ends_at e w c ps us m ends)
