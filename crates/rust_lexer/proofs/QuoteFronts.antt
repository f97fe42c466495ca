-- The law of characters.
use Rattle.std.proofs.Common.{◌≡◌, ◌≢◌, ℕ, Bool, true, false, ◌==◌, if◌then◌else◌, Option, None, Some, List, [], ◌∷◌, ◌++◌, ap, sym, ◌∙◌, refl, subst}
use Rattle.rust_lexer.specs.declared.scan.Scan.{Scan}
use Rattle.rust_lexer.specs.declared.scan.Scan.TheVariants.{Quote, QuoteEscape, QuoteLine, Closed}
use Rattle.rust_lexer.specs.QuoteLaws.{CharacterContent, nothing, newline, plain, escape, CharacterRead}
use Rattle.rust_lexer.specs.Scans.{run_of}
use Rattle.rust_lexer.proofs.Fronts.{closed_run, is_same, is_other, other_is}

-- what is read on from there
abbrev after : Scan → Option Scan → ℕ → List ℕ → Scan × List ℕ
after q next b s = elim next [ None ↦ (q, b ∷ s) | Some r ↦ run_of r s ]

ends_here : (b : ℕ) (s r : List ℕ) → b ≡ 39 → r ≡ s → CharacterRead (b ∷ s) r
ends_here b s r h e = record { content = []; parts = ap (λ x. x ∷ s) h ∙ ap (λ z. 39 ∷ z) (sym e); is_content = nothing }

line_ends : (b c : ℕ) (s r : List ℕ) → b ≡ 10 → c ≡ 39 → r ≡ s → CharacterRead (b ∷ c ∷ s) r
line_ends b c s r is_b is_c e = record { content = 10 ∷ []; parts = ap (λ x. x ∷ c ∷ s) is_b ∙ ap (λ x. 10 ∷ x ∷ s) is_c ∙ ap (λ z. 10 ∷ 39 ∷ z) (sym e); is_content = newline }

goes_on : (b : ℕ) (s r : List ℕ) → b ≢ 39 → b ≢ 92 → b ≢ 10 → b ≢ 47 → CharacterRead s r → CharacterRead (b ∷ s) r
goes_on b s r n m k l h = record { content = b ∷ h.content; parts = ap (λ z. b ∷ z) h.parts; is_content = plain b h.content n m k l h.is_content }

escaped : (b : ℕ) (s r : List ℕ) → CharacterRead s r → CharacterRead (92 ∷ b ∷ s) r
escaped b s r h = record { content = 92 ∷ b ∷ h.content; parts = ap (λ z. 92 ∷ b ∷ z) h.parts; is_content = escape b h.content h.is_content }

abbrev Reads : List ℕ → Type 0
Reads s = (run_of Quote s).0 ≡ Closed → CharacterRead s (run_of Quote s).1

abbrev ReadsEscaped : List ℕ → Type 0
ReadsEscaped s = (run_of QuoteEscape s).0 ≡ Closed → CharacterRead (92 ∷ s) (run_of QuoteEscape s).1

abbrev ReadsLine : List ℕ → Type 0
ReadsLine s = (run_of QuoteLine s).0 ≡ Closed → CharacterRead (10 ∷ s) (run_of QuoteLine s).1

abbrev on : Bool → Bool → Bool → Bool → Option Scan
on p q k l = if p then Some Closed else (if q then Some QuoteEscape else (if k then Some QuoteLine else (if l then None else Some Quote)))

reads_on : (p q k l : Bool) (b : ℕ) (s : List ℕ) → (b == 39) ≡ p → (b == 92) ≡ q → (b == 10) ≡ k → (b == 47) ≡ l → Reads s → ReadsEscaped s → ReadsLine s
    → (after Quote (on p q k l) b s).0 ≡ Closed → CharacterRead (b ∷ s) (after Quote (on p q k l) b s).1
reads_on true q k l b s is_p is_q is_k is_l f g w e = ends_here b s (run_of Closed s).1 (is_same b 39 is_p) (ap (λ (x : Scan × List ℕ). x.1) (closed_run s))
reads_on false true k l b s is_p is_q is_k is_l f g w e = subst (λ (x : ℕ). CharacterRead (x ∷ s) (run_of QuoteEscape s).1) (sym (is_same b 92 is_q)) (g e)
reads_on false false true l b s is_p is_q is_k is_l f g w e = subst (λ (x : ℕ). CharacterRead (x ∷ s) (run_of QuoteLine s).1) (sym (is_same b 10 is_k)) (w e)
reads_on false false false true b s is_p is_q is_k is_l f g w e = absurd (let bad : Quote ≡ Closed = e in cc)
reads_on false false false false b s is_p is_q is_k is_l f g w e =
    goes_on b s (run_of Quote s).1 (is_other b 39 is_p) (is_other b 92 is_q) (is_other b 10 is_k) (is_other b 47 is_l) (f e)

line_on : (p : Bool) (b : ℕ) (s : List ℕ) → (b == 39) ≡ p
    → (after QuoteLine (if p then Some Closed else None) b s).0 ≡ Closed → CharacterRead (10 ∷ b ∷ s) (after QuoteLine (if p then Some Closed else None) b s).1
line_on true b s h e = line_ends 10 b s (run_of Closed s).1 refl (is_same b 39 h) (ap (λ (x : Scan × List ℕ). x.1) (closed_run s))
line_on false b s h e = absurd (let bad : QuoteLine ≡ Closed = e in cc)

unclosed : Quote ≡ Closed → CharacterRead [] []
unclosed h = (let bad : Quote ≡ Closed = h in cc)

unclosed_escape : QuoteEscape ≡ Closed → CharacterRead (92 ∷ []) []
unclosed_escape h = (let bad : QuoteEscape ≡ Closed = h in cc)

unclosed_line : QuoteLine ≡ Closed → CharacterRead (10 ∷ []) []
unclosed_line h = (let bad : QuoteLine ≡ Closed = h in cc)

all_read : (s : List ℕ) → Reads s × (ReadsEscaped s × ReadsLine s)
unfolding run_of
all_read [] = (unclosed, (unclosed_escape, unclosed_line))
all_read (b ∷ s) =
    let h = all_read s in (
      reads_on (b == 39) (b == 92) (b == 10) (b == 47) b s refl refl refl refl h.0 h.1.0 h.1.1,
      (
        (λ e. escaped b s (run_of Quote s).1 (h.0 e)),
        line_on (b == 39) b s refl,
      ),
    )

pub characters_read : (s : List ℕ) → (run_of Quote s).0 ≡ Closed → CharacterRead s (run_of Quote s).1
characters_read s = (all_read s).0

step : (b : ℕ) (s : List ℕ) → run_of Quote (b ∷ s) ≡ after Quote (on (b == 39) (b == 92) (b == 10) (b == 47)) b s
unfolding run_of
step b s = refl

plain_on : (p q k l : Bool) (b : ℕ) (s : List ℕ) → p ≡ false → q ≡ false → k ≡ false → l ≡ false → after Quote (on p q k l) b s ≡ run_of Quote s
plain_on p q k l b s is_p is_q is_k is_l =
    ap (λ (x : Bool). after Quote (on x q k l) b s) is_p ∙ ap (λ (x : Bool). after Quote (on false x k l) b s) is_q
    ∙ ap (λ (x : Bool). after Quote (on false false x l) b s) is_k ∙ ap (λ (x : Bool). after Quote (on false false false x) b s) is_l

escape_step : (b : ℕ) (s : List ℕ) → run_of Quote (92 ∷ b ∷ s) ≡ run_of Quote s
unfolding run_of
escape_step b s = refl

line_step : (s : List ℕ) → run_of Quote (10 ∷ 39 ∷ s) ≡ run_of Closed s
unfolding run_of
line_step s = refl

quote_step : (s : List ℕ) → run_of Quote (39 ∷ s) ≡ run_of Closed s
unfolding run_of
quote_step s = refl

pub contents_read : (content r : List ℕ) → CharacterContent content → run_of Quote (content ++ 39 ∷ r) ≡ (Closed, r)
contents_read _ r nothing = quote_step r ∙ closed_run r
contents_read _ r newline = line_step r ∙ closed_run r
contents_read _ r (plain b s n m k l h) =
    step b (s ++ 39 ∷ r) ∙ plain_on (b == 39) (b == 92) (b == 10) (b == 47) b (s ++ 39 ∷ r) (other_is b 39 n) (other_is b 92 m) (other_is b 10 k) (other_is b 47 l) ∙ contents_read s r h
contents_read _ r (escape b s h) = escape_step b (s ++ 39 ∷ r) ∙ contents_read s r h
