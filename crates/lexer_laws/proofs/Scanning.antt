-- A scan ends before a byte, or goes over it, whatever follows the byte.
use Rattle.std.proofs.Common.{◌≡◌, ◌⊎◌, inl, inr, ℕ, suc, ◌≤◌, Bool, true, false, ◌==◌, if◌then◌else◌, Option, Some, None, List, [], ◌∷◌, ◌++◌, length, ap, sym, ◌∙◌, refl, arith, subst}
use Rattle.rust_lexer.specs.declared.scan.Scan.{Scan}
use Rattle.rust_lexer.specs.declared.scan.Scan.TheVariants.{Comment, CommentSlash, CommentStar, Text, TextEscape, Quote, QuoteEscape, QuoteLine, Raw, RawHashes, Matter, Fence, Seek, SeekSecond, Closed}
use Rattle.rust_lexer.specs.Scans.{run_of, next_of}
use Rattle.lexer_laws.specs.Behind.{IsBrace}
use Rattle.lexer_laws.proofs.Tests.{at_brace}

-- what a scan comes to in more text, given what it came to before
resumed_in : Scan → List ℕ → List ℕ → Scan × List ℕ
resumed_in p [] z = run_of p z
resumed_in p (x ∷ r) z = (p, x ∷ (r ++ z))

stepped : Option Scan → Scan → ℕ → List ℕ → Scan × List ℕ
stepped None p x s = (p, x ∷ s)
stepped (Some r) p x s = run_of r s

one_step : (p : Scan) (x : ℕ) (s : List ℕ) (o : Option Scan) → next_of p x ≡ o → run_of p (x ∷ s) ≡ stepped o p x s
unfolding run_of stepped
one_step p x s None h = ap (λ (t : Option Scan). elim t as (λ _. Scan × List ℕ) [ None ↦ (p, x ∷ s) | Some r ↦ run_of r s ]) h
one_step p x s (Some o) h = ap (λ (t : Option Scan). elim t as (λ _. Scan × List ℕ) [ None ↦ (p, x ∷ s) | Some r ↦ run_of r s ]) h

resumed_step : (o : Option Scan) (p : Scan) (x : ℕ) (q z : List ℕ)
    → ((r : Scan) → run_of r (q ++ z) ≡ resumed_in (run_of r q).0 (run_of r q).1 z)
    → stepped o p x (q ++ z) ≡ resumed_in (stepped o p x q).0 (stepped o p x q).1 z
unfolding stepped resumed_in
resumed_step None p x q z h = refl
resumed_step (Some r) p x q z h = h r

resumed : (q : List ℕ) (p : Scan) (z : List ℕ) → run_of p (q ++ z) ≡ resumed_in (run_of p q).0 (run_of p q).1 z
unfolding run_of resumed_in
resumed [] p z = refl
resumed (x ∷ q) p z =
    one_step p x (q ++ z) (next_of p x) refl
    ∙ resumed_step (next_of p x) p x q z (λ r. resumed q r z)
    ∙ sym (ap (λ (t : Scan × List ℕ). resumed_in t.0 t.1 z) (one_step p x q (next_of p x) refl))

-- the scan ends in q, or goes over the byte behind it
pub record ScanStays (p : Scan) (b : ℕ) (q : List ℕ) : Type 0 where
  pub stays : (y : List ℕ) → run_of p (q ++ b ∷ y) ≡ ((run_of p q).0, (run_of p q).1 ++ b ∷ y)

pub record ScanPasses (p : Scan) (b : ℕ) (q : List ℕ) : Type 0 where
  pub next : Scan
  pub is_next : next_of (run_of p q).0 b ≡ Some next
  pub passes : (y : List ℕ) → run_of p (q ++ b ∷ y) ≡ run_of next y

ends_next : (o : Option Scan) (p r : Scan) (b : ℕ) (q : List ℕ) → next_of r b ≡ o → (run_of p q).0 ≡ r → (run_of p q).1 ≡ []
    → ScanStays p b q ⊎ ScanPasses p b q
unfolding resumed_in stepped
ends_next None p r b q h e k =
    inl (record {
      stays = λ y.
          resumed q p (b ∷ y) ∙ ap (λ (t : List ℕ). resumed_in (run_of p q).0 t (b ∷ y)) k
          ∙ ap (λ (t : Scan). run_of t (b ∷ y)) e ∙ one_step r b y None h
          ∙ sym (ap (λ (t : Scan). (t, (run_of p q).1 ++ b ∷ y)) e ∙ ap (λ (t : List ℕ). (r, t ++ b ∷ y)) k);
    })
ends_next (Some n) p r b q h e k =
    inr (record {
      next = n;
      is_next = ap (λ (t : Scan). next_of t b) e ∙ h;
      passes = λ y.
          resumed q p (b ∷ y) ∙ ap (λ (t : List ℕ). resumed_in (run_of p q).0 t (b ∷ y)) k
          ∙ ap (λ (t : Scan). run_of t (b ∷ y)) e ∙ one_step r b y (Some n) h;
    })

ends_rest : (rest : List ℕ) (p : Scan) (b : ℕ) (q : List ℕ) → (run_of p q).1 ≡ rest → ScanStays p b q ⊎ ScanPasses p b q
unfolding resumed_in
ends_rest [] p b q k = ends_next (next_of (run_of p q).0 b) p (run_of p q).0 b q refl refl k
ends_rest (x ∷ r) p b q k =
    inl (record {
      stays = λ y.
          resumed q p (b ∷ y) ∙ ap (λ (t : List ℕ). resumed_in (run_of p q).0 t (b ∷ y)) k
          ∙ sym (ap (λ (t : List ℕ). ((run_of p q).0, t ++ b ∷ y)) k);
    })

pub scan_ends : (p : Scan) (b : ℕ) (q : List ℕ) → ScanStays p b q ⊎ ScanPasses p b q
scan_ends p b q = ends_rest (run_of p q).1 p b q refl

-- ---- how much is left

-- a character that a newline may end has one byte less than was read
unfoldable pub line : Scan → Bool
line QuoteLine = true
line _ = false

unfoldable pub weight : Bool → List ℕ → ℕ
weight true s = suc (length s)
weight false s = length s

at_most : (p : Bool) (s : List ℕ) → weight p s ≤ suc (length s)
unfolding weight
at_most true s = omega arith
at_most false s = omega arith

at_least : (p : Bool) (s : List ℕ) → length s ≤ weight p s
unfolding weight
at_least true s = omega arith
at_least false s = omega arith

step_lighter : (o : Option Scan) (p : Scan) (x : ℕ) (s : List ℕ) → ((r : Scan) → weight (line (run_of r s).0) (run_of r s).1 ≤ weight (line r) s)
    → weight (line (stepped o p x s).0) (stepped o p x s).1 ≤ weight (line p) (x ∷ s)
unfolding stepped
step_lighter None p x s h = omega arith
step_lighter (Some r) p x s h =
    let one : weight (line r) s ≤ suc (length s) = at_most (line r) s in
    let two : suc (length s) ≤ weight (line p) (x ∷ s) = at_least (line p) (x ∷ s) in
    omega (arith, h r, one, two)

nothing_read : (p : Scan) → weight (line (run_of p []).0) (run_of p []).1 ≤ weight (line p) []
unfolding run_of
nothing_read p = omega arith

none_left : (p : Scan) → length (run_of p []).1 ≤ 0
unfolding run_of
none_left p = omega arith

step_shorter : (o : Option Scan) (p : Scan) (x : ℕ) (s : List ℕ) → ((r : Scan) → length (run_of r s).1 ≤ length s) → length (stepped o p x s).1 ≤ length (x ∷ s)
unfolding stepped
step_shorter None p x s h = omega arith
step_shorter (Some r) p x s h = omega (arith, h r)

pub run_lighter : (s : List ℕ) (p : Scan) → weight (line (run_of p s).0) (run_of p s).1 ≤ weight (line p) s
run_lighter [] p = nothing_read p
run_lighter (x ∷ s) p =
    subst (λ (t : Scan × List ℕ). weight (line t.0) t.1 ≤ weight (line p) (x ∷ s)) (sym (one_step p x s (next_of p x) refl))
    (step_lighter (next_of p x) p x s (λ r. run_lighter s r))

pub run_shorter : (s : List ℕ) (p : Scan) → length (run_of p s).1 ≤ length s
run_shorter [] p = none_left p
run_shorter (x ∷ s) p =
    subst (λ (t : Scan × List ℕ). length t.1 ≤ length (x ∷ s)) (sym (one_step p x s (next_of p x) refl))
    (step_shorter (next_of p x) p x s (λ r. run_shorter s r))

line_next : Option Scan → Bool
line_next None = false
line_next (Some r) = line r

seeks : (c : Bool) (x y : ℕ) → line_next (Some (if c then SeekSecond x y else Seek x y)) ≡ false
unfolding line_next line
seeks true x y = refl
seeks false x y = refl

seeks_second : (d c : Bool) (x y : ℕ) → line_next (Some (if d then Closed else (if c then SeekSecond x y else Seek x y))) ≡ false
unfolding line_next line
seeks_second true c x y = refl
seeks_second false c x y = seeks c x y

no_line : (p : Scan) (b : ℕ) → IsBrace b → line_next (next_of p b) ≡ false
unfolding line_next line
no_line (Comment d) b h = at_brace (λ (x : ℕ). line_next (next_of (Comment d) x)) b h refl refl
no_line (CommentSlash d) b h = at_brace (λ (x : ℕ). line_next (next_of (CommentSlash d) x)) b h refl refl
no_line (CommentStar d) b h = at_brace (λ (x : ℕ). line_next (next_of (CommentStar d) x)) b h refl refl
no_line Text b h = at_brace (λ (x : ℕ). line_next (next_of Text x)) b h refl refl
no_line TextEscape b h = refl
no_line Quote b h = at_brace (λ (x : ℕ). line_next (next_of Quote x)) b h refl refl
no_line QuoteEscape b h = refl
no_line QuoteLine b h = at_brace (λ (x : ℕ). line_next (next_of QuoteLine x)) b h refl refl
no_line (Raw n) b h = at_brace (λ (x : ℕ). line_next (next_of (Raw n) x)) b h refl refl
no_line (RawHashes n m) b h = at_brace (λ (x : ℕ). line_next (next_of (RawHashes n m) x)) b h refl refl
no_line (Matter n) b h = at_brace (λ (x : ℕ). line_next (next_of (Matter n) x)) b h refl refl
no_line (Fence n m) b h = at_brace (λ (x : ℕ). line_next (next_of (Fence n m) x)) b h refl refl
no_line (Seek x y) b h = seeks (b == x) x y
no_line (SeekSecond x y) b h = seeks_second (b == y) (b == x) x y
no_line Closed b h = refl

pub next_no_line : (p r : Scan) (b : ℕ) → IsBrace b → next_of p b ≡ Some r → line r ≡ false
unfolding line_next
next_no_line p r b h e = sym (ap line_next e) ∙ no_line p b h
