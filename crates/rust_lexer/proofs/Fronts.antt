-- The laws of the readings of a text's front.
use Rattle.std.proofs.Common.{◌≡◌, ◌≢◌, ℕ, Bool, true, false, ◌==◌, if◌then◌else◌, List, [], ◌∷◌, ◌++◌, ap, sym, ◌∙◌, refl, subst, arith}
use Rattle.std.proofs.lemmas.Bool.Decides.{nat_tests}
use Rattle.std.proofs.lemmas.List.Elements.{All-cons, All-nil}
use Rattle.rust_lexer.specs.declared.class.Class.{Class}
use Rattle.rust_lexer.specs.declared.scan.Scan.{Scan}
use Rattle.rust_lexer.specs.declared.scan.Scan.TheVariants.{Text, TextEscape, Closed}
use Rattle.rust_lexer.specs.Classes.{is_in_of, skip_of}
use Rattle.rust_lexer.specs.Fronts.{FollowsLongest, StringContent, nothing, plain, escape, StringRead}
use Rattle.rust_lexer.specs.Scans.{run_of}

skip_on : (b : Bool) (c : Class) (x : ℕ) (s : List ℕ) → is_in_of c x ≡ b → FollowsLongest (is_in_of c) s (skip_of c s) → FollowsLongest (is_in_of c) (x ∷ s) (if b then skip_of c s else x ∷ s)
skip_on true c x s h k = record {
  front = x ∷ k.front;
  parts = ap (λ r. x ∷ r) k.parts;
  all_pass = All-cons (λ b. is_in_of c b ≡ true) x k.front h k.all_pass;
  next_fails = k.next_fails;
}
skip_on false c x s h k = record { front = []; parts = refl; all_pass = All-nil (λ b. is_in_of c b ≡ true); next_fails = h }

pub longest : (c : Class) (s : List ℕ) → FollowsLongest (is_in_of c) s (skip_of c s)
longest c [] = record { front = []; parts = refl; all_pass = All-nil (λ b. is_in_of c b ≡ true); next_fails = refl }
longest c (x ∷ s) = skip_on (is_in_of c x) c x s refl (longest c s)

pub is_same : (b n : ℕ) → (b == n) ≡ true → b ≡ n
is_same b n h = grind (arith, nat_tests)

pub is_other : (b n : ℕ) → (b == n) ≡ false → b ≢ n
is_other b n h = grind (arith, nat_tests)

pub closed_run : (s : List ℕ) → run_of Closed s ≡ (Closed, s)
unfolding run_of
closed_run [] = refl
closed_run (b ∷ s) = refl

ends_here : (b : ℕ) (s r : List ℕ) → b ≡ 34 → r ≡ s → StringRead (b ∷ s) r
ends_here b s r h e = record { content = []; parts = ap (λ x. x ∷ s) h ∙ ap (λ z. 34 ∷ z) (sym e); is_content = nothing }

goes_on : (b : ℕ) (s r : List ℕ) → b ≢ 34 → b ≢ 92 → StringRead s r → StringRead (b ∷ s) r
goes_on b s r n m h = record { content = b ∷ h.content; parts = ap (λ z. b ∷ z) h.parts; is_content = plain b h.content n m h.is_content }

escaped : (b : ℕ) (s r : List ℕ) → StringRead s r → StringRead (92 ∷ b ∷ s) r
escaped b s r h = record { content = 92 ∷ b ∷ h.content; parts = ap (λ z. 92 ∷ b ∷ z) h.parts; is_content = escape b h.content h.is_content }

abbrev Reads : List ℕ → Type 0
Reads s = (run_of Text s).0 ≡ Closed → StringRead s (run_of Text s).1

abbrev ReadsEscaped : List ℕ → Type 0
ReadsEscaped s = (run_of TextEscape s).0 ≡ Closed → StringRead (92 ∷ s) (run_of TextEscape s).1

reads_on : (p q : Bool) (b : ℕ) (s : List ℕ) → (b == 34) ≡ p → (b == 92) ≡ q → Reads s → ReadsEscaped s → (run_of (if p then Closed else (if q then TextEscape else Text)) s).0 ≡ Closed → StringRead (b ∷ s) (run_of (if p then Closed else (if q then TextEscape else Text)) s).1
reads_on true q b s h k f g e = ends_here b s (run_of Closed s).1 (is_same b 34 h) (ap (λ (x : Scan × List ℕ). x.1) (closed_run s))
reads_on false true b s h k f g e = subst (λ (x : ℕ). StringRead (x ∷ s) (run_of TextEscape s).1) (sym (is_same b 92 k)) (g e)
reads_on false false b s h k f g e = goes_on b s (run_of Text s).1 (is_other b 34 h) (is_other b 92 k) (f e)

unclosed : Text ≡ Closed → StringRead [] []
unclosed h = (let bad : Text ≡ Closed = h in cc)

unclosed_escape : TextEscape ≡ Closed → StringRead (92 ∷ []) []
unclosed_escape h = (let bad : TextEscape ≡ Closed = h in cc)

both_read : (s : List ℕ) → Reads s × ReadsEscaped s
unfolding run_of
both_read [] = (unclosed, unclosed_escape)
both_read (b ∷ s) =
    let h = both_read s in
    (reads_on (b == 34) (b == 92) b s refl refl h.0 h.1, λ e. escaped b s (run_of Text s).1 (h.0 e))

pub strings_read : (s : List ℕ) → (run_of Text s).0 ≡ Closed → StringRead s (run_of Text s).1
strings_read s = (both_read s).0

pub other_is : (b n : ℕ) → b ≢ n → (b == n) ≡ false
other_is b n h = grind (arith, nat_tests)

plain_step : (b : ℕ) (s : List ℕ) → (b == 34) ≡ false → (b == 92) ≡ false → run_of Text (b ∷ s) ≡ run_of Text s
unfolding run_of
plain_step b s h k =
    ap (λ (p : Bool). run_of (if p then Closed else (if b == 92 then TextEscape else Text)) s) h ∙ ap (λ (q : Bool). run_of (if q then TextEscape else Text) s) k

escape_step : (b : ℕ) (s : List ℕ) → run_of Text (92 ∷ b ∷ s) ≡ run_of Text s
unfolding run_of
escape_step b s = refl

quote_step : (s : List ℕ) → run_of Text (34 ∷ s) ≡ run_of Closed s
unfolding run_of
quote_step s = refl

pub contents_read : (content r : List ℕ) → StringContent content → run_of Text (content ++ 34 ∷ r) ≡ (Closed, r)
contents_read _ r nothing = quote_step r ∙ closed_run r
contents_read _ r (plain b s n m h) = plain_step b (s ++ 34 ∷ r) (other_is b 34 n) (other_is b 92 m) ∙ contents_read s r h
contents_read _ r (escape b s h) = escape_step b (s ++ 34 ∷ r) ∙ contents_read s r h
