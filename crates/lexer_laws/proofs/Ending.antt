-- A token ends before a brace, or goes over it, whatever follows the brace.
use Rattle.std.proofs.Common.{◌≡◌, ◌⊎◌, inl, inr, ℕ, suc, ◌+◌, ◌-◌, ◌<◌, ◌≤◌, ◌^◌, Bool, true, false, not, ◌==◌, ◌||◌, if◌then◌else◌, List, ◌∷◌, ◌++◌, length, ap, sym, ◌∙◌, arith, subst}
use Rattle.std.proofs.lemmas.Bool.{cases_Bool}
use Rattle.syntax_kind.specs.declared.syntax_kind.SyntaxKind.{SyntaxKind}
use Rattle.rust_lexer.specs.declared.problem.Problem.{Problem}
use Rattle.rust_lexer.specs.declared.shape.Shape.{Shape}
use Rattle.rust_lexer.specs.Cuts.{is_boundary_of, cut_of}
use Rattle.rust_lexer.specs.Shapes.{plain_of, with_of}
use Rattle.lexer_laws.specs.Behind.{before}
use Rattle.lexer_laws.proofs.Tests.{longer}

-- what is read of q is the same where a brace follows
pub record Ended (f : List ℕ → Shape) (b : ℕ) (text q : List ℕ) : Type 0 where
  pub same : (y : List ℕ) → length text + length y < 2 ^ 32 → f (q ++ b ∷ y) ≡ before (suc (length y)) (f q)

-- the token of the text, of which q is the end, has the brace in it
pub record Covered (f : List ℕ → Shape) (b : ℕ) (text q : List ℕ) : Type 0 where
  pub over : (y : List ℕ) → length text < cut_of (f (q ++ b ∷ y)).left (text ++ b ∷ y)

abbrev pub Ends : (List ℕ → Shape) → ℕ → List ℕ → List ℕ → Type 0
Ends f b text q = Ended f b text q ⊎ Covered f b text q

pub ended : (f : List ℕ → Shape) (b : ℕ) (text q : List ℕ) → ((y : List ℕ) → length text + length y < 2 ^ 32 → f (q ++ b ∷ y) ≡ before (suc (length y)) (f q)) → Ends f b text q
ended f b text q h = inl (record { same = h })

cut_on : (p : Bool) (i n m : ℕ) → n < m → n < i → n < (if p then m else i)
cut_on true i n m h k = h
cut_on false i n m h k = k

-- a token that leaves no more than what follows the brace has the brace in it
pub covered : (f : List ℕ → Shape) (b : ℕ) (text q : List ℕ) → ((y : List ℕ) → (f (q ++ b ∷ y)).left ≤ length y) → Ends f b text q
covered f b text q h =
    inr (record {
      over = λ y.
          let s : List ℕ = text ++ b ∷ y in
          let n : ℕ = (f (q ++ b ∷ y)).left in
          let i : ℕ = length s - n in
          let total : length s ≡ length text + suc (length y) = longer text y b in
          let few : n ≤ length y = h y in
          cut_on ((i == 0) || not (is_boundary_of i s)) i (length text) (length s) (omega (arith, total)) (omega (arith, total, few));
    })

-- ---- choices

on_true : (t : List ℕ → Bool) (f g : List ℕ → Shape) (b : ℕ) (text q : List ℕ) → ((y : List ℕ) → t (q ++ b ∷ y) ≡ t q) → t q ≡ true
    → Ends f b text q → Ends (λ s. if t s then f s else g s) b text q
on_true t f g b text q h e (inl k) =
    ended (λ s. if t s then f s else g s) b text q (λ y l.
    ap (λ (r : Bool). if r then f (q ++ b ∷ y) else g (q ++ b ∷ y)) (h y ∙ e) ∙ k.same y l
    ∙ sym (ap (λ (r : Bool). before (suc (length y)) (if r then f q else g q)) e))
on_true t f g b text q h e (inr k) =
    inr (record {
      over = λ y.
          subst (λ (r : Bool). length text < cut_of (if r then f (q ++ b ∷ y) else g (q ++ b ∷ y)).left (text ++ b ∷ y)) (sym (h y ∙ e)) (k.over y);
    })

on_false : (t : List ℕ → Bool) (f g : List ℕ → Shape) (b : ℕ) (text q : List ℕ) → ((y : List ℕ) → t (q ++ b ∷ y) ≡ t q) → t q ≡ false
    → Ends g b text q → Ends (λ s. if t s then f s else g s) b text q
on_false t f g b text q h e (inl k) =
    ended (λ s. if t s then f s else g s) b text q (λ y l.
    ap (λ (r : Bool). if r then f (q ++ b ∷ y) else g (q ++ b ∷ y)) (h y ∙ e) ∙ k.same y l
    ∙ sym (ap (λ (r : Bool). before (suc (length y)) (if r then f q else g q)) e))
on_false t f g b text q h e (inr k) =
    inr (record {
      over = λ y.
          subst (λ (r : Bool). length text < cut_of (if r then f (q ++ b ∷ y) else g (q ++ b ∷ y)).left (text ++ b ∷ y)) (sym (h y ∙ e)) (k.over y);
    })

chosen : (t : List ℕ → Bool) (f g : List ℕ → Shape) (b : ℕ) (text q : List ℕ) → ((y : List ℕ) → t (q ++ b ∷ y) ≡ t q)
    → (t q ≡ true → Ends f b text q) → (t q ≡ false → Ends g b text q) → (t q ≡ true) ⊎ (t q ≡ false) → Ends (λ s. if t s then f s else g s) b text q
chosen t f g b text q h k l (inl e) = on_true t f g b text q h e (k e)
chosen t f g b text q h k l (inr e) = on_false t f g b text q h e (l e)

-- the test that chooses the token does not depend on what follows the brace
pub choose : (t : List ℕ → Bool) (f g : List ℕ → Shape) (b : ℕ) (text q : List ℕ) → ((y : List ℕ) → t (q ++ b ∷ y) ≡ t q)
    → (t q ≡ true → Ends f b text q) → (t q ≡ false → Ends g b text q) → Ends (λ s. if t s then f s else g s) b text q
choose t f g b text q h k l = chosen t f g b text q h k l (cases_Bool (t q))

-- ---- tokens that end where something is skipped

pub plain_ends : (k : SyntaxKind) (g : List ℕ → List ℕ) (b : ℕ) (text q : List ℕ) → ((y : List ℕ) → g (q ++ b ∷ y) ≡ g q ++ b ∷ y)
    → Ends (λ s. plain_of k (length (g s))) b text q
plain_ends k g b text q h =
    ended (λ s. plain_of k (length (g s))) b text q (λ y l. ap (plain_of k) (ap length (h y) ∙ longer (g q) y b))

pub with_ends : (k : SyntaxKind) (p : Problem) (g : List ℕ → List ℕ) (b : ℕ) (text q : List ℕ) → ((y : List ℕ) → g (q ++ b ∷ y) ≡ g q ++ b ∷ y)
    → Ends (λ s. with_of k (length (g s)) p) b text q
with_ends k p g b text q h =
    ended (λ s. with_of k (length (g s)) p) b text q (λ y l. ap (λ (n : ℕ). with_of k n p) (ap length (h y) ∙ longer (g q) y b))

-- a reading of what is left after something was skipped
pub skipped_ends : (f : List ℕ → Shape) (g : List ℕ → List ℕ) (b : ℕ) (text q : List ℕ) → ((y : List ℕ) → g (q ++ b ∷ y) ≡ g q ++ b ∷ y)
    → Ends f b text (g q) → Ends (λ s. f (g s)) b text q
skipped_ends f g b text q h (inl k) =
    ended (λ s. f (g s)) b text q (λ y l. ap f (h y) ∙ k.same y l)
skipped_ends f g b text q h (inr k) =
    inr (record { over = λ y. subst (λ (r : List ℕ). length text < cut_of (f r).left (text ++ b ∷ y)) (sym (h y)) (k.over y) })

-- the same function of each text with a brace, and of the text before it
pub like : (f g : List ℕ → Shape) (b : ℕ) (text q : List ℕ) → ((y : List ℕ) → f (q ++ b ∷ y) ≡ g (q ++ b ∷ y)) → f q ≡ g q → Ends g b text q → Ends f b text q
like f g b text q h e (inl k) = ended f b text q (λ y l. h y ∙ k.same y l ∙ sym (ap (before (suc (length y))) e))
like f g b text q h e (inr k) =
    inr (record { over = λ y. subst (λ (t : Shape). length text < cut_of t.left (text ++ b ∷ y)) (sym (h y)) (k.over y) })
