-- What is tested at the front of a text does not depend on what follows a brace.
use Rattle.std.proofs.Common.{◌≡◌, ℕ, ◌+◌, suc, Bool, true, false, ◌==◌, ◌&&◌, ◌||◌, if◌then◌else◌, List, [], ◌∷◌, ◌++◌, length, drop, ap, ap₂, ◌∙◌, refl, inl, inr, length-append}
use Rattle.std.specs.Prelude.{slice_get}
use Rattle.rust_lexer.specs.declared.class.Class.{Class}
use Rattle.rust_lexer.specs.Classes.{test_on, begins_of, is_in_of, skip_of}
use Rattle.lexer_laws.specs.Behind.{IsBrace}

-- a test of a byte fails at a brace if it does so at both
pub at_brace : (test : ℕ → Bool) (b : ℕ) → IsBrace b → test 123 ≡ false → test 125 ≡ false → test b ≡ false
at_brace test b (inl h) f g = ap test h ∙ f
at_brace test b (inr h) f g = ap test h ∙ g

pub holds_at_brace : (test : ℕ → Bool) (b : ℕ) → IsBrace b → test 123 ≡ true → test 125 ≡ true → test b ≡ true
holds_at_brace test b (inl h) f g = ap test h ∙ f
holds_at_brace test b (inr h) f g = ap test h ∙ g

pub test_same : (test : ℕ → Bool) (b : ℕ) → test b ≡ false → (q y : List ℕ) → test_on test (slice_get (q ++ b ∷ y) 0) ≡ test_on test (slice_get q 0)
test_same test b h [] y = h
test_same test b h (x ∷ q) y = refl

pub not_same : (n b : ℕ) → IsBrace b → (123 == n) ≡ false → (125 == n) ≡ false → (b == n) ≡ false
not_same n b h f g = at_brace (λ (x : ℕ). x == n) b h f g

-- the first byte is n, which is no brace
pub begins_same : (n b : ℕ) → (b == n) ≡ false → (q y : List ℕ) → begins_of n (q ++ b ∷ y) ≡ begins_of n q
begins_same n b h q y = test_same (λ (x : ℕ). x == n) b h q y

pub and_same : (p p' r r' : Bool) → p ≡ p' → r ≡ r' → (p && r) ≡ (p' && r')
and_same p p' r r' h k = ap₂ (λ (x y : Bool). x && y) h k

pub or_same : (p p' r r' : Bool) → p ≡ p' → r ≡ r' → (p || r) ≡ (p' || r')
or_same p p' r r' h k = ap₂ (λ (x y : Bool). x || y) h k

pub and_fails : (p r : Bool) → p ≡ false → (p && r) ≡ false
and_fails p r h = ap (λ (x : Bool). x && r) h

pub longer : (r y : List ℕ) (b : ℕ) → length (r ++ b ∷ y) ≡ length r + suc (length y)
longer r y b = length-append r (b ∷ y)

skip_on : (p : Bool) (u v w z : List ℕ) → u ≡ w ++ z → (if p then u else v ++ z) ≡ (if p then w else v) ++ z
skip_on true u v w z h = h
skip_on false u v w z h = refl

-- what is skipped ends before a brace
pub skip_same : (c : Class) (b : ℕ) → is_in_of c b ≡ false → (q y : List ℕ) → skip_of c (q ++ b ∷ y) ≡ skip_of c q ++ b ∷ y
skip_same c b h [] y = ap (λ (p : Bool). if p then skip_of c y else b ∷ y) h
skip_same c b h (x ∷ q) y = skip_on (is_in_of c x) (skip_of c (q ++ b ∷ y)) (x ∷ q) (skip_of c q) (b ∷ y) (skip_same c b h q y)

-- the rest after a first byte
pub tail_same : (test : ℕ → Bool) (b : ℕ) (q y : List ℕ) → test_on test (slice_get q 0) ≡ true → drop 1 (q ++ b ∷ y) ≡ drop 1 q ++ b ∷ y
tail_same test b [] y h = absurd (cc)
tail_same test b (x ∷ q) y h = refl
