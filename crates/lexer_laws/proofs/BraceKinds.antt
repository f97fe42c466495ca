-- A token of the kind of a brace is that brace.
use Rattle.std.proofs.Common.{◌≡◌, inl, inr, ℕ, ◌<◌, Bool, true, ◌==◌, ◌||◌, List, ◌∷◌, ap, sym, ◌∙◌, refl, arith}
use Rattle.std.proofs.lemmas.Bool.Decides.{nat_tests}
use Rattle.syntax_kind.specs.declared.syntax_kind.SyntaxKind.{SyntaxKind}
use Rattle.syntax_kind.specs.declared.syntax_kind.SyntaxKind.TheVariants as kinds
use Rattle.syntax_kind.specs.declared.syntax_kind.token_kind.TokenKind.TheVariants as token
use Rattle.ras_front_end.specs.declared.edition.Edition.{Edition}
use Rattle.rust_lexer.specs.declared.shape.Shape.{Shape}
use Rattle.rust_lexer.specs.Signs.{sign_kind_of}
use Rattle.rust_lexer.specs.Tokens.{sign_of, token_of}
use Rattle.lexer_laws.proofs.LexedKinds.{IsSign, token_sign, sign_passes}

-- the brace that a kind is of, or 0
abbrev pub brace_of : SyntaxKind → ℕ
brace_of (kinds.Token token.L_CURLY) = 123
brace_of (kinds.Token token.R_CURLY) = 125
brace_of _ = 0

-- ---- a sign is only the brace that its byte is

-- the kind is of no brace, or of this one
abbrev is_of : ℕ → SyntaxKind → Bool
is_of b k = (brace_of k == 0) || (brace_of k == b)

sign_is : (b : ℕ) → is_of b (sign_kind_of b) ≡ true
sign_is b = sign_passes is_of b refl refl

same_brace : (n x k : ℕ) → ((n == 0) || (n == x)) ≡ true → n ≡ k → 0 < k → x ≡ k
same_brace n x k h e l = grind (arith, nat_tests)

by_sign : (x : ℕ) (s : List ℕ) (t : Shape) (k : ℕ) → IsSign brace_of x s t → brace_of t.kind ≡ k → 0 < k → (x ≡ k) × (t ≡ sign_of x s)
by_sign x s t k (inl h) e l = absurd (omega (arith, h, e, l))
by_sign x s t k (inr h) e l = (same_brace (brace_of (sign_kind_of x)) x k (sign_is x) (sym (ap (λ (z : Shape). brace_of z.kind) h) ∙ e) l, h)

-- a token of the kind of a brace begins with that brace, and is a sign
pub brace_first : (e : Edition) (x : ℕ) (s : List ℕ) (k : ℕ) → brace_of (token_of e (x ∷ s)).kind ≡ k → 0 < k → (x ≡ k) × (token_of e (x ∷ s) ≡ sign_of x s)
brace_first e x s k h l = by_sign x s (token_of e (x ∷ s)) k (token_sign brace_of refl e x s) h l
