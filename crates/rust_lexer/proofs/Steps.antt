-- One token more.
use Rattle.std.proofs.Common.{◌≡◌, [], ◌∷◌, ◌++◌, take, drop, ◌≤◌, length-take, min, ℕ, zero, suc, ◌+◌, ◌-◌, ◌<◌, true, false, ◌==◌, List, ap, ◌∙◌, refl, arith, length, if◌then◌else◌}
use Rattle.ras_front_end.specs.declared.edition.Edition.{Edition}
use Rattle.rust_lexer.specs.Lexing.{Lexing, size_of, steps_of, taken}
use Rattle.syntax_kind.specs.declared.syntax_kind.SyntaxKind.{SyntaxKind}
use Rattle.token_layout.specs.declared.span.Token.{Token}
use Rattle.rust_lexer.specs.declared.lexer.LexError.{LexError}
use Rattle.rust_lexer.specs.Cuts.{IsEnd}
use Rattle.rust_lexer.specs.Shapes.{plain_of}
use Rattle.rust_lexer.proofs.Cutting.{cut-end}
use Rattle.rust_lexer.specs.Tokens.{token_of}

pub steps-one : (n : ℕ) (e : Edition) (text : List ℕ) (s : Lexing) → (length s.rest == 0) ≡ false → steps_of (suc n) e text s ≡ steps_of n e text (taken text (token_of e s.rest) s)
unfolding steps_of
steps-one n e text s h = ap (λ b. if b then s else steps_of n e text (taken text (token_of e s.rest) s)) h

pub steps-more : (n i : ℕ) (e : Edition) (text : List ℕ) (s : Lexing) → i < n → (length s.rest == 0) ≡ false → steps_of (n - i) e text s ≡ steps_of (n - (i + 1)) e text (taken text (token_of e s.rest) s)
steps-more n i e text s l h =
    let k : n - i ≡ suc (n - (i + 1)) = omega (arith, l) in
    ap (λ (m : ℕ). steps_of m e text s) k ∙ steps-one (n - (i + 1)) e text s h

pub steps-stop : (k : ℕ) (e : Edition) (text : List ℕ) (s : Lexing) → (length s.rest == 0) ≡ true → steps_of k e text s ≡ s
unfolding steps_of
steps-stop zero e text s h = refl
steps-stop (suc k) e text s h = ap (λ b. if b then s else steps_of k e text (taken text (token_of e s.rest) s)) h

pub steps-end : (k : ℕ) (e : Edition) (text : List ℕ) (s : Lexing) → k ≡ 0 → steps_of k e text s ≡ s
unfolding steps_of
steps-end zero e text s h = refl
steps-end (suc k) e text s h = absurd (omega (arith, h))

abbrev at_cut : SyntaxKind → ℕ → ℕ → Lexing → Lexing
at_cut k i m s = record { tokens = s.tokens ++ (record { kind = k; len = size_of m }) ∷ []; errors = s.errors; rest = drop i s.rest }

pub taken_plain : (text : List ℕ) (k : SyntaxKind) (n : ℕ) (s : Lexing) → IsEnd s.rest n → taken text (plain_of k (length s.rest - n)) s ≡ record { tokens = s.tokens ++ (record { kind = k; len = size_of n }) ∷ []; errors = s.errors; rest = drop n s.rest }
taken_plain text k n s end =
    let l : n ≤ length s.rest = end.1.0 in
    ap (λ (i : ℕ). at_cut k i (length (take i s.rest)) s) (cut-end n s.rest end)
    ∙ ap (λ (m : ℕ). at_cut k n m s) (let least : min n (length s.rest) ≡ n = omega arith in length-take n s.rest ∙ least)

abbrev made : List Token → List LexError → List ℕ → Lexing
made ts es r = record { tokens = ts; errors = es; rest = r }

pub lexing_made : (ts us : List Token) (es : List LexError) (r q : List ℕ) → ts ≡ us → r ≡ q → made ts es r ≡ made us es q
lexing_made ts us es r q a b = ap (λ (x : List Token). made x es r) a ∙ ap (λ (x : List ℕ). made us es x) b
