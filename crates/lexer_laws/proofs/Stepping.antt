-- The tokens of a text that is not at the head of a file, one after the other.
use Rattle.std.proofs.Common.{◌≡◌, ◌⊎◌, inl, inr, ℕ, zero, suc, ◌-◌, ◌<◌, ◌≤◌, Bool, true, false, ◌==◌, if◌then◌else◌, List, [], ◌∷◌, ◌++◌, length, ap, sym, ◌∙◌, refl, arith, append_assoc, append-nil, length-drop, length-take}
use Rattle.std.proofs.lemmas.Bool.{cases_Bool}
use Rattle.std.proofs.lemmas.Bool.Decides.{nat_tests}
use Rattle.ras_front_end.specs.declared.edition.Edition.{Edition}
use Rattle.token_layout.specs.declared.span.Token as span
use Rattle.rust_lexer.specs.declared.shape.Shape.{Shape}
use Rattle.rust_lexer.specs.Cuts.{cut_of, front_of, back_of}
use Rattle.rust_lexer.specs.Lexing.{Lexing, size_of, taken, steps_of, fresh}
use Rattle.rust_lexer.specs.Tokens.{token_of}
use Rattle.rust_lexer.proofs.Cutting.{cut-boundary, cut-some}
use Rattle.rust_lexer.proofs.Steps.{steps-one, steps-stop, steps-end}
use Rattle.lexer_laws.specs.Cuts.{tokens_within}

abbrev pub Tokens : Type 0
Tokens = List span.Token

-- equal lists begin with equal tokens, and go on alike
pub head_same : (t r : span.Token) (ts rs : Tokens) → t ∷ ts ≡ r ∷ rs → t ≡ r
head_same t r ts rs h = cc

pub tail_same : (t r : span.Token) (ts rs : Tokens) → t ∷ ts ≡ r ∷ rs → ts ≡ rs
tail_same t r ts rs h = cc

-- the first token of a text, as the lexer lists it
abbrev pub token_at : Edition → List ℕ → span.Token
token_at e s = record { kind = (token_of e s).kind; len = size_of (length (front_of (token_of e s).left s)) }

-- the tokens of a text, at most n
unfoldable pub tokens_from : ℕ → Edition → List ℕ → Tokens
tokens_from zero e s = []
tokens_from (suc n) e s = if length s == 0 then [] else token_at e s ∷ tokens_from n e (back_of (token_of e s).left s)

from_stop : (n : ℕ) (e : Edition) (s : List ℕ) → (length s == 0) ≡ true → tokens_from n e s ≡ []
unfolding tokens_from
from_stop zero e s h = refl
from_stop (suc n) e s h = ap (λ (p : Bool). if p then [] else token_at e s ∷ tokens_from n e (back_of (token_of e s).left s)) h

from_more : (n : ℕ) (e : Edition) (s : List ℕ) → (length s == 0) ≡ false → tokens_from (suc n) e s ≡ token_at e s ∷ tokens_from n e (back_of (token_of e s).left s)
unfolding tokens_from
from_more n e s h = ap (λ (p : Bool). if p then [] else token_at e s ∷ tokens_from n e (back_of (token_of e s).left s)) h

from_end : (e : Edition) (s : List ℕ) → tokens_from 0 e s ≡ []
unfolding tokens_from
from_end e s = refl

step_tokens : (n : ℕ) (e : Edition) (text : List ℕ) (l : Lexing) → ((k : Lexing) → (steps_of n e text k).tokens ≡ k.tokens ++ tokens_from n e k.rest)
    → ((length l.rest == 0) ≡ true) ⊎ ((length l.rest == 0) ≡ false) → (steps_of (suc n) e text l).tokens ≡ l.tokens ++ tokens_from (suc n) e l.rest
step_tokens n e text l f (inl h) =
    ap (λ (k : Lexing). k.tokens) (steps-stop (suc n) e text l h)
    ∙ sym (ap (λ (ts : List span.Token). l.tokens ++ ts) (from_stop (suc n) e l.rest h) ∙ append-nil l.tokens)
step_tokens n e text l f (inr h) =
    ap (λ (k : Lexing). k.tokens) (steps-one n e text l h)
    ∙ f (taken text (token_of e l.rest) l)
    ∙ append_assoc l.tokens (token_at e l.rest ∷ []) (tokens_from n e (back_of (token_of e l.rest).left l.rest))
    ∙ sym (ap (λ (ts : List span.Token). l.tokens ++ ts) (from_more n e l.rest h))

pub steps_tokens : (n : ℕ) (e : Edition) (text : List ℕ) (l : Lexing) → (steps_of n e text l).tokens ≡ l.tokens ++ tokens_from n e l.rest
steps_tokens zero e text l =
    ap (λ (k : Lexing). k.tokens) (steps-end 0 e text l refl)
    ∙ sym (ap (λ (ts : List span.Token). l.tokens ++ ts) (from_end e l.rest) ∙ append-nil l.tokens)
steps_tokens (suc n) e text l = step_tokens n e text l (λ k. steps_tokens n e text k) (cases_Bool (length l.rest == 0))

within_from : (e : Edition) (s : List ℕ) → tokens_within e s ≡ tokens_from (length s) e s
within_from e s = steps_tokens (length s) e s (fresh s)

-- ---- the first token, and the rest

pub back_length : (n : ℕ) (s : List ℕ) → length (back_of n s) ≡ length s - cut_of n s
back_length n s = length-drop (cut_of n s) s

pub front_length : (n : ℕ) (s : List ℕ) → length (front_of n s) ≡ cut_of n s
front_length n s =
    let b : cut_of n s ≤ length s = (cut-boundary n s).0 in
    omega (arith, length-take (cut_of n s) s, b)

pub back_short : (n x : ℕ) (s : List ℕ) → length (back_of n (x ∷ s)) ≤ length s
back_short n x s =
    let some : 0 < cut_of n (x ∷ s) = cut-some n (x ∷ s) (omega arith) in
    omega (arith, back_length n (x ∷ s), some)

not_empty : (x : ℕ) (s : List ℕ) → (length (x ∷ s) == 0) ≡ false
not_empty x s = grind (arith, nat_tests)

same_fuel : (n m : ℕ) (e : Edition) (s : List ℕ) → length s ≤ n → length s ≤ m → tokens_from n e s ≡ tokens_from m e s
same_fuel n m e [] h k = from_stop n e [] refl ∙ sym (from_stop m e [] refl)
same_fuel zero m e (x ∷ s) h k = absurd (omega (arith, h))
same_fuel (suc n) zero e (x ∷ s) h k = absurd (omega (arith, k))
same_fuel (suc n) (suc m) e (x ∷ s) h k =
    let t : Shape = token_of e (x ∷ s) in
    from_more n e (x ∷ s) (not_empty x s)
    ∙ ap (λ (ts : List span.Token). token_at e (x ∷ s) ∷ ts)
    (same_fuel n m e (back_of t.left (x ∷ s)) (omega (arith, back_short t.left x s, h)) (omega (arith, back_short t.left x s, k)))
    ∙ sym (from_more m e (x ∷ s) (not_empty x s))

pub within_empty : (e : Edition) → tokens_within e [] ≡ []
within_empty e = within_from e [] ∙ from_end e []

-- the tokens of a text are the first one and those of the rest
pub within_more : (e : Edition) (x : ℕ) (s : List ℕ) → tokens_within e (x ∷ s) ≡ token_at e (x ∷ s) ∷ tokens_within e (back_of (token_of e (x ∷ s)).left (x ∷ s))
within_more e x s =
    let t : Shape = token_of e (x ∷ s) in
    let rest : List ℕ = back_of t.left (x ∷ s) in
    within_from e (x ∷ s) ∙ from_more (length s) e (x ∷ s) (not_empty x s)
    ∙ ap (λ (ts : List span.Token). token_at e (x ∷ s) ∷ ts)
    (same_fuel (length s) (length rest) e rest (back_short t.left x s) (omega arith) ∙ sym (within_from e rest))

pub token_some : (e : Edition) (x : ℕ) (s : List ℕ) → 0 < (token_at e (x ∷ s)).len
token_some e x s =
    let n : ℕ = (token_of e (x ∷ s)).left in
    let some : 0 < cut_of n (x ∷ s) = cut-some n (x ∷ s) (omega arith) in
    omega (arith, some, front_length n (x ∷ s))
