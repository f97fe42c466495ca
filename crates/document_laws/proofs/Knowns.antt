-- The grammar's machine has a number for the kind of each token of the lexer that is neither white
-- space nor a comment.
use Rattle.std.proofs.Common.{◌≡◌, inl, inr, ℕ, zero, suc, ◌++◌, subst, None, ◌<◌, Bool, true, false, ◌==◌, ◌||◌, nat_lt, if◌then◌else◌, Option, Some, List, [], ◌∷◌, length, ap, sym, ◌∙◌, refl, arith}
use Rattle.std.proofs.lemmas.Bool.{eqb-true}
use Rattle.std.proofs.lemmas.Bool.Decides.{nat_tests}
use Rattle.syntax_kind.specs.declared.syntax_kind.SyntaxKind.{SyntaxKind}
use Rattle.syntax_kind.specs.declared.syntax_kind.SyntaxKind.TheVariants.{OTHER}
use Rattle.syntax_kind.specs.Kinds.{is_trivia}
use Rattle.ras_front_end.specs.declared.edition.Edition.{Edition}
use Rattle.token_layout.specs.declared.span.Token as span
use Rattle.rust_lexer.specs.declared.front_matter.Prelude.{Prelude}
use Rattle.rust_lexer.specs.declared.shape.Shape.{Shape}
use Rattle.rust_lexer.specs.Heads.{prelude_of, shebang_of}
use Rattle.rust_lexer.specs.Lexing.{Lexing, taken, taken_some, taken_head, taken_head_on, steps_of, fresh, tokens_of}
use Rattle.rust_lexer.specs.Shapes.{plain_of}
use Rattle.rust_lexer.specs.Signs.{sign_kind_of}
use Rattle.rust_lexer.specs.Tokens.{token_of}
use Rattle.rust_lexer.proofs.Steps.{steps-one, steps-stop, steps-end}
use Rattle.lexer_laws.proofs.LexedKinds.{IsSign, token_sign, sign_passes}
use Rattle.rust_grammar.specs.Seeing.{number_of as small_number}
use Rattle.document_laws.specs.Sights.{AreKnown, LexersTokensAreKnown}

-- 1 if the machine has no number for the kind, though it is neither white space nor a comment;
-- otherwise 0
abbrev lost_of : SyntaxKind → ℕ
lost_of k = if is_trivia k || nat_lt 0 (small_number k) then 0 else 1

abbrev IsKnown : Shape → Type 0
IsKnown t = lost_of t.kind ≡ 0

-- ---- no kind of the lexer's is lost

sign_known : (b : ℕ) → lost_of (sign_kind_of b) ≡ 0
sign_known b = eqb-true (lost_of (sign_kind_of b)) 0 (sign_passes (λ n k. lost_of k == 0) b refl refl)

by_sign : (x : ℕ) (s : List ℕ) (t : Shape) → IsSign lost_of x s t → IsKnown t
by_sign x s t (inl h) = h
by_sign x s t (inr h) = ap (λ (z : Shape). lost_of z.kind) h ∙ sign_known x

token_known : (e : Edition) (x : ℕ) (s : List ℕ) → IsKnown (token_of e (x ∷ s))
token_known e x s = by_sign x s (token_of e (x ∷ s)) (token_sign lost_of refl e x s)

-- ---- all tokens of a text

abbrev AllKnown : List span.Token → Type 0
AllKnown [] = Unit {0}
AllKnown (t ∷ ts) = (lost_of t.kind ≡ 0) × AllKnown ts

one_more : (ts : List span.Token) (t : span.Token) → AllKnown ts → lost_of t.kind ≡ 0 → AllKnown (ts ++ t ∷ [])
one_more [] t h k = (k, tt)
one_more (u ∷ ts) t h k = (h.0, one_more ts t h.1 k)

taken_known : (text : List ℕ) (t : Shape) (l : Lexing) → IsKnown t → AllKnown l.tokens → AllKnown (taken text t l).tokens
taken_known text t l k h = one_more l.tokens (record { kind = t.kind; len = _ }) h k

some_known : (text : List ℕ) (k : SyntaxKind) (o : Option ℕ) (l : Lexing) → lost_of k ≡ 0 → AllKnown l.tokens → AllKnown (taken_some text k o l).tokens
some_known text k None l e h = h
some_known text k (Some n) l e h = by (length l.rest == 0)
  where
    by : (b : Bool) → AllKnown (if b then l else taken text (plain_of k n) l).tokens
    by true = h
    by false = taken_known text (plain_of k n) l e h

head_on_known : (e : Edition) (text : List ℕ) (l : Lexing) (o : Option Prelude) → AllKnown l.tokens → AllKnown (taken_head_on e text l o).tokens
head_on_known e text l (Some p) h = some_known text (OTHER 0) p.front_matter (taken_some text (OTHER 1) p.shebang l) refl (some_known text (OTHER 1) p.shebang l refl h)
head_on_known e text l None h = some_known text (OTHER 1) (shebang_of e text) l refl h

head_known : (e : Edition) (text : List ℕ) → AllKnown (taken_head e text (fresh text)).tokens
unfolding taken_head
head_known e text = head_on_known e text (fresh text) (prelude_of text) tt

steps_known : (n : ℕ) (e : Edition) (text : List ℕ) (ts : List span.Token) (es : _) (s : List ℕ) → AllKnown ts → AllKnown (steps_of n e text (record { tokens = ts; errors = es; rest = s })).tokens
steps_known n e text ts es [] h = subst (λ (l : Lexing). AllKnown l.tokens) (sym (steps-stop n e text (record { tokens = ts; errors = es; rest = [] }) refl)) h
steps_known zero e text ts es (x ∷ s) h = subst (λ (l : Lexing). AllKnown l.tokens) (sym (steps-end 0 e text (record { tokens = ts; errors = es; rest = x ∷ s }) refl)) h
steps_known (suc n) e text ts es (x ∷ s) h =
    let l : Lexing = record { tokens = ts; errors = es; rest = x ∷ s } in
    let m : Lexing = taken text (token_of e (x ∷ s)) l in
    subst (λ (i : Lexing). AllKnown i.tokens) (sym (steps-one n e text l (not_empty x s)))
    (steps_known n e text m.tokens m.errors m.rest (taken_known text (token_of e (x ∷ s)) l (token_known e x s) h))
  where
    not_empty : (y : ℕ) (r : List ℕ) → (length (y ∷ r) == 0) ≡ false
    not_empty y r = grind (arith, nat_tests)

abbrev lost_on : Bool → ℕ
lost_on b = if b then 0 else 1

kept_number : (k : SyntaxKind) (b c : Bool) → b ≡ false → nat_lt 0 (small_number k) ≡ c → lost_on (b || c) ≡ 0 → 0 < small_number k
kept_number k true c e f h = absurd (let bad : true ≡ false = e in cc)
kept_number k false true e f h = grind (arith, nat_tests, f)
kept_number k false false e f h = absurd (omega (arith, h))

known_at : (ts : List span.Token) → AllKnown ts → AreKnown ts
known_at [] h i t e k = absurd (let bad : None ≡ Some t = e in cc)
known_at (u ∷ ts) h zero t e k =
    let same : u ≡ t = token_same u t e in
    subst (λ (v : span.Token). 0 < small_number v.kind) same
    (kept_number u.kind (is_trivia u.kind) (nat_lt 0 (small_number u.kind)) (ap (λ (v : span.Token). is_trivia v.kind) same ∙ k) refl h.0)
  where
    token_same : (a c : span.Token) → Some a ≡ Some c → a ≡ c
    token_same a c q = cc
known_at (u ∷ ts) h (suc i) t e k = known_at ts h.1 i t e k

pub lexer_known : LexersTokensAreKnown
lexer_known e text =
    let l : Lexing = taken_head e text (fresh text) in
    known_at (tokens_of e text) (steps_known (length text) e text l.tokens l.errors l.rest (head_known e text))
