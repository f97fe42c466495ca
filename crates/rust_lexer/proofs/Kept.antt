-- The tokens cut the text.
use Rattle.std.proofs.Common.{◌≡◌, ℕ, zero, suc, ◌+◌, ◌-◌, ◌≤◌, ◌<◌, ◌^◌, Bool, true, false, ◌==◌, if◌then◌else◌, List, [], ◌∷◌, ◌++◌, length, take, drop, ap, sym, ◌∙◌, refl, arith, subst, Option, Some, None, append_assoc, append-nil, length-append, length-drop}
use Rattle.std.specs.Prelude.{IsUtf8, All}
use Rattle.std.proofs.Math.Seq.{take-append_seam, drop-append_seam}
use Rattle.std.proofs.lemmas.Bool.Decides.{nat_tests}
use Rattle.std.proofs.lemmas.List.{take-append-drop}
use Rattle.std.proofs.lemmas.List.Elements.{All-append, All-cons, All-nil}
use Rattle.syntax_kind.specs.declared.syntax_kind.SyntaxKind.{SyntaxKind}
use Rattle.syntax_kind.specs.declared.syntax_kind.SyntaxKind.TheVariants.{OTHER}
use Rattle.text_size.specs.declared.range.TextRange.{TextRange}
use Rattle.ras_front_end.specs.declared.edition.Edition.{Edition}
use Rattle.token_layout.specs.declared.span.Token.{Token}
use Rattle.token_layout.specs.Laid.{IsCut}
use Rattle.rust_lexer.specs.declared.front_matter.Prelude.{Prelude}
use Rattle.rust_lexer.specs.declared.lexer.LexError.{LexError}
use Rattle.rust_lexer.specs.declared.problem.Problem.{Problem}
use Rattle.rust_lexer.specs.declared.shape.Shape.{Shape}
use Rattle.rust_lexer.specs.Cuts.{cut_of, front_of, back_of}
use Rattle.rust_lexer.specs.Heads.{prelude_of, shebang_of}
use Rattle.rust_lexer.specs.Laws.{HasBytes, ErrorLiesIn, IsLexed}
use Rattle.rust_lexer.specs.Lexing.{Lexing, size_of, range_of, faults_at, problems_of, taken, taken_some, taken_head, taken_head_on, steps_of, fresh}
use Rattle.rust_lexer.specs.Shapes.{plain_of}
use Rattle.rust_lexer.specs.Tokens.{token_of}
use Rattle.rust_lexer.proofs.Cutting.{cut-boundary, cut-some, front-utf8, back-utf8}
use Rattle.rust_lexer.proofs.Steps.{steps-one, steps-stop, steps-end}

-- the tokens split the text, one after the other
abbrev IsSplit : List Token → List ℕ → Type 0
IsSplit [] s = s ≡ []
IsSplit (t ∷ ts) s = (front : List ℕ) × (rest : List ℕ) × (s ≡ front ++ rest) × (t.len ≡ length front) × IsUtf8 front × IsSplit ts rest

split_push : (ts : List Token) (t : Token) (done now : List ℕ) → IsSplit ts done → t.len ≡ length now → IsUtf8 now → IsSplit (ts ++ (t ∷ [])) (done ++ now)
split_push [] t done now h e u = (now, [], rw h (sym (append-nil now)), e, u, refl)
split_push (x ∷ ts) t done now h e u = (h.0, h.1 ++ now, ap (λ cs. cs ++ now) h.2 ∙ append_assoc h.0 h.1 now, h.3, h.4, split_push ts t h.1 now h.5 e u)

first_fits : (front rest s : List ℕ) (n : ℕ) → s ≡ front ++ rest → n ≡ length front → n ≤ length s
first_fits front rest s n e f = omega (arith, ap length e, length-append front rest, f)

split_cut : (ts : List Token) (s : List ℕ) → IsSplit ts s → IsCut ts s
split_cut [] s h = h
split_cut (t ∷ ts) s h =
    let front = h.0 in
    let rest = h.1 in
    let taken : take t.len s ≡ front = ap (λ n. take n s) h.3 ∙ ap (take (length front)) h.2 ∙ take-append_seam front rest in
    let dropped : drop t.len s ≡ rest = ap (λ n. drop n s) h.3 ∙ ap (drop (length front)) h.2 ∙ drop-append_seam front rest in
    (first_fits front rest s t.len h.2 h.3, subst IsUtf8 (sym taken) h.4, subst (IsCut ts) (sym dropped) (split_cut ts rest h.5))

faults_lie : (r : TextRange) (n : ℕ) (ps : List Problem) (es : List LexError) → r.start ≤ r.end → r.end ≤ n → All (ErrorLiesIn n) es → All (ErrorLiesIn n) (faults_at r ps es)
faults_lie r n [] es a b h = h
faults_lie r n (p ∷ ps) es a b h =
    let x : LexError = record { problem = p; range = r } in
    let one : ErrorLiesIn n x = (a, b) in
    faults_lie r n ps (es ++ (x ∷ [])) a b (All-append (ErrorLiesIn n) es (x ∷ []) h (All-cons (ErrorLiesIn n) x [] one (All-nil (ErrorLiesIn n))))

-- what has been read is split into its tokens, and the rest is a text
record Good (text : List ℕ) (s : Lexing) : Type 0 where
  pub done : List ℕ
  pub all : text ≡ done ++ s.rest
  pub split : IsSplit s.tokens done
  pub is_text : IsUtf8 s.rest
  pub none_empty : All HasBytes s.tokens
  pub lie : All (ErrorLiesIn (length text)) s.errors

front_back : (n : ℕ) (s : List ℕ) → front_of n s ++ back_of n s ≡ s
front_back n s = take-append-drop (cut_of n s) s

lengths : (n : ℕ) (s : List ℕ) → length (front_of n s) + length (back_of n s) ≡ length s
lengths n s = sym (length-append (front_of n s) (back_of n s)) ∙ ap length (front_back n s)

back_short : (n : ℕ) (s : List ℕ) → 0 < length s → length (back_of n s) < length s
back_short n s l =
    let a : 0 < cut_of n s = cut-some n s l in
    let b : cut_of n s ≤ length s = (cut-boundary n s).0 in
    let d : length (back_of n s) ≡ length s - cut_of n s = length-drop (cut_of n s) s in
    omega (arith, a, b, d)

front_some : (n : ℕ) (s : List ℕ) → 0 < length s → 0 < length (front_of n s)
front_some n s l = omega (arith, lengths n s, back_short n s l)

good_taken : (text : List ℕ) (t : Shape) (s : Lexing) → length text < 2 ^ 32 → 0 < length s.rest → Good text s → Good text (taken text t s)
good_taken text t s l k h =
    let f = front_of t.left s.rest in
    let b = back_of t.left s.rest in
    let total : length text ≡ length h.done + length s.rest = ap length h.all ∙ length-append h.done s.rest in
    let both : length f + length b ≡ length s.rest = lengths t.left s.rest in
    let n : size_of (length f) ≡ length f = omega (arith, total, both, l) in
    let x : Token = record { kind = t.kind; len = size_of (length f) } in
    let some : HasBytes x = omega (arith, n, front_some t.left s.rest k) in
    let r = range_of (length text) (length s.rest) (length b) in
    let ordered : r.start ≤ r.end = omega (arith, both) in
    let within : r.end ≤ length text = omega arith in
    record {
      done = h.done ++ f;
      all = h.all ∙ ap (λ z. h.done ++ z) (sym (front_back t.left s.rest)) ∙ sym (append_assoc h.done f b);
      split = split_push s.tokens x h.done f h.split n (front-utf8 t.left s.rest h.is_text);
      is_text = back-utf8 t.left s.rest h.is_text;
      none_empty = All-append HasBytes s.tokens (x ∷ []) h.none_empty (All-cons HasBytes x [] some (All-nil HasBytes));
      lie = faults_lie r (length text) (problems_of s.tokens text s.rest t.check) s.errors ordered within h.lie;
    }

nonzero : (n : ℕ) → (n == 0) ≡ false → 0 < n
nonzero n h = grind (arith, nat_tests)

some_on : (b : Bool) (text : List ℕ) (t : Shape) (s : Lexing) → (b ≡ false → 0 < length s.rest) → length text < 2 ^ 32 → Good text s → Good text (if b then s else taken text t s)
some_on true text t s k l h = h
some_on false text t s k l h = good_taken text t s l (k refl) h

good_some : (text : List ℕ) (k : SyntaxKind) (o : Option ℕ) (s : Lexing) → length text < 2 ^ 32 → Good text s → Good text (taken_some text k o s)
good_some text k None s l h = h
good_some text k (Some n) s l h = some_on (length s.rest == 0) text (plain_of k n) s (nonzero (length s.rest)) l h

good_head_on : (e : Edition) (text : List ℕ) (s : Lexing) (o : Option Prelude) → length text < 2 ^ 32 → Good text s → Good text (taken_head_on e text s o)
good_head_on e text s (Some p) l h = good_some text (OTHER 0) p.front_matter (taken_some text (OTHER 1) p.shebang s) l (good_some text (OTHER 1) p.shebang s l h)
good_head_on e text s None l h = good_some text (OTHER 1) (shebang_of e text) s l h

good_head : (e : Edition) (text : List ℕ) (s : Lexing) → length text < 2 ^ 32 → Good text s → Good text (taken_head e text s)
unfolding taken_head
good_head e text s l h = good_head_on e text s (prelude_of text) l h

record Done (text : List ℕ) (s : Lexing) : Type 0 where
  pub cut : IsCut s.tokens text
  pub none_empty : All HasBytes s.tokens
  pub lie : All (ErrorLiesIn (length text)) s.errors

none_left : (s : List ℕ) → length s ≡ 0 → s ≡ []
none_left [] h = refl
none_left (x ∷ s) h = absurd (omega (arith, h))

good_done : (text : List ℕ) (s : Lexing) → length s.rest ≡ 0 → Good text s → Done text s
good_done text s z h =
    let q : h.done ≡ text = sym (h.all ∙ ap (λ r. h.done ++ r) (none_left s.rest z) ∙ append-nil h.done) in
    record { cut = split_cut s.tokens text (subst (IsSplit s.tokens) q h.split); none_empty = h.none_empty; lie = h.lie }

is_zero : (n : ℕ) → (n == 0) ≡ true → n ≡ 0
is_zero n h = grind (arith, nat_tests)

step_done : (b : Bool) (n : ℕ) (e : Edition) (text : List ℕ) (s : Lexing) → (length s.rest == 0) ≡ b → length text < 2 ^ 32 → length s.rest ≤ suc n → Good text s → ((r : Lexing) → length r.rest ≤ n → Good text r → Done text (steps_of n e text r)) → Done text (steps_of (suc n) e text s)
step_done true n e text s b l k h more = subst (Done text) (sym (steps-stop (suc n) e text s b)) (good_done text s (is_zero (length s.rest) b) h)
step_done false n e text s b l k h more =
    let t = token_of e s.rest in
    let some : 0 < length s.rest = nonzero (length s.rest) b in
    let short : length (back_of t.left s.rest) ≤ n = omega (arith, k, back_short t.left s.rest some) in
    subst (Done text) (sym (steps-one n e text s b)) (more (taken text t s) short (good_taken text t s l some h))

steps_done : (n : ℕ) (e : Edition) (text : List ℕ) (s : Lexing) → length text < 2 ^ 32 → length s.rest ≤ n → Good text s → Done text (steps_of n e text s)
steps_done zero e text s l k h =
    let z : length s.rest ≡ 0 = omega (arith, k) in
    subst (Done text) (sym (steps-end 0 e text s refl)) (good_done text s z h)
steps_done (suc n) e text s l k h = step_done (length s.rest == 0) n e text s refl l k h (λ r m g. steps_done n e text r l m g)

good_fresh : (text : List ℕ) → IsUtf8 text → Good text (fresh text)
good_fresh text u = record { done = []; all = refl; split = refl; is_text = u; none_empty = All-nil HasBytes; lie = All-nil (ErrorLiesIn (length text)) }

rest_fits : (text : List ℕ) (s : Lexing) → Good text s → length s.rest ≤ length text
rest_fits text s h = omega (arith, ap length h.all, length-append h.done s.rest)

pub lexed : (e : Edition) (text : List ℕ) → IsUtf8 text → length text < 2 ^ 32 → IsLexed e text
lexed e text u l =
    let h = good_head e text (fresh text) l (good_fresh text u) in
    let d = steps_done (length text) e text (taken_head e text (fresh text)) l (rest_fits text (taken_head e text (fresh text)) h) h in
    record { cut = d.cut; none_empty = d.none_empty; lie = d.lie }
