-- The errors of a text that is read behind other tokens.
use Rattle.std.proofs.Common.{◌≡◌, ◌⊎◌, inl, inr, ℕ, zero, suc, ◌+◌, ◌-◌, ◌<◌, ◌≤◌, ◌^◌, Bool, true, false, not, ◌==◌, ◌||◌, if◌then◌else◌, List, [], ◌∷◌, ◌++◌, length, take, drop, map, reverse, ap, ap₂, sym, ◌∙◌, refl, arith, subst, append_assoc, append-nil, length-append, length-drop, take-append-drop}
use Rattle.std.specs.Prelude.{IsUtf8}
use Rattle.std.specs.Str.{IsCharBoundary}
use Rattle.std.proofs.Math.Seq.{take-append_seam, take-add}
use Rattle.std.proofs.lemmas.Bool.Decides.{nat_tests}
use Rattle.std.proofs.lemmas.List.{drop-drop, take-append-le}
use Rattle.std.proofs.lemmas.Str.{IsCharBoundary-at_seam}
use Rattle.text_size.specs.declared.range.TextRange.{TextRange}
use Rattle.ras_front_end.specs.declared.edition.Edition.{Edition}
use Rattle.token_layout.specs.declared.span.Token as span
use Rattle.rust_lexer.specs.declared.lexer.LexError.{LexError}
use Rattle.rust_lexer.specs.declared.problem.Problem.{Problem}
use Rattle.rust_lexer.specs.declared.problem.Problem.TheVariants.{UnknownPrefix, UnknownPrefixBehindString}
use Rattle.rust_lexer.specs.declared.shape.Check.{Check}
use Rattle.rust_lexer.specs.declared.shape.Check.TheVariants.{No, Is, Prefix, Content}
use Rattle.rust_lexer.specs.declared.shape.Shape.{Shape}
use Rattle.rust_lexer.specs.Contents.{content_problems}
use Rattle.rust_lexer.specs.Cuts.{is_boundary_of, cut_of, front_of, back_of}
use Rattle.rust_lexer.specs.History.{is_behind_code_of}
use Rattle.rust_lexer.specs.Lexing.{Lexing, size_of, range_of, faults_at, content_of, problems_of, taken, steps_of}
use Rattle.rust_lexer.specs.Tokens.{token_of}
use Rattle.rust_lexer.proofs.Cutting.{cut-boundary, cut-some, back-utf8}
use Rattle.rust_lexer.proofs.Steps.{steps-one, steps-stop}
use Rattle.lexer_laws.specs.Behind.{IsBrace, check_before}
use Rattle.lexer_laws.specs.Cuts.{tokens_within, bytes_of}
use Rattle.lexer_laws.proofs.Bracing.{Inside, Beyond, first_token}
use Rattle.lexer_laws.proofs.Cleaning.{content_same}
use Rattle.lexer_laws.proofs.Faults.{FitsIn, token_fits}
use Rattle.lexer_laws.proofs.Pieces.{first_bytes}
use Rattle.lexer_laws.proofs.Stepping.{Tokens, head_same, tail_same, token_at, within_empty, within_more, token_some, back_length, back_short}
use Rattle.lexer_laws.proofs.Words.{boundary_starts}

abbrev pub Errors : Type 0
Errors = List LexError

-- ---- the errors of one token

abbrev pub at_range : TextRange → Problem → LexError
at_range r p = record { problem = p; range = r }

abbrev pub message : Bool → Problem
message b = if b then UnknownPrefixBehindString else UnknownPrefix

-- what is wrong with a token at the front of s, behind the tokens ts of the text d
abbrev pub wrong : Tokens → List ℕ → List ℕ → Check → List Problem
wrong ts d s No = []
wrong ts d s (Is p) = p ∷ []
wrong ts d s Prefix = message (is_behind_code_of 5 (reverse ts) d) ∷ []
wrong ts d s (Content m before behind) = content_problems m (content_of before behind s)

not_zero : (n : ℕ) → 0 < n → (n == 0) ≡ false
not_zero n h = grind (arith, nat_tests)

-- the tokens before are none where no text is before
abbrev pub IsBehind : Tokens → List ℕ → Type 0
IsBehind ts d = length d ≡ 0 → ts ≡ []

no_code : (s : List ℕ) → is_behind_code_of 5 [] s ≡ false
unfolding is_behind_code_of
no_code s = refl

no_code_behind : (ts : Tokens) (s : List ℕ) → ts ≡ [] → is_behind_code_of 5 (reverse ts) s ≡ false
no_code_behind ts s h = ap (λ (z : Tokens). is_behind_code_of 5 (reverse z) s) h ∙ no_code s

seam_front : (d s : List ℕ) → IsUtf8 s → 0 < length d → front_of (length s) (d ++ s) ≡ d
seam_front d s u l =
    let i : ℕ = length (d ++ s) - length s in
    let at : i ≡ length d = omega (arith, length-append d s) in
    let seam : IsCharBoundary (d ++ s) (length d) = IsCharBoundary-at_seam (d ++ s) d s refl u in
    let starts : is_boundary_of i (d ++ s) ≡ true = ap (λ (j : ℕ). is_boundary_of j (d ++ s)) at ∙ boundary_starts (length d) (d ++ s) seam in
    let cut : cut_of (length s) (d ++ s) ≡ length d =
    ap₂ (λ (p r : Bool). if p || not r then length (d ++ s) else i) (not_zero i (omega (arith, at, l))) starts ∙ at in
    ap (λ (j : ℕ). take j (d ++ s)) cut ∙ take-append_seam d s

zero_or_more : (n : ℕ) → (n ≡ 0) ⊎ (0 < n)
zero_or_more zero = inl refl
zero_or_more (suc n) = inr (omega arith)

seam_code : (ts : Tokens) (d s : List ℕ) → IsUtf8 s → IsBehind ts d → is_behind_code_of 5 (reverse ts) (front_of (length s) (d ++ s)) ≡ is_behind_code_of 5 (reverse ts) d
seam_code ts d s u h =
    elim (zero_or_more (length d)) [
      | inl z ↦ no_code_behind ts (front_of (length s) (d ++ s)) (h z) ∙ sym (no_code_behind ts d (h z))
      | inr l ↦ ap (is_behind_code_of 5 (reverse ts)) (seam_front d s u l)
    ]

wrong_is : (ts : Tokens) (d s : List ℕ) (f : Check) → IsUtf8 s → IsBehind ts d → problems_of ts (d ++ s) s f ≡ wrong ts d s f
wrong_is ts d s No u h = refl
wrong_is ts d s (Is p) u h = refl
wrong_is ts d s Prefix u h = ap (λ (b : Bool). message b ∷ []) (seam_code ts d s u h)
wrong_is ts d s (Content m before behind) u h = refl

pub wrong_same : (b : ℕ) → IsBrace b → (ts : Tokens) (d s y : List ℕ) (f : Check) → FitsIn s f → wrong ts d (s ++ b ∷ y) (check_before (suc (length y)) f) ≡ wrong ts d s f
wrong_same b h ts d s y No w = refl
wrong_same b h ts d s y (Is p) w = refl
wrong_same b h ts d s y Prefix w = refl
wrong_same b h ts d s y (Content m n j) w = ap (λ (z : List ℕ). content_problems m z) (content_same n j b h s y w)

-- nothing is wrong, whatever is before
pub wrong_none : (ts xs : Tokens) (d r s : List ℕ) (f : Check) → wrong xs r s f ≡ [] → wrong ts d s f ≡ []
wrong_none ts xs d r s No h = refl
wrong_none ts xs d r s (Is p) h = absurd (cc)
wrong_none ts xs d r s Prefix h = absurd (cc)
wrong_none ts xs d r s (Content m n j) h = h

faults_list : (r : TextRange) (ps : List Problem) (es : Errors) → faults_at r ps es ≡ es ++ map (at_range r) ps
faults_list r [] es = sym (append-nil es)
faults_list r (p ∷ ps) es = faults_list r ps (es ++ at_range r p ∷ []) ∙ append_assoc es (at_range r p ∷ []) (map (at_range r) ps)

abbrev pub between : ℕ → ℕ → TextRange
between p k = record { start = p; end = p + k }

abbrev pub size : Edition → List ℕ → ℕ
size e s = cut_of (token_of e s).left s

abbrev pub rest_of : Edition → List ℕ → List ℕ
rest_of e s = back_of (token_of e s).left s

-- the errors of the first token of s
abbrev pub here : Edition → Tokens → List ℕ → List ℕ → Errors
here e ts d s = map (at_range (between (length d) (size e s))) (wrong ts d s (token_of e s).check)

-- ---- the errors of a text

unfoldable pub told : ℕ → Edition → Tokens → List ℕ → List ℕ → Errors
told n e ts d [] = []
told zero e ts d (x ∷ s) = []
told (suc n) e ts d (x ∷ s) =
    here e ts d (x ∷ s) ++ told n e (ts ++ token_at e (x ∷ s) ∷ []) (d ++ take (size e (x ∷ s)) (x ∷ s)) (rest_of e (x ∷ s))

pub told_none : (n : ℕ) (e : Edition) (ts : Tokens) (d : List ℕ) → told n e ts d [] ≡ []
unfolding told
told_none zero e ts d = refl
told_none (suc n) e ts d = refl

pub told_more : (n : ℕ) (e : Edition) (ts : Tokens) (d : List ℕ) (x : ℕ) (s : List ℕ) → told (suc n) e ts d (x ∷ s)
    ≡ here e ts d (x ∷ s) ++ told n e (ts ++ token_at e (x ∷ s) ∷ []) (d ++ take (size e (x ∷ s)) (x ∷ s)) (rest_of e (x ∷ s))
unfolding told
told_more n e ts d x s = refl

same_fuel : (n m : ℕ) (e : Edition) (ts : Tokens) (d s : List ℕ) → length s ≤ n → length s ≤ m → told n e ts d s ≡ told m e ts d s
same_fuel n m e ts d [] h k = told_none n e ts d ∙ sym (told_none m e ts d)
same_fuel zero m e ts d (x ∷ s) h k = absurd (omega (arith, h))
same_fuel (suc n) zero e ts d (x ∷ s) h k = absurd (omega (arith, k))
same_fuel (suc n) (suc m) e ts d (x ∷ s) h k =
    let l : ℕ = (token_of e (x ∷ s)).left in
    told_more n e ts d x s
    ∙ ap (λ (es : Errors). here e ts d (x ∷ s) ++ es)
    (same_fuel n m e (ts ++ token_at e (x ∷ s) ∷ []) (d ++ take (size e (x ∷ s)) (x ∷ s)) (rest_of e (x ∷ s)) (omega (arith, back_short l x s, h)) (omega (arith, back_short l x s, k)))
    ∙ sym (told_more m e ts d x s)

abbrev pub all : Edition → Tokens → List ℕ → List ℕ → Errors
all e ts d s = told (length s) e ts d s

pub all_more : (e : Edition) (ts : Tokens) (d : List ℕ) (x : ℕ) (s : List ℕ)
    → all e ts d (x ∷ s) ≡ here e ts d (x ∷ s) ++ all e (ts ++ token_at e (x ∷ s) ∷ []) (d ++ take (size e (x ∷ s)) (x ∷ s)) (rest_of e (x ∷ s))
all_more e ts d x s =
    let rest : List ℕ = rest_of e (x ∷ s) in
    told_more (length s) e ts d x s
    ∙ ap (λ (es : Errors). here e ts d (x ∷ s) ++ es)
    (same_fuel (length s) (length rest) e (ts ++ token_at e (x ∷ s) ∷ []) (d ++ take (size e (x ∷ s)) (x ∷ s)) rest (back_short (token_of e (x ∷ s)).left x s) (omega arith))

not_empty : (x : ℕ) (s : List ℕ) → (length (x ∷ s) == 0) ≡ false
not_empty x s = grind (arith, nat_tests)

pub size_some : (e : Edition) (x : ℕ) (s : List ℕ) → 0 < size e (x ∷ s)
size_some e x s = cut-some (token_of e (x ∷ s)).left (x ∷ s) (omega arith)

pub size_few : (e : Edition) (s : List ℕ) → size e s ≤ length s
size_few e s = (cut-boundary (token_of e s).left s).0

pub take_long : (k : ℕ) (s : List ℕ) → k ≤ length s → length (take k s) ≡ k
take_long k s h = let cut : length (take k s ++ drop k s) ≡ length s = ap length (take-append-drop k s) in omega (arith, cut, length-append (take k s) (drop k s), length-drop k s, h)

-- behind one more token, some are before
behind_one : (ts : Tokens) (d : List ℕ) (e : Edition) (x : ℕ) (s : List ℕ) → IsBehind (ts ++ token_at e (x ∷ s) ∷ []) (d ++ take (size e (x ∷ s)) (x ∷ s))
behind_one ts d e x s z =
    absurd (omega (arith, z, length-append d (take (size e (x ∷ s)) (x ∷ s)), take_long (size e (x ∷ s)) (x ∷ s) (size_few e (x ∷ s)), size_some e x s))

-- the lexer's errors are these
pub steps_told : (n : ℕ) (e : Edition) (text : List ℕ) (ts : Tokens) (es : Errors) (d s : List ℕ) → text ≡ d ++ s → length s ≤ n → length text < 2 ^ 32 → IsUtf8 s → IsBehind ts d
    → (steps_of n e text (record { tokens = ts; errors = es; rest = s })).errors ≡ es ++ told n e ts d s
steps_told n e text ts es d [] is m few u h =
    ap (λ (k : Lexing). k.errors) (steps-stop n e text (record { tokens = ts; errors = es; rest = [] }) refl)
    ∙ sym (ap (λ (fs : Errors). es ++ fs) (told_none n e ts d) ∙ append-nil es)
steps_told zero e text ts es d (x ∷ s) is m few u h = absurd (omega (arith, m))
steps_told (suc n) e text ts es d (x ∷ s) is m few u h =
    let i : Lexing = record { tokens = ts; errors = es; rest = x ∷ s } in
    let t : Shape = token_of e (x ∷ s) in
    let k : ℕ = size e (x ∷ s) in
    let rest : List ℕ = rest_of e (x ∷ s) in
    let fit : k ≤ length (x ∷ s) = size_few e (x ∷ s) in
    let left : length rest ≡ length (x ∷ s) - k = back_length t.left (x ∷ s) in
    let total : length text ≡ length d + length (x ∷ s) = ap length is ∙ length-append d (x ∷ s) in
    let r : TextRange = range_of (length text) (length (x ∷ s)) (length rest) in
    let ps : List Problem = problems_of ts text (x ∷ s) t.check in
    let next : Lexing = taken text t i in
    let start : size_of (length text - length (x ∷ s)) ≡ length d = omega (arith, total, few) in
    let end : size_of (length text - length rest) ≡ length d + k = omega (arith, total, left, fit, few) in
    let range : r ≡ between (length d) k = ap₂ (λ (y z : ℕ). record { start = y; end = z }) start end in
    let now : faults_at r ps es ≡ es ++ here e ts d (x ∷ s) =
    faults_list r ps es
    ∙ ap₂ (λ (z : TextRange) (qs : List Problem). es ++ map (at_range z) qs) range
    (ap (λ (z : List ℕ). problems_of ts z (x ∷ s) t.check) is ∙ wrong_is ts d (x ∷ s) t.check u h) in
    let more : text ≡ (d ++ take k (x ∷ s)) ++ rest =
    is ∙ ap (λ (z : List ℕ). d ++ z) (sym (take-append-drop k (x ∷ s))) ∙ sym (append_assoc d (take k (x ∷ s)) rest) in
    ap (λ (j : Lexing). j.errors) (steps-one n e text i (not_empty x s))
    ∙ steps_told n e text (ts ++ token_at e (x ∷ s) ∷ []) (faults_at r ps es) (d ++ take k (x ∷ s)) rest more (omega (arith, back_short t.left x s, m)) few
    (back-utf8 t.left (x ∷ s) u) (behind_one ts d e x s)
    ∙ ap (λ (fs : Errors). fs ++ told n e (ts ++ token_at e (x ∷ s) ∷ []) (d ++ take k (x ∷ s)) rest) now
    ∙ append_assoc es (here e ts d (x ∷ s)) (told n e (ts ++ token_at e (x ∷ s) ∷ []) (d ++ take k (x ∷ s)) rest)
    ∙ ap (λ (fs : Errors). es ++ fs) (sym (told_more n e ts d x s))

-- ---- a text without errors

none_at : (r : TextRange) (ps : List Problem) → map (at_range r) ps ≡ [] → ps ≡ []
none_at r [] h = refl
none_at r (p ∷ ps) h = absurd (cc)

left_none : (xs ys : Errors) → xs ++ ys ≡ [] → xs ≡ []
left_none [] ys h = refl
left_none (x ∷ xs) ys h = absurd (cc)

right_none : (xs ys : Errors) → xs ++ ys ≡ [] → ys ≡ []
right_none [] ys h = h
right_none (x ∷ xs) ys h = absurd (cc)

silent_from : (n : ℕ) (e : Edition) (ts xs : Tokens) (d r s : List ℕ) → told n e xs r s ≡ [] → told n e ts d s ≡ []
unfolding told
silent_from n e ts xs d r [] h = told_none n e ts d
silent_from zero e ts xs d r (x ∷ s) h = refl
silent_from (suc n) e ts xs d r (x ∷ s) h =
    let t : span.Token = token_at e (x ∷ s) in
    let k : ℕ = size e (x ∷ s) in
    let both = sym (told_more n e xs r x s) ∙ h in
    let later : Errors = told n e (xs ++ t ∷ []) (r ++ take k (x ∷ s)) (rest_of e (x ∷ s)) in
    let first : wrong xs r (x ∷ s) (token_of e (x ∷ s)).check ≡ [] =
    none_at (between (length r) k) (wrong xs r (x ∷ s) (token_of e (x ∷ s)).check) (left_none (here e xs r (x ∷ s)) later both) in
    told_more n e ts d x s
    ∙ ap₂ (λ (ps : List Problem) (es : Errors). map (at_range (between (length d) k)) ps ++ es)
    (wrong_none ts xs d r (x ∷ s) (token_of e (x ∷ s)).check first)
    (silent_from n e (ts ++ t ∷ []) (xs ++ t ∷ []) (d ++ take k (x ∷ s)) (r ++ take k (x ∷ s)) (rest_of e (x ∷ s)) (right_none (here e xs r (x ∷ s)) later both))

-- a text has no error, whatever is before it
pub silent : (e : Edition) (ts xs : Tokens) (d r s : List ℕ) → all e xs r s ≡ [] → all e ts d s ≡ []
silent e ts xs d r s h = silent_from (length s) e ts xs d r s h

-- ---- where the errors are

abbrev pub Each : (LexError → Type 0) → Errors → Type 0
Each P [] = Unit {0}
Each P (f ∷ fs) = P f × Each P fs

pub each_append : (P : LexError → Type 0) (es fs : Errors) → Each P es → Each P fs → Each P (es ++ fs)
each_append P [] fs h k = k
each_append P (e ∷ es) fs h k = (h.0, each_append P es fs h.1 k)

pub each_more : (P Q : LexError → Type 0) (es : Errors) → ((f : LexError) → P f → Q f) → Each P es → Each Q es
each_more P Q [] g h = tt
each_more P Q (e ∷ es) g h = (g e h.0, each_more P Q es g h.1)

-- an error begins at or behind a byte, and ends behind it
pub record IsFrom (n : ℕ) (f : LexError) : Type 0 where
  pub begins : n ≤ f.range.start
  pub goes_on : n < f.range.end

each_at : (n k : ℕ) (ps : List Problem) → 0 < k → Each (IsFrom n) (map (at_range (between n k)) ps)
each_at n k [] h = tt
each_at n k (p ∷ ps) h = (record { begins = omega arith; goes_on = omega (arith, h) }, each_at n k ps h)

told_from : (n : ℕ) (e : Edition) (ts : Tokens) (d s : List ℕ) → Each (IsFrom (length d)) (told n e ts d s)
unfolding told
told_from n e ts d [] = subst (Each (IsFrom (length d))) (sym (told_none n e ts d)) tt
told_from zero e ts d (x ∷ s) = tt
told_from (suc n) e ts d (x ∷ s) =
    let k : ℕ = size e (x ∷ s) in
    let next : List ℕ = d ++ take k (x ∷ s) in
    let later : Errors = told n e (ts ++ token_at e (x ∷ s) ∷ []) next (rest_of e (x ∷ s)) in
    let longer : length d ≤ length next = omega (arith, length-append d (take k (x ∷ s))) in
    each_append (IsFrom (length d)) (here e ts d (x ∷ s)) later
    (each_at (length d) k (wrong ts d (x ∷ s) (token_of e (x ∷ s)).check) (size_some e x s))
    (each_more (IsFrom (length next)) (IsFrom (length d)) later (λ f h. record { begins = omega (arith, h.begins, longer); goes_on = omega (arith, h.goes_on, longer) })
    (told_from n e (ts ++ token_at e (x ∷ s) ∷ []) next (rest_of e (x ∷ s))))

pub all_from : (e : Edition) (ts : Tokens) (d s : List ℕ) → Each (IsFrom (length d)) (all e ts d s)
all_from e ts d s = told_from (length s) e ts d s

-- ---- a cut at a brace

-- an error ends at or before a byte
abbrev pub EndsBy : ℕ → LexError → Type 0
EndsBy n f = f.range.end ≤ n

-- the errors before a brace, whatever follows it; the tokens there are ps
pub record Before (e : Edition) (ts : Tokens) (d s : List ℕ) (b : ℕ) (u v : List ℕ) (ps : Tokens) : Type 0 where
  pub errors : Errors
  pub first : all e ts d (s ++ b ∷ u) ≡ errors ++ all e (ts ++ ps) (d ++ s) (b ∷ u)
  pub second : all e ts d (s ++ b ∷ v) ≡ errors ++ all e (ts ++ ps) (d ++ s) (b ∷ v)
  pub end : Each (EndsBy (length d + length s)) errors

each_end : (n k m : ℕ) (ps : List Problem) → n + k ≤ m → Each (EndsBy m) (map (at_range (between n k)) ps)
each_end n k m [] h = tt
each_end n k m (p ∷ ps) h = (h, each_end n k m ps h)

one_side : (e : Edition) (ts : Tokens) (d : List ℕ) (x : ℕ) (s : List ℕ) (b : ℕ) (y : List ℕ) (ps : Tokens) → IsBrace b → (i : Inside e (x ∷ s) b) → length (x ∷ s) + length y < 2 ^ 32 - 1 → (es : Errors)
    → all e (ts ++ i.token ∷ []) (d ++ take i.bytes (x ∷ s)) (drop i.bytes (x ∷ s) ++ b ∷ y)
    ≡ es ++ all e ((ts ++ i.token ∷ []) ++ ps) ((d ++ take i.bytes (x ∷ s)) ++ drop i.bytes (x ∷ s)) (b ∷ y)
    → all e ts d (x ∷ (s ++ b ∷ y))
    ≡ (map (at_range (between (length d) i.bytes)) (wrong ts d (x ∷ s) (token_of e (x ∷ s)).check) ++ es) ++ all e (ts ++ i.token ∷ ps) (d ++ x ∷ s) (b ∷ y)
one_side e ts d x s b y ps h i l es k =
    let f : Check = (token_of e (x ∷ s)).check in
    let cut = i.is_cut y l in
    let fits : FitsIn (x ∷ s) f = token_fits e x s (omega (arith, l)) in
    let same : wrong ts d (x ∷ (s ++ b ∷ y)) (token_of e (x ∷ (s ++ b ∷ y))).check ≡ wrong ts d (x ∷ s) f =
    ap (wrong ts d (x ∷ (s ++ b ∷ y))) (i.is_fault y l) ∙ wrong_same b h ts d (x ∷ s) y f fits in
    let first : Errors = map (at_range (between (length d) i.bytes)) (wrong ts d (x ∷ s) f) in
    let front : take (size e (x ∷ (s ++ b ∷ y))) (x ∷ (s ++ b ∷ y)) ≡ take i.bytes (x ∷ s) =
    ap (λ (j : ℕ). take j (x ∷ (s ++ b ∷ y))) cut ∙ take-append-le i.bytes (x ∷ s) (b ∷ y) i.few in
    let whole : (d ++ take i.bytes (x ∷ s)) ++ drop i.bytes (x ∷ s) ≡ d ++ x ∷ s =
    append_assoc d (take i.bytes (x ∷ s)) (drop i.bytes (x ∷ s)) ∙ ap (λ (z : List ℕ). d ++ z) (take-append-drop i.bytes (x ∷ s)) in
    all_more e ts d x (s ++ b ∷ y)
    ∙ ap₂ (λ (es fs : Errors). es ++ fs)
    (ap₂ (λ (j : ℕ) (qs : List Problem). map (at_range (between (length d) j)) qs) cut same)
    (ap₂ (λ (t : span.Token) (w : List ℕ). all e (ts ++ t ∷ []) (d ++ w) (rest_of e (x ∷ (s ++ b ∷ y)))) (i.is_first y l) front
    ∙ ap (all e (ts ++ i.token ∷ []) (d ++ take i.bytes (x ∷ s))) (i.is_rest y l) ∙ k
    ∙ ap₂ (λ (us : Tokens) (w : List ℕ). es ++ all e us w (b ∷ y)) (append_assoc ts (i.token ∷ []) ps) whole)
    ∙ sym (append_assoc first es (all e (ts ++ i.token ∷ ps) (d ++ x ∷ s) (b ∷ y)))

before_one : (e : Edition) (ts : Tokens) (d : List ℕ) (x : ℕ) (s : List ℕ) (b : ℕ) (u v : List ℕ) (t : span.Token) (ps us : Tokens) (n : ℕ) → IsBrace b
    → Inside e (x ∷ s) b ⊎ Beyond e (x ∷ s) b → length (x ∷ s) ≤ suc n → length (x ∷ s) + length u < 2 ^ 32 - 1 → length (x ∷ s) + length v < 2 ^ 32 - 1
    → tokens_within e (x ∷ (s ++ b ∷ u)) ≡ t ∷ (ps ++ us) → t.len + bytes_of ps ≡ length (x ∷ s)
    → ((rs : Tokens) (q : List ℕ) (r : List ℕ) → length r ≤ n → length r + length u < 2 ^ 32 - 1 → length r + length v < 2 ^ 32 - 1
    → tokens_within e (r ++ b ∷ u) ≡ ps ++ us → bytes_of ps ≡ length r → Before e rs q r b u v ps)
    → Before e ts d (x ∷ s) b u v (t ∷ ps)
before_one e ts d x s b u v t ps us n h (inr i) l lu lv is k next =
    let first : token_at e (x ∷ (s ++ b ∷ u)) ≡ t = head_same _ t _ (ps ++ us) (sym (within_more e x (s ++ b ∷ u)) ∙ is) in
    absurd (omega (arith, k, i.is_longer u lu, ap (λ (z : span.Token). z.len) first))
before_one e ts d x s b u v t ps us n h (inl i) l lu lv is k next =
    let r : List ℕ = drop i.bytes (x ∷ s) in
    let q : List ℕ = d ++ take i.bytes (x ∷ s) in
    let len : length r ≡ length (x ∷ s) - i.bytes = length-drop i.bytes (x ∷ s) in
    let q_len : length q ≡ length d + i.bytes = length-append d (take i.bytes (x ∷ s)) ∙ ap (λ (j : ℕ). length d + j) (take_long i.bytes (x ∷ s) i.few) in
    let both = sym (within_more e x (s ++ b ∷ u)) ∙ is in
    let first : i.token ≡ t = sym (i.is_first u lu) ∙ head_same _ t _ (ps ++ us) both in
    let same_len : t.len ≡ i.bytes = sym (ap (λ (z : span.Token). z.len) first) ∙ i.is_long in
    let behind : tokens_within e (r ++ b ∷ u) ≡ ps ++ us = ap (tokens_within e) (sym (i.is_rest u lu)) ∙ tail_same _ t _ (ps ++ us) both in
    let w : Before e (ts ++ i.token ∷ []) q r b u v ps =
    next (ts ++ i.token ∷ []) q r (omega (arith, len, i.some, i.few, l)) (omega (arith, len, lu)) (omega (arith, len, lv)) behind (omega (arith, len, same_len, k, i.few)) in
    let own : List Problem = wrong ts d (x ∷ s) (token_of e (x ∷ s)).check in
    let total : length q + length r ≡ length d + length (x ∷ s) = omega (arith, q_len, len, i.few) in
    subst (λ (z : span.Token). Before e ts d (x ∷ s) b u v (z ∷ ps)) first (record {
      errors = map (at_range (between (length d) i.bytes)) own ++ w.errors;
      first = one_side e ts d x s b u ps h i lu w.errors w.first;
      second = one_side e ts d x s b v ps h i lv w.errors w.second;
      end =
          each_append (EndsBy (length d + length (x ∷ s))) (map (at_range (between (length d) i.bytes)) own) w.errors
          (each_end (length d) i.bytes (length d + length (x ∷ s)) own (omega (arith, i.few)))
          (each_more (EndsBy (length q + length r)) (EndsBy (length d + length (x ∷ s))) w.errors (λ f j. omega (arith, j, total)) w.end);
    })

no_more : (e : Edition) (ts : Tokens) (d s : List ℕ) → all e ts d s ≡ [] ++ all e (ts ++ []) (d ++ []) s
no_more e ts d s = ap₂ (λ (rs : Tokens) (q : List ℕ). all e rs q s) (sym (append-nil ts)) (sym (append-nil d))

no_tokens : (e : Edition) (b : ℕ) (u : List ℕ) (ps us : Tokens) → tokens_within e (b ∷ u) ≡ ps ++ us → bytes_of ps ≡ 0 → ps ≡ []
no_tokens e b u [] us is k = refl
no_tokens e b u (t ∷ ps) us is k =
    let first : token_at e (b ∷ u) ≡ t = head_same (token_at e (b ∷ u)) t _ (ps ++ us) (sym (within_more e b u) ∙ is) in
    absurd (omega (arith, k, token_some e b u, ap (λ (r : span.Token). r.len) first))

pub before_brace : (n : ℕ) (e : Edition) (b : ℕ) → IsBrace b → (ts : Tokens) (d s u v : List ℕ) (ps us : Tokens) → length s ≤ n
    → length s + length u < 2 ^ 32 - 1 → length s + length v < 2 ^ 32 - 1 → tokens_within e (s ++ b ∷ u) ≡ ps ++ us → bytes_of ps ≡ length s
    → Before e ts d s b u v ps
before_brace n e b h ts d [] u v ps us l lu lv is k =
    subst (Before e ts d [] b u v) (sym (no_tokens e b u ps us is k)) (record { errors = []; first = no_more e ts d (b ∷ u); second = no_more e ts d (b ∷ v); end = tt })
before_brace zero e b h ts d (x ∷ s) u v ps us l lu lv is k = absurd (omega (arith, l))
before_brace (suc n) e b h ts d (x ∷ s) u v [] us l lu lv is k = absurd (omega (arith, k))
before_brace (suc n) e b h ts d (x ∷ s) u v (t ∷ ps) us l lu lv is k =
    before_one e ts d x s b u v t ps us n h (first_token e x s b h (omega (arith, lu))) l lu lv is k
    (λ rs q r m mu mv now len. before_brace n e b h rs q r u v ps us m mu mv now len)

-- ---- any cut

pub record Parted (e : Edition) (ts : Tokens) (d s : List ℕ) (ps : Tokens) : Type 0 where
  pub errors : Errors
  pub parts : all e ts d s ≡ errors ++ all e (ts ++ ps) (d ++ take (bytes_of ps) s) (drop (bytes_of ps) s)

parted_one : (e : Edition) (ts : Tokens) (d : List ℕ) (x : ℕ) (s : List ℕ) (t : span.Token) (ps us : Tokens) → length (x ∷ s) < 2 ^ 32 → tokens_within e (x ∷ s) ≡ t ∷ (ps ++ us)
    → ((rs : Tokens) (q r : List ℕ) → length r ≤ length s → tokens_within e r ≡ ps ++ us → Parted e rs q r ps)
    → Parted e ts d (x ∷ s) (t ∷ ps)
parted_one e ts d x s t ps us l is next =
    let n : ℕ = (token_of e (x ∷ s)).left in
    let k : ℕ = size e (x ∷ s) in
    let rest : List ℕ = rest_of e (x ∷ s) in
    let q : List ℕ = d ++ take k (x ∷ s) in
    let both = sym (within_more e x s) ∙ is in
    let first : token_at e (x ∷ s) ≡ t = head_same (token_at e (x ∷ s)) t _ (ps ++ us) both in
    let later : tokens_within e rest ≡ ps ++ us = tail_same (token_at e (x ∷ s)) t _ (ps ++ us) both in
    let len : k ≡ t.len = sym (sym (ap (λ (z : span.Token). z.len) first) ∙ first_bytes e x s l) in
    let w : Parted e (ts ++ t ∷ []) q rest ps = next (ts ++ t ∷ []) q rest (back_short n x s) later in
    let m : ℕ = bytes_of ps in
    let read : (d ++ take k (x ∷ s)) ++ take m rest ≡ d ++ take (t.len + m) (x ∷ s) =
    append_assoc d (take k (x ∷ s)) (take m rest)
    ∙ ap (λ (z : List ℕ). d ++ z) (sym (take-add k m (x ∷ s)) ∙ ap (λ (j : ℕ). take (j + m) (x ∷ s)) len) in
    record {
      errors = here e ts d (x ∷ s) ++ w.errors;
      parts =
          all_more e ts d x s ∙ ap (λ (z : span.Token). here e ts d (x ∷ s) ++ all e (ts ++ z ∷ []) q rest) first
          ∙ ap (λ (es : Errors). here e ts d (x ∷ s) ++ es) w.parts
          ∙ sym (append_assoc (here e ts d (x ∷ s)) w.errors (all e ((ts ++ t ∷ []) ++ ps) (q ++ take m rest) (drop m rest)))
          ∙ ap (λ (rs : Tokens). (here e ts d (x ∷ s) ++ w.errors) ++ all e rs (q ++ take m rest) (drop m rest)) (append_assoc ts (t ∷ []) ps)
          ∙ ap₂ (λ (w2 z : List ℕ). (here e ts d (x ∷ s) ++ w.errors) ++ all e (ts ++ t ∷ ps) w2 z) read
          (drop-drop m k (x ∷ s) ∙ ap (λ (j : ℕ). drop (j + m) (x ∷ s)) len);
    }

pub parted : (n : ℕ) (e : Edition) (ts : Tokens) (d s : List ℕ) (ps us : Tokens) → length s ≤ n → length s < 2 ^ 32 → tokens_within e s ≡ ps ++ us → Parted e ts d s ps
parted n e ts d s [] us m l is = record { errors = []; parts = no_more e ts d s }
parted n e ts d [] (t ∷ ps) us m l is = absurd (let bad : [] ≡ t ∷ (ps ++ us) = sym (within_empty e) ∙ is in cc)
parted zero e ts d (x ∷ s) (t ∷ ps) us m l is = absurd (omega (arith, m))
parted (suc n) e ts d (x ∷ s) (t ∷ ps) us m l is =
    parted_one e ts d x s t ps us l is (λ rs q r k now. parted n e rs q r ps us (omega (arith, k, m)) (omega (arith, k, l)) now)
