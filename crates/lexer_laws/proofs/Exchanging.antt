-- The errors of a text in which a piece was replaced, but for the message of a reserved prefix.
use Rattle.std.proofs.Common.{◌≡◌, ◌⊎◌, inl, inr, ℕ, zero, suc, ◌+◌, ◌-◌, ◌<◌, ◌≤◌, ◌^◌, Bool, true, false, ◌==◌, if◌then◌else◌, List, [], ◌∷◌, ◌++◌, length, drop, map, reverse, ap, ap₂, sym, ◌∙◌, refl, arith, append_assoc, append-nil, length-append, length-drop}
use Rattle.std.specs.Prelude.{IsUtf8}
use Rattle.std.proofs.Math.Seq.{drop-append_seam}
use Rattle.std.proofs.lemmas.Bool.Decides.{nat_tests}
use Rattle.std.proofs.lemmas.List.{drop-drop, map-append}
use Rattle.std.proofs.lemmas.Str.{IsUtf8-nil}
use Rattle.text_size.specs.declared.range.TextRange.{TextRange}
use Rattle.ras_front_end.specs.declared.edition.Edition.{Edition}
use Rattle.token_layout.specs.declared.span.Token as span
use Rattle.rust_lexer.specs.declared.lexer.LexError.{LexError}
use Rattle.rust_lexer.specs.declared.problem.Problem.{Problem}
use Rattle.rust_lexer.specs.declared.problem.Problem.TheVariants.{UnknownPrefix, UnknownPrefixBehindString}
use Rattle.rust_lexer.specs.declared.shape.Check.{Check}
use Rattle.rust_lexer.specs.declared.shape.Check.TheVariants.{No, Is, Prefix, Content}
use Rattle.rust_lexer.specs.declared.shape.Shape.{Shape}
use Rattle.rust_lexer.specs.Contents.{content_problems}
use Rattle.rust_lexer.specs.Cuts.{cut_of, front_of, back_of}
use Rattle.rust_lexer.specs.History.{is_behind_code_of}
use Rattle.rust_lexer.specs.Lexing.{Lexing, size_of, range_of, faults_at, content_of, problems_of, taken, steps_of, tokens_of}
use Rattle.rust_lexer.specs.Shapes.{plain_of}
use Rattle.rust_lexer.specs.Signs.{sign_kind_of}
use Rattle.rust_lexer.specs.Tokens.{token_of}
use Rattle.rust_lexer.proofs.Cutting.{cut-boundary}
use Rattle.rust_lexer.proofs.Steps.{steps-one, steps-stop}
use Rattle.lexer_laws.specs.Behind.{IsBrace, check_before}
use Rattle.lexer_laws.specs.Cuts.{tokens_within, bytes_of}
use Rattle.lexer_laws.specs.Errors.{one_message, with_one, moved_by, shown, shown_within, ErrorsExchanged}
use Rattle.lexer_laws.specs.Heads.{HasNoHead}
use Rattle.lexer_laws.specs.Pieces.{IsReplaced}
use Rattle.lexer_laws.proofs.Bracing.{Inside, Beyond, first_token, cut_one, brace_token}
use Rattle.lexer_laws.proofs.Cleaning.{content_same}
use Rattle.lexer_laws.proofs.Faults.{FitsIn, token_fits}
use Rattle.lexer_laws.proofs.Finding.{Replaced, replaced}
use Rattle.lexer_laws.proofs.Pieces.{IsPiece, piece_front, first_bytes}
use Rattle.lexer_laws.proofs.Stepping.{Tokens, head_same, tail_same, token_at, within_empty, within_more, back_length, back_short}

abbrev Errors : Type 0
Errors = List LexError

-- ---- the errors of one token

abbrev at_range : TextRange → Problem → LexError
at_range r p = record { problem = p; range = r }

-- what is wrong with a token, whatever precedes it
abbrev wrong : List ℕ → Check → List Problem
wrong s No = []
wrong s (Is p) = one_message p ∷ []
wrong s Prefix = UnknownPrefix ∷ []
wrong s (Content m before behind) = map one_message (content_problems m (content_of before behind s))

prefix_on : (b : Bool) → one_message (if b then UnknownPrefixBehindString else UnknownPrefix) ∷ [] ≡ UnknownPrefix ∷ []
prefix_on true = refl
prefix_on false = refl

wrong_is : (ts : Tokens) (text s : List ℕ) (f : Check) → map one_message (problems_of ts text s f) ≡ wrong s f
wrong_is ts text s No = refl
wrong_is ts text s (Is p) = refl
wrong_is ts text s Prefix = prefix_on (is_behind_code_of 5 (reverse ts) (front_of (length s) text))
wrong_is ts text s (Content m before behind) = refl

wrong_same : (b : ℕ) → IsBrace b → (s y : List ℕ) (f : Check) → FitsIn s f → wrong (s ++ b ∷ y) (check_before (suc (length y)) f) ≡ wrong s f
wrong_same b h s y No w = refl
wrong_same b h s y (Is p) w = refl
wrong_same b h s y Prefix w = refl
wrong_same b h s y (Content m n j) w = ap (λ (z : List ℕ). map one_message (content_problems m z)) (content_same n j b h s y w)

faults_list : (r : TextRange) (ps : List Problem) (es : Errors) → faults_at r ps es ≡ es ++ map (at_range r) ps
faults_list r [] es = sym (append-nil es)
faults_list r (p ∷ ps) es = faults_list r ps (es ++ at_range r p ∷ []) ∙ append_assoc es (at_range r p ∷ []) (map (at_range r) ps)

with_ones : (r : TextRange) (ps : List Problem) → map with_one (map (at_range r) ps) ≡ map (at_range r) (map one_message ps)
with_ones r [] = refl
with_ones r (p ∷ ps) = ap (λ (es : Errors). at_range r (one_message p) ∷ es) (with_ones r ps)

abbrev between : ℕ → ℕ → TextRange
between p k = record { start = p; end = p + k }

-- the errors of the first token of s, which is at the position p
abbrev here : Edition → ℕ → List ℕ → Errors
here e p s = map (at_range (between p (cut_of (token_of e s).left s))) (wrong s (token_of e s).check)

-- ---- the errors of a text

unfoldable found : ℕ → Edition → ℕ → List ℕ → Errors
found n e p [] = []
found zero e p (x ∷ s) = []
found (suc n) e p (x ∷ s) =
    here e p (x ∷ s) ++ found n e (p + cut_of (token_of e (x ∷ s)).left (x ∷ s)) (back_of (token_of e (x ∷ s)).left (x ∷ s))

found_zero : (e : Edition) (p m x : ℕ) (s : List ℕ) → map (moved_by m) (found 0 e p (x ∷ s)) ≡ found 0 e (p + m) (x ∷ s)
unfolding found
found_zero e p m x s = refl

found_none : (n : ℕ) (e : Edition) (p : ℕ) → found n e p [] ≡ []
unfolding found
found_none zero e p = refl
found_none (suc n) e p = refl

found_more : (n : ℕ) (e : Edition) (p x : ℕ) (s : List ℕ) → found (suc n) e p (x ∷ s)
    ≡ here e p (x ∷ s) ++ found n e (p + cut_of (token_of e (x ∷ s)).left (x ∷ s)) (back_of (token_of e (x ∷ s)).left (x ∷ s))
unfolding found
found_more n e p x s = refl

same_fuel : (n m : ℕ) (e : Edition) (p : ℕ) (s : List ℕ) → length s ≤ n → length s ≤ m → found n e p s ≡ found m e p s
same_fuel n m e p [] h k = found_none n e p ∙ sym (found_none m e p)
same_fuel zero m e p (x ∷ s) h k = absurd (omega (arith, h))
same_fuel (suc n) zero e p (x ∷ s) h k = absurd (omega (arith, k))
same_fuel (suc n) (suc m) e p (x ∷ s) h k =
    let l : ℕ = (token_of e (x ∷ s)).left in
    found_more n e p x s
    ∙ ap (λ (es : Errors). here e p (x ∷ s) ++ es)
    (same_fuel n m e (p + cut_of l (x ∷ s)) (back_of l (x ∷ s)) (omega (arith, back_short l x s, h)) (omega (arith, back_short l x s, k)))
    ∙ sym (found_more m e p x s)

abbrev all : Edition → ℕ → List ℕ → Errors
all e p s = found (length s) e p s

all_more : (e : Edition) (p x : ℕ) (s : List ℕ)
    → all e p (x ∷ s) ≡ here e p (x ∷ s) ++ all e (p + cut_of (token_of e (x ∷ s)).left (x ∷ s)) (back_of (token_of e (x ∷ s)).left (x ∷ s))
all_more e p x s =
    let l : ℕ = (token_of e (x ∷ s)).left in
    let rest : List ℕ = back_of l (x ∷ s) in
    found_more (length s) e p x s
    ∙ ap (λ (es : Errors). here e p (x ∷ s) ++ es) (same_fuel (length s) (length rest) e (p + cut_of l (x ∷ s)) rest (back_short l x s) (omega arith))

moved_list : (m : ℕ) (r t : TextRange) (ps : List Problem) → record { start = r.start + m; end = r.end + m } ≡ t → map (moved_by m) (map (at_range r) ps) ≡ map (at_range t) ps
moved_list m r t [] h = refl
moved_list m r t (p ∷ ps) h = ap₂ (λ (z : TextRange) (es : Errors). at_range z p ∷ es) h (moved_list m r t ps h)

found_moved : (n : ℕ) (e : Edition) (p m : ℕ) (s : List ℕ) → map (moved_by m) (found n e p s) ≡ found n e (p + m) s
found_moved n e p m [] = ap (map (moved_by m)) (found_none n e p) ∙ sym (found_none n e (p + m))
found_moved zero e p m (x ∷ s) = found_zero e p m x s
found_moved (suc n) e p m (x ∷ s) =
    let t : Shape = token_of e (x ∷ s) in
    let k : ℕ = cut_of t.left (x ∷ s) in
    let rest : List ℕ = back_of t.left (x ∷ s) in
    let end : p + k + m ≡ p + m + k = omega arith in
    ap (map (moved_by m)) (found_more n e p x s)
    ∙ map-append (moved_by m) (here e p (x ∷ s)) (found n e (p + k) rest)
    ∙ ap₂ (λ (es fs : Errors). es ++ fs)
    (moved_list m (between p k) (between (p + m) k) (wrong (x ∷ s) t.check) (ap (λ (j : ℕ). record { start = p + m; end = j }) end))
    (found_moved n e (p + k) m rest ∙ ap (λ (j : ℕ). found n e j rest) end)
    ∙ sym (found_more n e (p + m) x s)

not_empty : (x : ℕ) (s : List ℕ) → (length (x ∷ s) == 0) ≡ false
not_empty x s = grind (arith, nat_tests)

-- the lexer's errors are these, but for the message
steps_found : (n : ℕ) (e : Edition) (text : List ℕ) (ts : Tokens) (es : Errors) (s : List ℕ) → length s ≤ n → length s ≤ length text → length text < 2 ^ 32
    → map with_one (steps_of n e text (record { tokens = ts; errors = es; rest = s })).errors ≡ map with_one es ++ found n e (length text - length s) s
steps_found n e text ts es [] m l few =
    ap (λ (k : Lexing). map with_one k.errors) (steps-stop n e text (record { tokens = ts; errors = es; rest = [] }) refl)
    ∙ sym (ap (λ (fs : Errors). map with_one es ++ fs) (found_none n e (length text - 0)) ∙ append-nil (map with_one es))
steps_found zero e text ts es (x ∷ s) m l few = absurd (omega (arith, m))
steps_found (suc n) e text ts es (x ∷ s) m l few =
    let i : Lexing = record { tokens = ts; errors = es; rest = x ∷ s } in
    let t : Shape = token_of e (x ∷ s) in
    let k : ℕ = cut_of t.left (x ∷ s) in
    let rest : List ℕ = back_of t.left (x ∷ s) in
    let p : ℕ = length text - length (x ∷ s) in
    let fit : k ≤ length (x ∷ s) = (cut-boundary t.left (x ∷ s)).0 in
    let left : length rest ≡ length (x ∷ s) - k = back_length t.left (x ∷ s) in
    let r : TextRange = range_of (length text) (length (x ∷ s)) (length rest) in
    let ps : List Problem = problems_of ts text (x ∷ s) t.check in
    let next : Lexing = taken text t i in
    let later : length text - length rest ≡ p + k = omega (arith, left, fit, l) in
    let start : size_of (length text - length (x ∷ s)) ≡ p = omega (arith, few) in
    let end : size_of (length text - length rest) ≡ p + k = omega (arith, later, few) in
    let range : r ≡ between p k = ap₂ (λ (y z : ℕ). record { start = y; end = z }) start end in
    let now : map with_one (faults_at r ps es) ≡ map with_one es ++ here e p (x ∷ s) =
    ap (map with_one) (faults_list r ps es) ∙ map-append with_one es (map (at_range r) ps)
    ∙ ap (λ (fs : Errors). map with_one es ++ fs) (with_ones r ps ∙ ap₂ (λ (z : TextRange) (qs : List Problem). map (at_range z) qs) range (wrong_is ts text (x ∷ s) t.check)) in
    ap (λ (j : Lexing). map with_one j.errors) (steps-one n e text i (not_empty x s))
    ∙ steps_found n e text next.tokens next.errors rest (omega (arith, back_short t.left x s, m)) (omega (arith, left, l)) few
    ∙ ap₂ (λ (fs gs : Errors). fs ++ gs) now (ap (λ (j : ℕ). found n e j rest) later)
    ∙ append_assoc (map with_one es) (here e p (x ∷ s)) (found n e (p + k) rest)
    ∙ ap (λ (fs : Errors). map with_one es ++ fs) (sym (found_more n e p x s))

within_found : (e : Edition) (s : List ℕ) → length s < 2 ^ 32 → shown_within e s ≡ all e 0 s
within_found e s l =
    let none : length s - length s ≡ 0 = omega arith in
    steps_found (length s) e s [] [] s (omega arith) (omega arith) l ∙ ap (λ (p : ℕ). found (length s) e p s) none

shown_found : (e : Edition) (text : List ℕ) → HasNoHead e text → length text < 2 ^ 32 → shown e text ≡ all e 0 text
shown_found e text h l = ap (λ (k : Lexing). map with_one (steps_of (length text) e text k).errors) h ∙ within_found e text l

all_moved : (e : Edition) (m : ℕ) (s : List ℕ) → map (moved_by m) (all e 0 s) ≡ all e m s
all_moved e m s = let sum : 0 + m ≡ m = omega arith in found_moved (length s) e 0 m s ∙ ap (λ (p : ℕ). found (length s) e p s) sum

-- ---- a cut at a brace

-- the errors before a brace, whatever follows it
record Before (e : Edition) (p : ℕ) (s : List ℕ) (b : ℕ) (u v : List ℕ) : Type 0 where
  pub errors : Errors
  pub first : all e p (s ++ b ∷ u) ≡ errors ++ all e (p + length s) (b ∷ u)
  pub second : all e p (s ++ b ∷ v) ≡ errors ++ all e (p + length s) (b ∷ v)

one_side : (e : Edition) (p x : ℕ) (s : List ℕ) (b : ℕ) (y : List ℕ) → IsBrace b → (i : Inside e (x ∷ s) b) → length (x ∷ s) + length y < 2 ^ 32 - 1 → (es : Errors)
    → all e (p + i.bytes) (drop i.bytes (x ∷ s) ++ b ∷ y) ≡ es ++ all e (p + i.bytes + length (drop i.bytes (x ∷ s))) (b ∷ y)
    → all e p (x ∷ (s ++ b ∷ y)) ≡ (map (at_range (between p i.bytes)) (wrong (x ∷ s) (token_of e (x ∷ s)).check) ++ es) ++ all e (p + length (x ∷ s)) (b ∷ y)
one_side e p x s b y h i l es k =
    let f : Check = (token_of e (x ∷ s)).check in
    let cut = i.is_cut y l in
    let fits : FitsIn (x ∷ s) f = token_fits e x s (omega (arith, l)) in
    let same : wrong (x ∷ (s ++ b ∷ y)) (token_of e (x ∷ (s ++ b ∷ y))).check ≡ wrong (x ∷ s) f =
    ap (wrong (x ∷ (s ++ b ∷ y))) (i.is_fault y l) ∙ wrong_same b h (x ∷ s) y f fits in
    let first : Errors = map (at_range (between p i.bytes)) (wrong (x ∷ s) f) in
    let end : p + i.bytes + length (drop i.bytes (x ∷ s)) ≡ p + length (x ∷ s) = omega (arith, length-drop i.bytes (x ∷ s), i.few) in
    all_more e p x (s ++ b ∷ y)
    ∙ ap₂ (λ (es fs : Errors). es ++ fs)
    (ap₂ (λ (j : ℕ) (qs : List Problem). map (at_range (between p j)) qs) cut same)
    (ap₂ (λ (j : ℕ) (r : List ℕ). all e (p + j) r) cut (i.is_rest y l) ∙ k ∙ ap (λ (j : ℕ). es ++ all e j (b ∷ y)) end)
    ∙ sym (append_assoc first es (all e (p + length (x ∷ s)) (b ∷ y)))

before_one : (e : Edition) (p x : ℕ) (s : List ℕ) (b : ℕ) (u v : List ℕ) (t : span.Token) (ts us : Tokens) (n : ℕ) → IsBrace b
    → Inside e (x ∷ s) b ⊎ Beyond e (x ∷ s) b → length (x ∷ s) ≤ suc n → length (x ∷ s) + length u < 2 ^ 32 - 1 → length (x ∷ s) + length v < 2 ^ 32 - 1
    → tokens_within e (x ∷ (s ++ b ∷ u)) ≡ t ∷ (ts ++ us) → t.len + bytes_of ts ≡ length (x ∷ s)
    → ((q : ℕ) (r : List ℕ) → length r ≤ n → length r + length u < 2 ^ 32 - 1 → length r + length v < 2 ^ 32 - 1
    → tokens_within e (r ++ b ∷ u) ≡ ts ++ us → bytes_of ts ≡ length r → Before e q r b u v)
    → Before e p (x ∷ s) b u v
before_one e p x s b u v t ts us n h (inr i) l lu lv is k next =
    let first : token_at e (x ∷ (s ++ b ∷ u)) ≡ t = head_same _ t _ (ts ++ us) (sym (within_more e x (s ++ b ∷ u)) ∙ is) in
    absurd (omega (arith, k, i.is_longer u lu, ap (λ (z : span.Token). z.len) first))
before_one e p x s b u v t ts us n h (inl i) l lu lv is k next =
    let r : List ℕ = drop i.bytes (x ∷ s) in
    let len : length r ≡ length (x ∷ s) - i.bytes = length-drop i.bytes (x ∷ s) in
    let both = sym (within_more e x (s ++ b ∷ u)) ∙ is in
    let first : i.token ≡ t = sym (i.is_first u lu) ∙ head_same _ t _ (ts ++ us) both in
    let same_len : t.len ≡ i.bytes = sym (ap (λ (z : span.Token). z.len) first) ∙ i.is_long in
    let behind : tokens_within e (r ++ b ∷ u) ≡ ts ++ us = ap (tokens_within e) (sym (i.is_rest u lu)) ∙ tail_same _ t _ (ts ++ us) both in
    let w : Before e (p + i.bytes) r b u v =
    next (p + i.bytes) r (omega (arith, len, i.some, i.few, l)) (omega (arith, len, lu)) (omega (arith, len, lv)) behind (omega (arith, len, same_len, k, i.few)) in
    record {
      errors = map (at_range (between p i.bytes)) (wrong (x ∷ s) (token_of e (x ∷ s)).check) ++ w.errors;
      first = one_side e p x s b u h i lu w.errors w.first;
      second = one_side e p x s b v h i lv w.errors w.second;
    }

no_more : (e : Edition) (p : ℕ) (s : List ℕ) → all e p s ≡ [] ++ all e (p + 0) s
no_more e p s = let sum : p ≡ p + 0 = omega arith in ap (λ (q : ℕ). all e q s) sum

before_brace : (n : ℕ) (e : Edition) (b : ℕ) → IsBrace b → (p : ℕ) (s u v : List ℕ) (ts us : Tokens) → length s ≤ n
    → length s + length u < 2 ^ 32 - 1 → length s + length v < 2 ^ 32 - 1 → tokens_within e (s ++ b ∷ u) ≡ ts ++ us → bytes_of ts ≡ length s
    → Before e p s b u v
before_brace n e b h p [] u v ts us l lu lv is k = record { errors = []; first = no_more e p (b ∷ u); second = no_more e p (b ∷ v) }
before_brace zero e b h p (x ∷ s) u v ts us l lu lv is k = absurd (omega (arith, l))
before_brace (suc n) e b h p (x ∷ s) u v [] us l lu lv is k = absurd (omega (arith, k))
before_brace (suc n) e b h p (x ∷ s) u v (t ∷ ts) us l lu lv is k =
    before_one e p x s b u v t ts us n h (first_token e x s b h (omega (arith, lu))) l lu lv is k
    (λ q r m mu mv now len. before_brace n e b h q r u v ts us m mu mv now len)

-- ---- any cut

record Parted (e : Edition) (p : ℕ) (s : List ℕ) (n : ℕ) : Type 0 where
  pub errors : Errors
  pub parts : all e p s ≡ errors ++ all e (p + n) (drop n s)

parted_one : (e : Edition) (p x : ℕ) (s : List ℕ) (t : span.Token) (ts us : Tokens) → length (x ∷ s) < 2 ^ 32 → tokens_within e (x ∷ s) ≡ t ∷ (ts ++ us)
    → ((q : ℕ) (r : List ℕ) → length r ≤ length s → tokens_within e r ≡ ts ++ us → Parted e q r (bytes_of ts))
    → Parted e p (x ∷ s) (t.len + bytes_of ts)
parted_one e p x s t ts us l is next =
    let n : ℕ = (token_of e (x ∷ s)).left in
    let k : ℕ = cut_of n (x ∷ s) in
    let both = sym (within_more e x s) ∙ is in
    let first : token_at e (x ∷ s) ≡ t = head_same (token_at e (x ∷ s)) t _ (ts ++ us) both in
    let rest : tokens_within e (back_of n (x ∷ s)) ≡ ts ++ us = tail_same (token_at e (x ∷ s)) t _ (ts ++ us) both in
    let len : k ≡ t.len = sym (sym (ap (λ (z : span.Token). z.len) first) ∙ first_bytes e x s l) in
    let w : Parted e (p + k) (back_of n (x ∷ s)) (bytes_of ts) = next (p + k) (back_of n (x ∷ s)) (back_short n x s) rest in
    let sum : p + k + bytes_of ts ≡ p + (t.len + bytes_of ts) = omega (arith, len) in
    record {
      errors = here e p (x ∷ s) ++ w.errors;
      parts =
          all_more e p x s ∙ ap (λ (es : Errors). here e p (x ∷ s) ++ es) w.parts
          ∙ sym (append_assoc (here e p (x ∷ s)) w.errors (all e (p + k + bytes_of ts) (drop (bytes_of ts) (back_of n (x ∷ s)))))
          ∙ ap₂ (λ (q : ℕ) (r : List ℕ). (here e p (x ∷ s) ++ w.errors) ++ all e q r) sum
          (drop-drop (bytes_of ts) k (x ∷ s) ∙ ap (λ (j : ℕ). drop (j + bytes_of ts) (x ∷ s)) len);
    }

parted : (n : ℕ) (e : Edition) (p : ℕ) (s : List ℕ) (ts us : Tokens) → length s ≤ n → length s < 2 ^ 32 → tokens_within e s ≡ ts ++ us → Parted e p s (bytes_of ts)
parted n e p s [] us m l is = record { errors = []; parts = no_more e p s }
parted n e p [] (t ∷ ts) us m l is = absurd (let bad : [] ≡ t ∷ (ts ++ us) = sym (within_empty e) ∙ is in cc)
parted zero e p (x ∷ s) (t ∷ ts) us m l is = absurd (omega (arith, m))
parted (suc n) e p (x ∷ s) (t ∷ ts) us m l is =
    parted_one e p x s t ts us l is (λ q r k now. parted n e q r ts us (omega (arith, k, m)) (omega (arith, k, l)) now)

-- ---- pieces

behind_closing : (e : Edition) (p b : ℕ) (s : List ℕ) → IsBrace b → IsUtf8 s → all e p (b ∷ s) ≡ all e (p + 1) s
behind_closing e p b s h u =
    let sign : token_of e (b ∷ s) ≡ plain_of (sign_kind_of b) (length s) = brace_token e b s h in
    let cut : cut_of (token_of e (b ∷ s)).left (b ∷ s) ≡ 1 = ap (λ (t : Shape). cut_of t.left (b ∷ s)) sign ∙ cut_one b s u in
    all_more e p b s
    ∙ ap (λ (f : Check). map (at_range (between p (cut_of (token_of e (b ∷ s)).left (b ∷ s)))) (wrong (b ∷ s) f)
    ++ all e (p + cut_of (token_of e (b ∷ s)).left (b ∷ s)) (back_of (token_of e (b ∷ s)).left (b ∷ s))) (ap (λ (t : Shape). t.check) sign)
    ∙ ap (λ (j : ℕ). all e (p + j) (drop j (b ∷ s))) cut

piece_errors : (e : Edition) (p : ℕ) (piece c : List ℕ) (ts : Tokens) → IsPiece e piece ts → IsUtf8 [] → IsUtf8 c → length piece + length c < 2 ^ 32
    → all e p (piece ++ c) ≡ all e p piece ++ all e (p + length piece) c
piece_errors e p piece c ts w none u l =
    let s : List ℕ = 123 ∷ w.inner in
    let len : length piece ≡ length s + 1 = ap length w.parts ∙ length-append s (125 ∷ []) in
    let is : tokens_within e (s ++ 125 ∷ []) ≡ w.front ++ w.close ∷ [] = ap (tokens_within e) (sym w.parts) ∙ w.are_tokens ∙ w.closed in
    let cut : bytes_of w.front ≡ length s = piece_front e piece ts w (omega (arith, l)) in
    let b : Before e p s 125 [] c =
    before_brace (length s) e 125 (inr refl) p s [] c w.front (w.close ∷ []) (omega arith) (omega (arith, len, l)) (omega (arith, len, l)) is cut in
    let end : p + length s + 1 ≡ p + length piece = omega (arith, len) in
    let alone : all e p piece ≡ b.errors =
    ap (all e p) w.parts ∙ b.first
    ∙ ap (λ (es : Errors). b.errors ++ es) (behind_closing e (p + length s) 125 [] (inr refl) none ∙ found_none 0 e (p + length s + 1)) ∙ append-nil b.errors in
    ap (λ (t : List ℕ). all e p (t ++ c)) w.parts ∙ ap (all e p) (append_assoc s (125 ∷ []) c) ∙ b.second
    ∙ ap₂ (λ (es fs : Errors). es ++ fs) (sym alone) (behind_closing e (p + length s) 125 c (inr refl) u ∙ ap (λ (q : ℕ). all e q c) end)

pub errors_exchanged : (e : Edition) (a part piece c : List ℕ) (ts ps us : Tokens) → IsReplaced e a part piece c ts ps us → ErrorsExchanged e a part piece c
errors_exchanged e a part piece c ts ps us r =
    let w : Replaced e a part piece c ts ps us = replaced e a part piece c ts ps us r in
    let p : IsPiece e piece (tokens_of e piece) = w.is_piece in
    let inner : List ℕ = p.inner ++ 125 ∷ [] in
    let part_len : length part ≡ suc (length (drop 1 part)) = ap length w.opens in
    let piece_len : length piece ≡ suc (length inner) = ap length p.parts in
    let opened : a ++ (part ++ c) ≡ a ++ 123 ∷ (drop 1 part ++ c) = ap (λ (t : List ℕ). a ++ (t ++ c)) w.opens in
    let replaced_text : a ++ (piece ++ c) ≡ a ++ 123 ∷ (inner ++ c) = ap (λ (t : List ℕ). a ++ (t ++ c)) p.parts in
    let b : Before e 0 a 123 (drop 1 part ++ c) (inner ++ c) =
    before_brace (length a) e 123 (inl refl) 0 a (drop 1 part ++ c) (inner ++ c) ts (ps ++ us) (omega arith)
    (omega (arith, length-append (drop 1 part) c, part_len, w.short)) (omega (arith, length-append inner c, piece_len, w.new_short))
    (ap (tokens_within e) (sym opened) ∙ w.within) r.cut_before in
    let zero_a : 0 + length a ≡ length a = omega arith in
    let rest_len : length (part ++ c) ≡ length part + length c = length-append part c in
    let rest_tokens : tokens_within e (part ++ c) ≡ ps ++ us = w.rest in
    let d : Parted e 0 (part ++ c) (bytes_of ps) = parted (length (part ++ c)) e 0 (part ++ c) ps us (omega arith) (omega (arith, rest_len, w.short)) rest_tokens in
    let zero_p : 0 + bytes_of ps ≡ length part = omega (arith, r.cut_behind) in
    record {
      before = b.errors;
      own = d.errors;
      old_errors =
          shown_found e (a ++ (part ++ c)) w.plain r.short ∙ ap (all e 0) opened ∙ b.first
          ∙ ap (λ (es : Errors). b.errors ++ es) (
          ap (λ (q : ℕ). all e q (123 ∷ (drop 1 part ++ c))) zero_a ∙ ap (λ (t : List ℕ). all e (length a) (t ++ c)) (sym w.opens)
          ∙ sym (all_moved e (length a) (part ++ c)) ∙ ap (map (moved_by (length a))) (sym (within_found e (part ++ c) (omega (arith, rest_len, w.short))))
          );
      part_errors =
          within_found e (part ++ c) (omega (arith, rest_len, w.short)) ∙ d.parts
          ∙ ap (λ (es : Errors). d.errors ++ es) (
          ap₂ (λ (q : ℕ) (t : List ℕ). all e q t) zero_p (ap (λ (j : ℕ). drop j (part ++ c)) r.cut_behind ∙ drop-append_seam part c)
          ∙ sym (all_moved e (length part) c) ∙ ap (map (moved_by (length part))) (sym (within_found e c (omega (arith, w.short))))
          );
      new_errors =
          shown_found e (a ++ (piece ++ c)) w.new_plain r.new_short ∙ ap (all e 0) replaced_text ∙ b.second
          ∙ ap (λ (es : Errors). b.errors ++ es) (
          ap (λ (q : ℕ). all e q (123 ∷ (inner ++ c))) zero_a ∙ ap (λ (t : List ℕ). all e (length a) (t ++ c)) (sym p.parts)
          ∙ piece_errors e (length a) piece c (tokens_of e piece) p IsUtf8-nil r.is_rest_text (omega (arith, w.new_short))
          ∙ ap₂ (λ (es fs : Errors). es ++ fs)
          (sym (all_moved e (length a) piece) ∙ ap (map (moved_by (length a))) (sym (shown_found e piece w.piece_plain (omega (arith, w.new_short)))))
          (sym (all_moved e (length a + length piece) c) ∙ ap (map (moved_by (length a + length piece))) (sym (within_found e c (omega (arith, w.new_short)))))
          );
    }
