-- Texts without errors that are cut at a brace.
use Rattle.std.proofs.Common.{◌≡◌, ◌⊎◌, inl, inr, ℕ, zero, suc, ◌+◌, ◌-◌, ◌<◌, ◌≤◌, ◌^◌, true, false, ◌==◌, List, [], ◌∷◌, ◌++◌, length, drop, ap, ap₂, sym, ◌∙◌, refl, arith, subst, append_assoc, append-nil, length-append, length-drop}
use Rattle.std.specs.Prelude.{IsUtf8}
use Rattle.std.proofs.Math.Seq.{drop-append_seam}
use Rattle.std.proofs.lemmas.Bool.{cases_Bool}
use Rattle.std.proofs.lemmas.Bool.Decides.{nat_tests}
use Rattle.std.proofs.lemmas.List.{drop-drop}
use Rattle.text_size.specs.declared.range.TextRange.{TextRange}
use Rattle.ras_front_end.specs.declared.edition.Edition.{Edition}
use Rattle.token_layout.specs.declared.span.Token as span
use Rattle.rust_lexer.specs.declared.lexer.LexError.{LexError}
use Rattle.rust_lexer.specs.declared.problem.Problem.{Problem}
use Rattle.rust_lexer.specs.declared.shape.Check.{Check}
use Rattle.rust_lexer.specs.declared.shape.Check.TheVariants.{No, Is, Prefix, Content}
use Rattle.rust_lexer.specs.declared.shape.Shape.{Shape}
use Rattle.rust_lexer.specs.Contents.{content_problems}
use Rattle.rust_lexer.specs.Cuts.{cut_of, back_of}
use Rattle.rust_lexer.specs.Lexing.{Lexing, range_of, faults_at, content_of, problems_of, taken, steps_of, tokens_of, errors_of}
use Rattle.rust_lexer.specs.Shapes.{plain_of}
use Rattle.rust_lexer.specs.Signs.{sign_kind_of}
use Rattle.rust_lexer.specs.Tokens.{token_of}
use Rattle.rust_lexer.proofs.Steps.{steps-one, steps-stop, steps-end}
use Rattle.lexer_laws.specs.Behind.{IsBrace, check_before}
use Rattle.lexer_laws.specs.Cuts.{tokens_within, bytes_of}
use Rattle.lexer_laws.specs.Heads.{HasNoHead}
use Rattle.lexer_laws.specs.Pieces.{IsReplaced}
use Rattle.lexer_laws.proofs.Bracing.{Inside, Beyond, first_token, cut_one, brace_token}
use Rattle.lexer_laws.proofs.Faults.{FitsIn, token_fits}
use Rattle.lexer_laws.proofs.Finding.{Replaced, replaced}
use Rattle.lexer_laws.proofs.Pieces.{IsPiece, piece_front, bytes_append, first_bytes}
use Rattle.lexer_laws.proofs.Stepping.{Tokens, head_same, tail_same, token_at, within_empty, within_more, back_short}
use Rattle.lexer_laws.proofs.Words.{is_whole, front_same}

-- ---- tokens without a problem

-- nothing is wrong with a token at the front of s that has the check
abbrev Fine : List ℕ → Check → Type 0
Fine s No = Unit {0}
Fine s (Is p) = ⊥
Fine s Prefix = ⊥
Fine s (Content m before behind) = content_problems m (content_of before behind s) ≡ []

fine_problems : (ts : Tokens) (text s : List ℕ) (f : Check) → Fine s f → problems_of ts text s f ≡ []
fine_problems ts text s No h = refl
fine_problems ts text s (Is p) h = absurd h
fine_problems ts text s Prefix h = absurd h
fine_problems ts text s (Content m before behind) h = h

problems_fine : (ts : Tokens) (text s : List ℕ) (f : Check) → problems_of ts text s f ≡ [] → Fine s f
problems_fine ts text s No h = tt
problems_fine ts text s (Is p) h = absurd (cc)
problems_fine ts text s Prefix h = absurd (cc)
problems_fine ts text s (Content m before behind) h = h

pub content_same : (k j b : ℕ) → IsBrace b → (s y : List ℕ) → is_whole j s ≡ false → content_of k (j + suc (length y)) (s ++ b ∷ y) ≡ content_of k j s
content_same k j b h s y w = ap (λ (z : List ℕ). back_of (length z - k) z) (front_same j b h s y w)

fine_without : (b : ℕ) → IsBrace b → (s y : List ℕ) (f : Check) → FitsIn s f → Fine (s ++ b ∷ y) (check_before (suc (length y)) f) → Fine s f
fine_without b h s y No w k = tt
fine_without b h s y (Is p) w k = k
fine_without b h s y Prefix w k = k
fine_without b h s y (Content m n j) w k = ap (content_problems m) (sym (content_same n j b h s y w)) ∙ k

fine_with : (b : ℕ) → IsBrace b → (s y : List ℕ) (f : Check) → FitsIn s f → Fine s f → Fine (s ++ b ∷ y) (check_before (suc (length y)) f)
fine_with b h s y No w k = tt
fine_with b h s y (Is p) w k = k
fine_with b h s y Prefix w k = k
fine_with b h s y (Content m n j) w k = ap (content_problems m) (content_same n j b h s y w) ∙ k

-- no token of the text has a problem
data Clean : Edition → List ℕ → Type 0 where
  none : (e : Edition) → Clean e []
  more : (e : Edition) (x : ℕ) (s : List ℕ) → Fine (x ∷ s) (token_of e (x ∷ s)).check → Clean e (back_of (token_of e (x ∷ s)).left (x ∷ s)) → Clean e (x ∷ s)

first_fine : (e : Edition) (x : ℕ) (s : List ℕ) → Clean e (x ∷ s) → Fine (x ∷ s) (token_of e (x ∷ s)).check
first_fine _ _ _ (more e x s h k) = h

rest_clean : (e : Edition) (x : ℕ) (s : List ℕ) → Clean e (x ∷ s) → Clean e (back_of (token_of e (x ∷ s)).left (x ∷ s))
rest_clean _ _ _ (more e x s h k) = k

-- ---- errors

faults_append : (r : TextRange) (ps : List Problem) (es : List LexError) → faults_at r ps es ≡ es ++ faults_at r ps []
faults_append r [] es = sym (append-nil es)
faults_append r (p ∷ ps) es =
    let x : LexError = record { problem = p; range = r } in
    faults_append r ps (es ++ x ∷ []) ∙ append_assoc es (x ∷ []) (faults_at r ps []) ∙ ap (λ (fs : List LexError). es ++ fs) (sym (faults_append r ps (x ∷ [])))

left_none : (xs ys : List LexError) → xs ++ ys ≡ [] → xs ≡ []
left_none [] ys h = refl
left_none (x ∷ xs) ys h = absurd (cc)

right_none : (xs ys : List LexError) → xs ++ ys ≡ [] → ys ≡ []
right_none [] ys h = h
right_none (x ∷ xs) ys h = absurd (cc)

no_problem : (r : TextRange) (ps : List Problem) (es : List LexError) → faults_at r ps es ≡ [] → ps ≡ []
no_problem r [] es h = refl
no_problem r (p ∷ ps) es h =
    let x : LexError = record { problem = p; range = r } in
    let bad : es ++ x ∷ [] ≡ [] = left_none (es ++ x ∷ []) (faults_at r ps []) (sym (faults_append r ps (es ++ x ∷ [])) ∙ h) in
    absurd (let worse : x ∷ [] ≡ [] = right_none es (x ∷ []) bad in cc)

record Grown (es fs : List LexError) : Type 0 where
  more : List LexError
  is : fs ≡ es ++ more

step_grown : (n : ℕ) (e : Edition) (text : List ℕ) (l : Lexing) → ((k : Lexing) → Grown k.errors (steps_of n e text k).errors)
    → ((length l.rest == 0) ≡ true) ⊎ ((length l.rest == 0) ≡ false) → Grown l.errors (steps_of (suc n) e text l).errors
step_grown n e text l f (inl h) = record { more = []; is = ap (λ (k : Lexing). k.errors) (steps-stop (suc n) e text l h) ∙ sym (append-nil l.errors) }
step_grown n e text l f (inr h) =
    let t : Shape = token_of e l.rest in
    let r : TextRange = range_of (length text) (length l.rest) (length (back_of t.left l.rest)) in
    let ps : List Problem = problems_of l.tokens text l.rest t.check in
    let g = f (taken text t l) in
    record {
      more = faults_at r ps [] ++ g.more;
      is =
          ap (λ (k : Lexing). k.errors) (steps-one n e text l h) ∙ g.is ∙ ap (λ (es : List LexError). es ++ g.more) (faults_append r ps l.errors)
          ∙ append_assoc l.errors (faults_at r ps []) g.more;
    }

grown : (n : ℕ) (e : Edition) (text : List ℕ) (l : Lexing) → Grown l.errors (steps_of n e text l).errors
grown zero e text l = record { more = []; is = ap (λ (k : Lexing). k.errors) (steps-end 0 e text l refl) ∙ sym (append-nil l.errors) }
grown (suc n) e text l = step_grown n e text l (λ k. grown n e text k) (cases_Bool (length l.rest == 0))

not_empty : (x : ℕ) (s : List ℕ) → (length (x ∷ s) == 0) ≡ false
not_empty x s = grind (arith, nat_tests)

-- a text whose tokens give no error is clean
errors_clean : (n : ℕ) (e : Edition) (text : List ℕ) (ts : Tokens) (es : List LexError) (s : List ℕ) → length s ≤ n
    → (steps_of n e text (record { tokens = ts; errors = es; rest = s })).errors ≡ [] → Clean e s
errors_clean n e text ts es [] m h = none e
errors_clean zero e text ts es (x ∷ s) m h = absurd (omega (arith, m))
errors_clean (suc n) e text ts es (x ∷ s) m h =
    let l : Lexing = record { tokens = ts; errors = es; rest = x ∷ s } in
    let t : Shape = token_of e (x ∷ s) in
    let r : TextRange = range_of (length text) (length (x ∷ s)) (length (back_of t.left (x ∷ s))) in
    let ps : List Problem = problems_of ts text (x ∷ s) t.check in
    let next : Lexing = taken text t l in
    let later : (steps_of n e text next).errors ≡ [] = sym (ap (λ (k : Lexing). k.errors) (steps-one n e text l (not_empty x s))) ∙ h in
    let g = grown n e text next in
    let now : faults_at r ps es ≡ [] = left_none (faults_at r ps es) g.more (sym g.is ∙ later) in
    more e x s (problems_fine ts text (x ∷ s) t.check (no_problem r ps es now))
    (errors_clean n e text next.tokens next.errors (back_of t.left (x ∷ s)) (omega (arith, back_short t.left x s, m)) later)

-- a clean text gives no error
clean_errors : (n : ℕ) (e : Edition) (text : List ℕ) (ts : Tokens) (es : List LexError) (s : List ℕ) → length s ≤ n → Clean e s
    → (steps_of n e text (record { tokens = ts; errors = es; rest = s })).errors ≡ es
clean_errors n e text ts es [] m c = ap (λ (k : Lexing). k.errors) (steps-stop n e text (record { tokens = ts; errors = es; rest = [] }) refl)
clean_errors zero e text ts es (x ∷ s) m c = absurd (omega (arith, m))
clean_errors (suc n) e text ts es (x ∷ s) m c =
    let l : Lexing = record { tokens = ts; errors = es; rest = x ∷ s } in
    let t : Shape = token_of e (x ∷ s) in
    let r : TextRange = range_of (length text) (length (x ∷ s)) (length (back_of t.left (x ∷ s))) in
    let next : Lexing = taken text t l in
    ap (λ (k : Lexing). k.errors) (steps-one n e text l (not_empty x s))
    ∙ clean_errors n e text next.tokens next.errors (back_of t.left (x ∷ s)) (omega (arith, back_short t.left x s, m)) (rest_clean e x s c)
    ∙ ap (λ (ps : List Problem). faults_at r ps es) (fine_problems ts text (x ∷ s) t.check (first_fine e x s c))

-- ---- a cut at a brace

clean_inside : (e : Edition) (x : ℕ) (s : List ℕ) (b : ℕ) (u v : List ℕ) (t : span.Token) (ts us : Tokens) (n : ℕ) → IsBrace b
    → Inside e (x ∷ s) b → length (x ∷ s) ≤ suc n → length (x ∷ s) + length u < 2 ^ 32 - 1 → length (x ∷ s) + length v < 2 ^ 32 - 1
    → tokens_within e (x ∷ (s ++ b ∷ u)) ≡ t ∷ (ts ++ us) → t.len + bytes_of ts ≡ length (x ∷ s) → Clean e (x ∷ (s ++ b ∷ u))
    → ((r : List ℕ) → length r ≤ n → length r + length u < 2 ^ 32 - 1 → length r + length v < 2 ^ 32 - 1
    → tokens_within e (r ++ b ∷ u) ≡ ts ++ us → bytes_of ts ≡ length r → Clean e (r ++ b ∷ u) → Clean e (r ++ b ∷ v))
    → Clean e (x ∷ (s ++ b ∷ v))
clean_inside e x s b u v t ts us n h i l lu lv is k c next =
    let r : List ℕ = drop i.bytes (x ∷ s) in
    let len : length r ≡ length (x ∷ s) - i.bytes = length-drop i.bytes (x ∷ s) in
    let both = sym (within_more e x (s ++ b ∷ u)) ∙ is in
    let first : i.token ≡ t = sym (i.is_first u lu) ∙ head_same _ t _ (ts ++ us) both in
    let same_len : t.len ≡ i.bytes = sym (ap (λ (z : span.Token). z.len) first) ∙ i.is_long in
    let behind : tokens_within e (r ++ b ∷ u) ≡ ts ++ us = ap (tokens_within e) (sym (i.is_rest u lu)) ∙ tail_same _ t _ (ts ++ us) both in
    let f : Check = (token_of e (x ∷ s)).check in
    let fits : FitsIn (x ∷ s) f = token_fits e x s (omega (arith, lu)) in
    let old : Fine (x ∷ (s ++ b ∷ u)) (check_before (suc (length u)) f) = subst (Fine (x ∷ (s ++ b ∷ u))) (i.is_fault u lu) (first_fine e x (s ++ b ∷ u) c) in
    let new : Fine (x ∷ (s ++ b ∷ v)) (check_before (suc (length v)) f) = fine_with b h (x ∷ s) v f fits (fine_without b h (x ∷ s) u f fits old) in
    let rest : Clean e (r ++ b ∷ v) =
    next r (omega (arith, len, i.some, i.few, l)) (omega (arith, len, lu)) (omega (arith, len, lv)) behind (omega (arith, len, same_len, k, i.few))
    (subst (Clean e) (i.is_rest u lu) (rest_clean e x (s ++ b ∷ u) c)) in
    more e x (s ++ b ∷ v) (subst (Fine (x ∷ (s ++ b ∷ v))) (sym (i.is_fault v lv)) new) (subst (Clean e) (sym (i.is_rest v lv)) rest)

clean_one : (e : Edition) (x : ℕ) (s : List ℕ) (b : ℕ) (u v : List ℕ) (t : span.Token) (ts us : Tokens) (n : ℕ) → IsBrace b
    → Inside e (x ∷ s) b ⊎ Beyond e (x ∷ s) b → length (x ∷ s) ≤ suc n → length (x ∷ s) + length u < 2 ^ 32 - 1 → length (x ∷ s) + length v < 2 ^ 32 - 1
    → tokens_within e (x ∷ (s ++ b ∷ u)) ≡ t ∷ (ts ++ us) → t.len + bytes_of ts ≡ length (x ∷ s) → Clean e (x ∷ (s ++ b ∷ u))
    → ((r : List ℕ) → length r ≤ n → length r + length u < 2 ^ 32 - 1 → length r + length v < 2 ^ 32 - 1
    → tokens_within e (r ++ b ∷ u) ≡ ts ++ us → bytes_of ts ≡ length r → Clean e (r ++ b ∷ u) → Clean e (r ++ b ∷ v))
    → Clean e (x ∷ (s ++ b ∷ v))
clean_one e x s b u v t ts us n h (inl i) l lu lv is k c next = clean_inside e x s b u v t ts us n h i l lu lv is k c next
clean_one e x s b u v t ts us n h (inr i) l lu lv is k c next =
    let first : token_at e (x ∷ (s ++ b ∷ u)) ≡ t = head_same _ t _ (ts ++ us) (sym (within_more e x (s ++ b ∷ u)) ∙ is) in
    absurd (omega (arith, k, i.is_longer u lu, ap (λ (z : span.Token). z.len) first))

-- what follows a brace does not matter for what is before it
clean_before : (n : ℕ) (e : Edition) (b : ℕ) → IsBrace b → (s u v : List ℕ) (ts us : Tokens) → length s ≤ n
    → length s + length u < 2 ^ 32 - 1 → length s + length v < 2 ^ 32 - 1 → tokens_within e (s ++ b ∷ u) ≡ ts ++ us → bytes_of ts ≡ length s
    → Clean e (b ∷ v) → Clean e (s ++ b ∷ u) → Clean e (s ++ b ∷ v)
clean_before n e b h [] u v ts us l lu lv is k d c = d
clean_before zero e b h (x ∷ s) u v ts us l lu lv is k d c = absurd (omega (arith, l))
clean_before (suc n) e b h (x ∷ s) u v [] us l lu lv is k d c = absurd (omega (arith, k))
clean_before (suc n) e b h (x ∷ s) u v (t ∷ ts) us l lu lv is k d c =
    clean_one e x s b u v t ts us n h (first_token e x s b h (omega (arith, lu))) l lu lv is k c
    (λ r m mu mv now len f. clean_before n e b h r u v ts us m mu mv now len d f)

clean_first : (e : Edition) (x : ℕ) (s : List ℕ) (t : span.Token) (ts us : Tokens) → length (x ∷ s) < 2 ^ 32 → tokens_within e (x ∷ s) ≡ t ∷ (ts ++ us) → Clean e (x ∷ s)
    → ((r : List ℕ) → length r ≤ length s → tokens_within e r ≡ ts ++ us → Clean e r → Clean e (drop (bytes_of ts) r))
    → Clean e (drop (t.len + bytes_of ts) (x ∷ s))
clean_first e x s t ts us l is c next =
    let n : ℕ = (token_of e (x ∷ s)).left in
    let k : ℕ = cut_of n (x ∷ s) in
    let both = sym (within_more e x s) ∙ is in
    let first : token_at e (x ∷ s) ≡ t = head_same (token_at e (x ∷ s)) t _ (ts ++ us) both in
    let rest : tokens_within e (back_of n (x ∷ s)) ≡ ts ++ us = tail_same (token_at e (x ∷ s)) t _ (ts ++ us) both in
    let len : t.len ≡ k = sym (ap (λ (z : span.Token). z.len) first) ∙ first_bytes e x s l in
    subst (Clean e) (drop-drop (bytes_of ts) k (x ∷ s) ∙ ap (λ (j : ℕ). drop (j + bytes_of ts) (x ∷ s)) (sym len))
    (next (back_of n (x ∷ s)) (back_short n x s) rest (rest_clean e x s c))

-- what is behind a cut
clean_behind : (n : ℕ) (e : Edition) (s : List ℕ) (ts us : Tokens) → length s ≤ n → length s < 2 ^ 32 → tokens_within e s ≡ ts ++ us → Clean e s → Clean e (drop (bytes_of ts) s)
clean_behind n e s [] us m l is c = c
clean_behind n e [] (t ∷ ts) us m l is c = absurd (let bad : [] ≡ t ∷ (ts ++ us) = sym (within_empty e) ∙ is in cc)
clean_behind zero e (x ∷ s) (t ∷ ts) us m l is c = absurd (omega (arith, m))
clean_behind (suc n) e (x ∷ s) (t ∷ ts) us m l is c =
    clean_first e x s t ts us l is c (λ r k now d. clean_behind n e r ts us (omega (arith, k, m)) (omega (arith, k, l)) now d)

brace_clean : (e : Edition) (b : ℕ) (s : List ℕ) → IsBrace b → IsUtf8 s → Clean e s → Clean e (b ∷ s)
brace_clean e b s h u c =
    let sign : token_of e (b ∷ s) ≡ plain_of (sign_kind_of b) (length s) = brace_token e b s h in
    let cut : cut_of (token_of e (b ∷ s)).left (b ∷ s) ≡ 1 = ap (λ (t : Shape). cut_of t.left (b ∷ s)) sign ∙ cut_one b s u in
    more e b s (subst (λ (t : Shape). Fine (b ∷ s) t.check) (sym sign) tt) (subst (λ (j : ℕ). Clean e (drop j (b ∷ s))) (sym cut) c)

-- ---- replaced pieces

no_errors : (e : Edition) (text : List ℕ) → HasNoHead e text → errors_of e text ≡ [] → Clean e text
no_errors e text h k =
    errors_clean (length text) e text [] [] text (omega arith) (sym (ap (λ (l : Lexing). (steps_of (length text) e text l).errors) h) ∙ k)

still_none : (e : Edition) (text : List ℕ) → HasNoHead e text → Clean e text → errors_of e text ≡ []
still_none e text h c = ap (λ (l : Lexing). (steps_of (length text) e text l).errors) h ∙ clean_errors (length text) e text [] [] text (omega arith) c

pub errors_stay_none : (e : Edition) (a part piece c : List ℕ) (ts ps us : Tokens) → IsReplaced e a part piece c ts ps us
    → errors_of e (a ++ (part ++ c)) ≡ [] → errors_of e piece ≡ [] → errors_of e (a ++ (piece ++ c)) ≡ []
errors_stay_none e a part piece c ts ps us r old new =
    let w : Replaced e a part piece c ts ps us = replaced e a part piece c ts ps us r in
    let p : IsPiece e piece (tokens_of e piece) = w.is_piece in
    let s : List ℕ = 123 ∷ p.inner in
    let inner : List ℕ = p.inner ++ 125 ∷ [] in
    let text : List ℕ = a ++ (part ++ c) in
    let text_len : length text ≡ length a + (length part + length c) = length-append a (part ++ c) ∙ ap (λ (n : ℕ). length a + n) (length-append part c) in
    let new_len : length (a ++ (piece ++ c)) ≡ length a + (length piece + length c) = length-append a (piece ++ c) ∙ ap (λ (n : ℕ). length a + n) (length-append piece c) in
    let piece_len : length piece ≡ length s + 1 = ap length p.parts ∙ length-append s (125 ∷ []) in
    let inner_len : length inner ≡ length p.inner + 1 = length-append p.inner (125 ∷ []) in
    let part_len : length part ≡ suc (length (drop 1 part)) = ap length w.opens in
    let clean : Clean e text = no_errors e text w.plain old in
    let clean_piece : Clean e (s ++ 125 ∷ []) = subst (Clean e) p.parts (no_errors e piece w.piece_plain new) in
    let both : bytes_of (ts ++ ps) ≡ length (a ++ part) =
    bytes_append ts ps ∙ ap₂ (λ (x y : ℕ). x + y) r.cut_before r.cut_behind ∙ sym (length-append a part) in
    let rest : drop (bytes_of (ts ++ ps)) text ≡ c =
    ap (λ (n : ℕ). drop n text) both ∙ ap (drop (length (a ++ part))) (sym (append_assoc a part c)) ∙ drop-append_seam (a ++ part) c in
    let clean_rest : Clean e c =
    subst (Clean e) rest (clean_behind (length text) e text (ts ++ ps) us (omega arith) r.short (w.within ∙ sym (append_assoc ts ps us)) clean) in
    let clean_end : Clean e (s ++ 125 ∷ c) =
    clean_before (length s) e 125 (inr refl) s [] c p.front (p.close ∷ []) (omega arith)
    (omega (arith, piece_len, new_len, r.new_short)) (omega (arith, piece_len, new_len, r.new_short))
    (ap (tokens_within e) (sym p.parts) ∙ p.are_tokens ∙ p.closed) (piece_front e piece (tokens_of e piece) p (omega (arith, new_len, r.new_short)))
    (brace_clean e 125 c (inr refl) r.is_rest_text clean_rest) clean_piece in
    let clean_tail : Clean e (123 ∷ (inner ++ c)) = subst (Clean e) (sym (append_assoc s (125 ∷ []) c)) clean_end in
    let opened : a ++ (part ++ c) ≡ a ++ 123 ∷ (drop 1 part ++ c) = ap (λ (t : List ℕ). a ++ (t ++ c)) w.opens in
    still_none e (a ++ (piece ++ c)) w.new_plain
    (subst (λ (t : List ℕ). Clean e (a ++ (t ++ c))) (sym p.parts)
    (clean_before (length a) e 123 (inl refl) a (drop 1 part ++ c) (inner ++ c) ts (ps ++ us) (omega arith)
    (omega (arith, length-append (drop 1 part) c, part_len, text_len, r.short)) (omega (arith, length-append inner c, inner_len, piece_len, new_len, r.new_short))
    (ap (tokens_within e) (sym opened) ∙ w.within) r.cut_before clean_tail (subst (Clean e) opened clean)))
