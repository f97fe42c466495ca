-- The errors of a text in which a piece was replaced, with their messages.
use Rattle.std.proofs.Common.{◌≡◌, inl, ℕ, zero, suc, ◌+◌, ◌-◌, ◌<◌, ◌≤◌, ◌^◌, Bool, true, false, ◌||◌, if◌then◌else◌, List, [], ◌∷◌, ◌++◌, length, take, drop, map, reverse, ap, ap₂, sym, ◌∙◌, refl, arith, subst, append_assoc, append-nil, length-append, nat_lt, nat_le}
use Rattle.std.specs.Prelude.{IsUtf8}
use Rattle.std.specs.List.{flat_map}
use Rattle.std.proofs.Math.Seq.{drop-append_seam, take-append_seam, take-append-add, drop-append-add}
use Rattle.std.proofs.lemmas.Bool.{and_parts}
use Rattle.std.proofs.lemmas.Bool.Decides.{nat_tests}
use Rattle.std.proofs.lemmas.Grind.{flat_map-append}
use Rattle.std.proofs.lemmas.List.{map-append, reverse-append, length-reverse}
use Rattle.std.proofs.lemmas.List.Concat.{flat_map-cons}
use Rattle.std.proofs.lemmas.Str.{IsUtf8-nil}
use Rattle.text_size.specs.declared.range.TextRange.{TextRange}
use Rattle.ras_front_end.specs.declared.edition.Edition.{Edition}
use Rattle.token_layout.specs.declared.span.Token as span
use Rattle.rust_lexer.specs.declared.lexer.LexError.{LexError}
use Rattle.rust_lexer.specs.declared.problem.Problem.{Problem}
use Rattle.rust_lexer.specs.declared.shape.Check.{Check}
use Rattle.rust_lexer.specs.declared.shape.Check.TheVariants.{No, Is, Prefix, Content}
use Rattle.rust_lexer.specs.declared.shape.Shape.{Shape}
use Rattle.rust_lexer.specs.Cuts.{cut_of}
use Rattle.rust_lexer.specs.History.{is_code_of, is_behind_code_of}
use Rattle.rust_lexer.specs.Lexing.{Lexing, steps_of, errors_of, tokens_of}
use Rattle.rust_lexer.specs.Shapes.{plain_of}
use Rattle.rust_lexer.specs.Signs.{sign_kind_of}
use Rattle.rust_lexer.specs.Tokens.{token_of}
use Rattle.lexer_laws.specs.Behind.{IsBrace}
use Rattle.lexer_laws.specs.Cuts.{tokens_within, bytes_of}
use Rattle.lexer_laws.specs.Errors.{moved_by}
use Rattle.lexer_laws.specs.Heads.{HasNoHead}
use Rattle.lexer_laws.specs.Pieces.{IsReplaced}
use Rattle.lexer_laws.specs.Quiet.{is_in, errs_early, is_quiet_from, ended_by}
use Rattle.lexer_laws.proofs.Bracing.{cut_one, brace_token}
use Rattle.lexer_laws.proofs.Finding.{Replaced, replaced}
use Rattle.lexer_laws.proofs.Pieces.{IsPiece, IsClosed, piece_closed, closed_front, first_bytes, bytes_append, headless}
use Rattle.lexer_laws.proofs.Stepping.{Tokens, token_at, within_more, token_some, back_short}
use Rattle.lexer_laws.proofs.Telling.{Errors, at_range, message, wrong, wrong_none, between, size, rest_of, here, told, told_none, told_more, all, all_more, size_few, take_long, steps_told, silent, Each, each_more, IsFrom, all_from, EndsBy, Before, before_brace, Parted, parted}

-- ---- five tokens are enough

code_same : (b c p q : Bool) → b ≡ c → p ≡ q → (b || p) ≡ (c || q)
code_same b c p q h k = ap₂ (λ (x y : Bool). x || y) h k

code_none : (ts : Tokens) (s : List ℕ) → is_behind_code_of 0 ts s ≡ false
unfolding is_behind_code_of
code_none ts s = refl

code_more : (n : ℕ) (t : span.Token) (ts : Tokens) (s : List ℕ)
    → is_behind_code_of (suc n) (t ∷ ts) s ≡ (is_code_of t.kind (drop (length s - t.len) s) || is_behind_code_of n ts (take (length s - t.len) s))
unfolding is_behind_code_of
code_more n t ts s = refl

-- where the last n tokens are in the text s, what is before them does not matter
code_local : (n : ℕ) (ys zs : Tokens) (d s : List ℕ) → n ≤ length ys → bytes_of ys ≤ length s → is_behind_code_of n (ys ++ zs) (d ++ s) ≡ is_behind_code_of n ys s
code_local zero ys zs d s h k = code_none (ys ++ zs) (d ++ s) ∙ sym (code_none ys s)
code_local (suc n) [] zs d s h k = absurd (omega (arith, h))
code_local (suc n) (t ∷ ys) zs d s h k =
    let i : ℕ = length s - t.len in
    let at : length (d ++ s) - t.len ≡ length d + i = omega (arith, length-append d s, k) in
    let front : take (length (d ++ s) - t.len) (d ++ s) ≡ d ++ take i s = ap (λ (j : ℕ). take j (d ++ s)) at ∙ take-append-add d s i in
    let back : drop (length (d ++ s) - t.len) (d ++ s) ≡ drop i s = ap (λ (j : ℕ). drop j (d ++ s)) at ∙ drop-append-add d s i in
    code_more n t (ys ++ zs) (d ++ s)
    ∙ code_same (is_code_of t.kind (drop (length (d ++ s) - t.len) (d ++ s))) (is_code_of t.kind (drop i s))
    (is_behind_code_of n (ys ++ zs) (take (length (d ++ s) - t.len) (d ++ s))) (is_behind_code_of n ys (take i s))
    (ap (is_code_of t.kind) back)
    (ap (is_behind_code_of n (ys ++ zs)) front ∙ code_local n ys zs d (take i s) (omega (arith, h)) (omega (arith, take_long i s (omega arith), k)))
    ∙ sym (code_more n t ys s)

bytes_reverse : (ts : Tokens) → bytes_of (reverse ts) ≡ bytes_of ts
bytes_reverse [] = refl
bytes_reverse (t ∷ ts) =
    ap bytes_of (reverse-append (t ∷ []) ts) ∙ bytes_append (reverse ts) (t ∷ []) ∙ omega (arith, bytes_reverse ts)

far_code : (ts xs : Tokens) (d r : List ℕ) → 5 ≤ length xs → bytes_of xs ≡ length r → is_behind_code_of 5 (reverse (ts ++ xs)) (d ++ r) ≡ is_behind_code_of 5 (reverse xs) r
far_code ts xs d r h k =
    ap (λ (z : Tokens). is_behind_code_of 5 z (d ++ r)) (reverse-append ts xs)
    ∙ code_local 5 (reverse xs) (reverse ts) d r (omega (arith, length-reverse xs, h)) (omega (arith, bytes_reverse xs, k))

far_wrong : (ts xs : Tokens) (d r s : List ℕ) (f : Check) → 5 ≤ length xs → bytes_of xs ≡ length r → wrong (ts ++ xs) (d ++ r) s f ≡ wrong xs r s f
far_wrong ts xs d r s No h k = refl
far_wrong ts xs d r s (Is p) h k = refl
far_wrong ts xs d r s Prefix h k = ap (λ (b : Bool). message b ∷ []) (far_code ts xs d r h k)
far_wrong ts xs d r s (Content m n j) h k = refl

-- ---- the first five tokens

-- of errors behind p bytes, the first is in none of the next m tokens
abbrev Late : ℕ → ℕ → Tokens → Errors → Type 0
Late m p us [] = Unit {0}
Late m p us (f ∷ fs) = is_in (f.range.start - p) (take m us) ≡ false

late_none : (p : ℕ) (us : Tokens) (es : Errors) → Late 0 p us es
late_none p us [] = tt
late_none p us (f ∷ fs) = refl

first_in : (p : ℕ) (t : span.Token) (ts : Tokens) → 0 < t.len → is_in (p - p) (t ∷ ts) ≡ true
first_in p t ts h =
    let test : nat_lt (p - p) t.len ≡ true = grind (arith, nat_tests) in
    ap (λ (b : Bool). if b then true else is_in ((p - p) - t.len) ts) test

-- the first token has no error, if the errors are late
late_wrong : (m p k : ℕ) (t : span.Token) (us : Tokens) (ps : List Problem) (es : Errors) → 0 < t.len → Late (suc m) p (t ∷ us) (map (at_range (between p k)) ps ++ es) → ps ≡ []
late_wrong m p k t us [] es h l = refl
late_wrong m p k t us (q ∷ ps) es h l = absurd (let bad : true ≡ false = sym (first_in p t (take m us) h) ∙ l in cc)

else_false : (b c : Bool) → (if b then true else c) ≡ false → c ≡ false
else_false true c h = absurd (cc)
else_false false c h = h

late_more : (m p : ℕ) (t : span.Token) (us : Tokens) (es : Errors) → Late (suc m) p (t ∷ us) es → Late m (p + t.len) us es
late_more m p t us [] l = tt
late_more m p t us (f ∷ fs) l =
    let at : (f.range.start - p) - t.len ≡ f.range.start - (p + t.len) = omega arith in
    ap (λ (j : ℕ). is_in j (take m us)) (sym at) ∙ else_false (nat_lt (f.range.start - p) t.len) (is_in ((f.range.start - p) - t.len) (take m us)) l

-- ---- a text behind others

moved_list : (m : ℕ) (r t : TextRange) (ps : List Problem) → record { start = r.start + m; end = r.end + m } ≡ t → map (moved_by m) (map (at_range r) ps) ≡ map (at_range t) ps
moved_list m r t [] h = refl
moved_list m r t (p ∷ ps) h = ap₂ (λ (z : TextRange) (es : Errors). at_range z p ∷ es) h (moved_list m r t ps h)

-- what the text in r and s has by itself, it has behind the text d
abbrev MovesFrom : ℕ → Edition → Tokens → List ℕ → Tokens → List ℕ → List ℕ → Type 0
MovesFrom n e ts d xs r s = told n e (ts ++ xs) (d ++ r) s ≡ map (moved_by (length d)) (told n e xs r s)

one_moved : (n : ℕ) (e : Edition) (ts : Tokens) (d : List ℕ) (xs : Tokens) (r : List ℕ) (x : ℕ) (s : List ℕ)
    → wrong (ts ++ xs) (d ++ r) (x ∷ s) (token_of e (x ∷ s)).check ≡ wrong xs r (x ∷ s) (token_of e (x ∷ s)).check
    → MovesFrom n e ts d (xs ++ token_at e (x ∷ s) ∷ []) (r ++ take (size e (x ∷ s)) (x ∷ s)) (rest_of e (x ∷ s))
    → MovesFrom (suc n) e ts d xs r (x ∷ s)
one_moved n e ts d xs r x s same later =
    let t : span.Token = token_at e (x ∷ s) in
    let k : ℕ = size e (x ∷ s) in
    let w : List ℕ = take k (x ∷ s) in
    let rest : List ℕ = rest_of e (x ∷ s) in
    let ps : List Problem = wrong xs r (x ∷ s) (token_of e (x ∷ s)).check in
    let start : length r + length d ≡ length (d ++ r) = omega (arith, length-append d r) in
    let end : length r + k + length d ≡ length (d ++ r) + k = omega (arith, start) in
    told_more n e (ts ++ xs) (d ++ r) x s
    ∙ ap₂ (λ (qs : List Problem) (es : Errors). map (at_range (between (length (d ++ r)) k)) qs ++ es) same
    (ap₂ (λ (rs : Tokens) (z : List ℕ). told n e rs z rest) (append_assoc ts xs (t ∷ [])) (append_assoc d r w) ∙ later)
    ∙ ap (λ (es : Errors). es ++ map (moved_by (length d)) (told n e (xs ++ t ∷ []) (r ++ w) rest))
    (sym (moved_list (length d) (between (length r) k) (between (length (d ++ r)) k) ps (ap₂ (λ (y z : ℕ). record { start = y; end = z }) start end)))
    ∙ sym (ap (map (moved_by (length d))) (told_more n e xs r x s) ∙ map-append (moved_by (length d)) (here e xs r (x ∷ s)) (told n e (xs ++ t ∷ []) (r ++ w) rest))

zero_moved : (e : Edition) (ts : Tokens) (d : List ℕ) (xs : Tokens) (r s : List ℕ) → length s ≤ 0 → MovesFrom 0 e ts d xs r s
zero_moved e ts d xs r [] h = told_none 0 e (ts ++ xs) (d ++ r) ∙ sym (ap (map (moved_by (length d))) (told_none 0 e xs r))
zero_moved e ts d xs r (x ∷ s) h = absurd (omega (arith, h))

moves_from : (n m : ℕ) (e : Edition) (ts : Tokens) (d : List ℕ) (xs : Tokens) (r s : List ℕ) → length s ≤ n → length s < 2 ^ 32 → bytes_of xs ≡ length r
    → 5 ≤ length xs + m → Late m (length r) (tokens_within e s) (told n e xs r s) → MovesFrom n e ts d xs r s
moves_from zero m e ts d xs r s h few k five l = zero_moved e ts d xs r s h
moves_from (suc n) m e ts d xs r [] h few k five l = told_none (suc n) e (ts ++ xs) (d ++ r) ∙ sym (ap (map (moved_by (length d))) (told_none (suc n) e xs r))
moves_from (suc n) zero e ts d xs r (x ∷ s) h few k five l =
    let t : span.Token = token_at e (x ∷ s) in
    let j : ℕ = size e (x ∷ s) in
    let rest : List ℕ = rest_of e (x ∷ s) in
    let bytes : bytes_of (xs ++ t ∷ []) ≡ length (r ++ take j (x ∷ s)) =
    omega (arith, bytes_append xs (t ∷ []), first_bytes e x s few, length-append r (take j (x ∷ s)), take_long j (x ∷ s) (size_few e (x ∷ s)), k) in
    one_moved n e ts d xs r x s (far_wrong ts xs d r (x ∷ s) (token_of e (x ∷ s)).check (omega (arith, five)) k)
    (moves_from n zero e ts d (xs ++ t ∷ []) (r ++ take j (x ∷ s)) rest (omega (arith, back_short (token_of e (x ∷ s)).left x s, h))
    (omega (arith, back_short (token_of e (x ∷ s)).left x s, few)) bytes (omega (arith, five, length-append xs (t ∷ [])))
    (late_none (length (r ++ take j (x ∷ s))) (tokens_within e rest) (told n e (xs ++ t ∷ []) (r ++ take j (x ∷ s)) rest)))
moves_from (suc n) (suc m) e ts d xs r (x ∷ s) h few k five l =
    let t : span.Token = token_at e (x ∷ s) in
    let j : ℕ = size e (x ∷ s) in
    let rest : List ℕ = rest_of e (x ∷ s) in
    let f : Check = (token_of e (x ∷ s)).check in
    let ps : List Problem = wrong xs r (x ∷ s) f in
    let later : Errors = told n e (xs ++ t ∷ []) (r ++ take j (x ∷ s)) rest in
    let bytes : bytes_of (xs ++ t ∷ []) ≡ length (r ++ take j (x ∷ s)) =
    omega (arith, bytes_append xs (t ∷ []), first_bytes e x s few, length-append r (take j (x ∷ s)), take_long j (x ∷ s) (size_few e (x ∷ s)), k) in
    let end : length r + t.len ≡ length (r ++ take j (x ∷ s)) =
    omega (arith, first_bytes e x s few, length-append r (take j (x ∷ s)), take_long j (x ∷ s) (size_few e (x ∷ s))) in
    let now : Late (suc m) (length r) (t ∷ tokens_within e rest) (here e xs r (x ∷ s) ++ later) =
    subst (Late (suc m) (length r) (t ∷ tokens_within e rest)) (told_more n e xs r x s)
    (subst (λ (us : Tokens). Late (suc m) (length r) us (told (suc n) e xs r (x ∷ s))) (within_more e x s) l) in
    let fine : ps ≡ [] = late_wrong m (length r) j t (tokens_within e rest) ps later (token_some e x s) now in
    let quiet : here e xs r (x ∷ s) ++ later ≡ later = ap (λ (qs : List Problem). map (at_range (between (length r) j)) qs ++ later) fine in
    let next : Late m (length (r ++ take j (x ∷ s))) (tokens_within e rest) later =
    subst (λ (p : ℕ). Late m p (tokens_within e rest) later) end
    (late_more m (length r) t (tokens_within e rest) later (subst (Late (suc m) (length r) (t ∷ tokens_within e rest)) quiet now)) in
    one_moved n e ts d xs r x s (wrong_none (ts ++ xs) xs (d ++ r) r (x ∷ s) f fine ∙ sym fine)
    (moves_from n m e ts d (xs ++ t ∷ []) (r ++ take j (x ∷ s)) rest (omega (arith, back_short (token_of e (x ∷ s)).left x s, h))
    (omega (arith, back_short (token_of e (x ∷ s)).left x s, few)) bytes (omega (arith, five, length-append xs (t ∷ []))) next)

late_all : (us : Tokens) (es : Errors) → errs_early us es ≡ false → Late 5 0 us es
late_all us [] h = tt
late_all us (f ∷ fs) h = let at : f.range.start - 0 ≡ f.range.start = omega arith in ap (λ (j : ℕ). is_in j (take 5 us)) at ∙ h

-- a text has behind others the errors that it has by itself, if none of them is in its first five
-- tokens
all_moved : (e : Edition) (ts : Tokens) (d s : List ℕ) → length s < 2 ^ 32 → errs_early (tokens_within e s) (all e [] [] s) ≡ false → all e ts d s ≡ map (moved_by (length d)) (all e [] [] s)
all_moved e ts d s l h =
    ap₂ (λ (rs : Tokens) (q : List ℕ). all e rs q s) (sym (append-nil ts)) (sym (append-nil d))
    ∙ moves_from (length s) 5 e ts d [] [] s (omega arith) l refl (omega arith) (late_all (tokens_within e s) (all e [] [] s) h)

-- ---- which errors are kept

within_told : (e : Edition) (s : List ℕ) → IsUtf8 s → length s < 2 ^ 32 → (steps_of (length s) e s (record { tokens = []; errors = []; rest = s })).errors ≡ all e [] [] s
within_told e s u l = steps_told (length s) e s [] [] [] s refl (omega arith) l u (λ z. refl)

pub text_told : (e : Edition) (text : List ℕ) → HasNoHead e text → IsUtf8 text → length text < 2 ^ 32 → errors_of e text ≡ all e [] [] text
text_told e text h u l = ap (λ (k : Lexing). (steps_of (length text) e text k).errors) h ∙ within_told e text u l

ended : (n : ℕ) (f : LexError) → f.range.end ≤ n → ended_by n f ≡ f ∷ []
ended n f h = let test : nat_le f.range.end n ≡ true = grind (arith, nat_tests) in ap (λ (b : Bool). if b then f ∷ [] else []) test

not_ended : (n : ℕ) (f : LexError) → n < f.range.end → ended_by n f ≡ []
not_ended n f h = let test : nat_le f.range.end n ≡ false = grind (arith, nat_tests) in ap (λ (b : Bool). if b then f ∷ [] else []) test

pub all_ended : (n : ℕ) (es : Errors) → Each (EndsBy n) es → flat_map (ended_by n) es ≡ es
all_ended n [] h = refl
all_ended n (f ∷ es) h = flat_map-cons (ended_by n) f es ∙ ap₂ (λ (fs gs : Errors). fs ++ gs) (ended n f h.0) (all_ended n es h.1)

none_ended : (n : ℕ) (es : Errors) → Each (IsFrom n) es → flat_map (ended_by n) es ≡ []
none_ended n [] h = refl
none_ended n (f ∷ es) h = flat_map-cons (ended_by n) f es ∙ ap₂ (λ (fs gs : Errors). fs ++ gs) (not_ended n f h.0.goes_on) (none_ended n es h.1)

kept : (n : ℕ) (es fs : Errors) → Each (EndsBy n) es → Each (IsFrom n) fs → flat_map (ended_by n) (es ++ fs) ≡ es
kept n es fs h k =
    flat_map-append (ended_by n) es fs ∙ ap₂ (λ (gs hs : Errors). gs ++ hs) (all_ended n es h) (none_ended n fs k) ∙ append-nil es

pub quiet_behind : (n : ℕ) (es fs : Errors) → is_quiet_from n (es ++ fs) ≡ true → is_quiet_from n fs ≡ true
quiet_behind n [] fs h = h
quiet_behind n (e ∷ es) fs h = quiet_behind n es fs (and_parts (nat_lt e.range.start n) (is_quiet_from n (es ++ fs)) h).1

not_below : (i n : ℕ) → n ≤ i → nat_lt i n ≡ true → ⊥
not_below i n h k = grind (arith, nat_tests)

pub quiet_none : (n : ℕ) (es : Errors) → Each (IsFrom n) es → is_quiet_from n es ≡ true → es ≡ []
quiet_none n [] h k = refl
quiet_none n (e ∷ es) h k = absurd (not_below e.range.start n h.0.begins (and_parts (nat_lt e.range.start n) (is_quiet_from n es) k).0)

-- ---- a replaced piece

closing_silent : (e : Edition) (ts xs : Tokens) (d r : List ℕ) (b : ℕ) (s : List ℕ) → IsBrace b → IsUtf8 s → all e xs r s ≡ [] → all e ts d (b ∷ s) ≡ []
closing_silent e ts xs d r b s h u is =
    let sign : token_of e (b ∷ s) ≡ plain_of (sign_kind_of b) (length s) = brace_token e b s h in
    let cut : size e (b ∷ s) ≡ 1 = ap (λ (t : Shape). cut_of t.left (b ∷ s)) sign ∙ cut_one b s u in
    let rest : rest_of e (b ∷ s) ≡ s = ap (λ (j : ℕ). drop j (b ∷ s)) cut in
    all_more e ts d b s
    ∙ ap₂ (λ (f : Check) (w : List ℕ). map (at_range (between (length d) (size e (b ∷ s)))) (wrong ts d (b ∷ s) f) ++ all e (ts ++ token_at e (b ∷ s) ∷ []) (d ++ take (size e (b ∷ s)) (b ∷ s)) w)
    (ap (λ (t : Shape). t.check) sign) rest
    ∙ silent e (ts ++ token_at e (b ∷ s) ∷ []) xs (d ++ take (size e (b ∷ s)) (b ∷ s)) r s is

pub no_text : (e : Edition) (ts : Tokens) (d : List ℕ) → all e ts d [] ≡ []
no_text e ts d = told_none 0 e ts d

-- a text that ends in a brace, behind which no error comes
pub closed_told : (e : Edition) (ts : Tokens) (d text c : List ℕ) (b : ℕ) (qs : Tokens) → IsClosed e text b qs → IsUtf8 c → length text + length c < 2 ^ 32
    → all e [] [] c ≡ [] → all e ts d (text ++ c) ≡ all e ts d text
closed_told e ts d text c b qs w u l is =
    let s : List ℕ = w.inner in
    let len : length text ≡ length s + 1 = ap length w.parts ∙ length-append s (b ∷ []) in
    let tokens : tokens_within e (s ++ b ∷ []) ≡ w.front ++ w.close ∷ [] = ap (tokens_within e) (sym w.parts) ∙ w.are_tokens ∙ w.closed in
    let cut : bytes_of w.front ≡ length s = closed_front e text b qs w (omega (arith, l)) in
    let f : Before e ts d s b [] c w.front =
    before_brace (length s) e b w.is_brace ts d s [] c w.front (w.close ∷ []) (omega arith) (omega (arith, len, l)) (omega (arith, len, l)) tokens cut in
    let alone : all e ts d text ≡ f.errors =
    ap (all e ts d) w.parts ∙ f.first
    ∙ ap (λ (es : Errors). f.errors ++ es) (closing_silent e (ts ++ w.front) [] (d ++ s) [] b [] w.is_brace IsUtf8-nil (no_text e [] [])) ∙ append-nil f.errors in
    ap (λ (t : List ℕ). all e ts d (t ++ c)) w.parts ∙ ap (all e ts d) (append_assoc s (b ∷ []) c) ∙ f.second
    ∙ ap (λ (es : Errors). f.errors ++ es) (closing_silent e (ts ++ w.front) [] (d ++ s) [] b c w.is_brace u is) ∙ append-nil f.errors ∙ sym alone

pub quiet_replaced : (e : Edition) (a part piece c : List ℕ) (ts ps us : Tokens) → IsReplaced e a part piece c ts ps us
    → errs_early (tokens_of e piece) (errors_of e piece) ≡ false → is_quiet_from (length (a ++ part)) (errors_of e (a ++ (part ++ c))) ≡ true
    → errors_of e (a ++ (piece ++ c)) ≡ flat_map (ended_by (length a)) (errors_of e (a ++ (part ++ c))) ++ map (moved_by (length a)) (errors_of e piece)
quiet_replaced e a part piece c ts ps us r early quiet =
    let w : Replaced e a part piece c ts ps us = replaced e a part piece c ts ps us r in
    let p : IsPiece e piece (tokens_of e piece) = w.is_piece in
    let inner : List ℕ = p.inner ++ 125 ∷ [] in
    let part_len : length part ≡ suc (length (drop 1 part)) = ap length w.opens in
    let piece_len : length piece ≡ suc (length inner) = ap length p.parts in
    let opened : a ++ (part ++ c) ≡ a ++ 123 ∷ (drop 1 part ++ c) = ap (λ (t : List ℕ). a ++ (t ++ c)) w.opens in
    let replaced_text : a ++ (piece ++ c) ≡ a ++ 123 ∷ (inner ++ c) = ap (λ (t : List ℕ). a ++ (t ++ c)) p.parts in
    let b : Before e [] [] a 123 (drop 1 part ++ c) (inner ++ c) ts =
    before_brace (length a) e 123 (inl refl) [] [] a (drop 1 part ++ c) (inner ++ c) ts (ps ++ us) (omega arith)
    (omega (arith, length-append (drop 1 part) c, part_len, w.short)) (omega (arith, length-append inner c, piece_len, w.new_short))
    (ap (tokens_within e) (sym opened) ∙ w.within) r.cut_before in
    let ends : Each (EndsBy (length a)) b.errors = each_more (EndsBy (length {A = ℕ} [] + length a)) (EndsBy (length a)) b.errors (λ f h. omega (arith, h)) b.end in
    let rest_len : length (part ++ c) ≡ length part + length c = length-append part c in
    let old : errors_of e (a ++ (part ++ c)) ≡ b.errors ++ all e ts a (part ++ c) =
    text_told e (a ++ (part ++ c)) w.plain r.is_text r.short ∙ ap (all e [] []) opened ∙ b.first
    ∙ ap (λ (t : List ℕ). b.errors ++ all e ts a (t ++ c)) (sym w.opens) in
    let d : Parted e ts a (part ++ c) ps = parted (length (part ++ c)) e ts a (part ++ c) ps us (omega arith) (omega (arith, rest_len, w.short)) w.rest in
    let behind : take (bytes_of ps) (part ++ c) ≡ part = ap (λ (j : ℕ). take j (part ++ c)) r.cut_behind ∙ take-append_seam part c in
    let left : drop (bytes_of ps) (part ++ c) ≡ c = ap (λ (j : ℕ). drop j (part ++ c)) r.cut_behind ∙ drop-append_seam part c in
    let rest : all e ts a (part ++ c) ≡ d.errors ++ all e (ts ++ ps) (a ++ part) c =
    d.parts ∙ ap₂ (λ (y z : List ℕ). d.errors ++ all e (ts ++ ps) (a ++ y) z) behind left in
    let errors_behind : Errors = all e (ts ++ ps) (a ++ part) c in
    let quiet_there : is_quiet_from (length (a ++ part)) errors_behind ≡ true =
    quiet_behind (length (a ++ part)) d.errors errors_behind
    (ap (is_quiet_from (length (a ++ part))) (sym rest)
    ∙ quiet_behind (length (a ++ part)) b.errors (all e ts a (part ++ c)) (ap (is_quiet_from (length (a ++ part))) (sym old) ∙ quiet)) in
    let none : all e [] [] c ≡ [] =
    silent e [] (ts ++ ps) [] (a ++ part) c (quiet_none (length (a ++ part)) errors_behind (all_from e (ts ++ ps) (a ++ part) c) quiet_there) in
    let alone : errors_of e piece ≡ all e [] [] piece = text_told e piece w.piece_plain r.is_piece_text (omega (arith, w.new_short)) in
    let late : errs_early (tokens_within e piece) (all e [] [] piece) ≡ false =
    ap₂ errs_early (sym (headless e piece w.piece_plain)) (sym alone) ∙ early in
    let stays : flat_map (ended_by (length a)) (errors_of e (a ++ (part ++ c))) ≡ b.errors =
    ap (flat_map (ended_by (length a))) old ∙ kept (length a) b.errors (all e ts a (part ++ c)) ends (all_from e ts a (part ++ c)) in
    text_told e (a ++ (piece ++ c)) w.new_plain r.is_new_text r.new_short ∙ ap (all e [] []) replaced_text ∙ b.second
    ∙ ap₂ (λ (es fs : Errors). es ++ fs) (sym stays)
    (ap (λ (t : List ℕ). all e ts a (t ++ c)) (sym p.parts) ∙ closed_told e ts a piece c 125 (tokens_of e piece) (piece_closed e piece (tokens_of e piece) p) r.is_rest_text (omega (arith, w.new_short)) none
    ∙ all_moved e ts a piece (omega (arith, w.new_short)) late ∙ ap (map (moved_by (length a))) (sym alone))
