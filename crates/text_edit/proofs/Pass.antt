-- What a pass from the left makes of a text.
use Rattle.std.proofs.Common.{◌≡◌, ℕ, suc, ◌+◌, ◌-◌, ◌<◌, ◌≤◌, List, [], ◌∷◌, ◌++◌, length, take, drop, get_or, refl, sym, ap, ◌∙◌, subst, arith, append_assoc, length-append}
use Rattle.std.specs.Prelude.{⊤, All}
use Rattle.std.proofs.lemmas.List.{drop_more, drop_all, take-append-drop, take-take, take-append-le, length-take-le, length-drop}
use Rattle.std.proofs.Math.Seq.{drop_at, take-add, drop-drop}
use Rattle.text_edit.specs.Replacements.{Replacement, edited, InOrder, IsRangeOf}

-- ---- a pass from the left

-- the text from byte n on, with each range replaced, read from the left
abbrev pub passed : List ℕ → ℕ → List Replacement → List ℕ
passed s n [] = drop n s
passed s n (e ∷ es) = take (e.delete.start - n) (drop n s) ++ (e.insert ++ passed s e.delete.end es)

pub rest_all : {A : Type 0} (P : A → Type 0) (x : A) (xs : List A) → All P (x ∷ xs) → All P xs
rest_all P x xs h k d lt = h (suc k) d (omega (arith, lt))

cut_again : (s : List ℕ) (n m : ℕ) → n ≤ m → take m s ≡ take n s ++ take (m - n) (drop n s)
cut_again s n m h = let e : m ≡ n + (m - n) = omega arith in ap (λ k. take k s) e ∙ take-add n (m - n) s

-- the ranges end within the first n bytes
abbrev pub EndWithin : ℕ → List Replacement → Type 0
EndWithin n [] = ⊤
EndWithin n (e ∷ es) = (e.delete.end ≤ n) × EndWithin n es

pub all_within : (s : List ℕ) (es : List Replacement) → All (IsRangeOf s) es → EndWithin (length s) es
all_within s [] a = tt
all_within s (e ∷ es) a = let here : IsRangeOf s e = a 0 e (omega arith) in (here.within, all_within s es (rest_all (IsRangeOf s) e es a))

-- the replacements, last one first, give what a pass from the left gives
pub edited_passed_within : (s : List ℕ) (n : ℕ) (es : List Replacement) → n ≤ length s → InOrder n es → EndWithin (length s) es → edited s es ≡ take n s ++ passed s n es
edited_passed_within s n [] h o a = sym (take-append-drop n s)
edited_passed_within s n (e ∷ es) h o a =
    let within : e.delete.end ≤ length s = a.0 in
    let long : length (take e.delete.end s) ≡ e.delete.end = length-take-le e.delete.end s within in
    let rest : edited s es ≡ take e.delete.end s ++ passed s e.delete.end es = edited_passed_within s e.delete.end es within o.2 a.1 in
    let first : take e.delete.start (edited s es) ≡ take e.delete.start s =
    ap (take e.delete.start) rest ∙ take-append-le e.delete.start (take e.delete.end s) (passed s e.delete.end es) (omega (arith, long, o.1)) ∙ take-take e.delete.start e.delete.end s o.1 in
    let last : drop e.delete.end (edited s es) ≡ passed s e.delete.end es =
    ap (drop e.delete.end) rest ∙ drop_at (take e.delete.end s) (passed s e.delete.end es) e.delete.end long in
    ap (λ l. l ++ (e.insert ++ drop e.delete.end (edited s es))) (first ∙ cut_again s n e.delete.start o.0)
    ∙ ap (λ l. (take n s ++ take (e.delete.start - n) (drop n s)) ++ (e.insert ++ l)) last
    ∙ append_assoc (take n s) (take (e.delete.start - n) (drop n s)) (e.insert ++ passed s e.delete.end es)

pub passed_whole : (s : List ℕ) (es : List Replacement) → InOrder 0 es → All (IsRangeOf s) es → edited s es ≡ passed s 0 es
passed_whole s es o a = edited_passed_within s 0 es (omega arith) o (all_within s es a)

pub passed_step : (s : List ℕ) (n : ℕ) (items : List Replacement) (i : ℕ) (e : Replacement) (out new whole : List ℕ) → i < length items → get_or items i e ≡ e
    → new ≡ (out ++ take (e.delete.start - n) (drop n s)) ++ e.insert → out ++ passed s n (drop i items) ≡ whole → new ++ passed s e.delete.end (drop (i + 1) items) ≡ whole
passed_step s n items i e out new whole lt is added h =
    let cut : drop i items ≡ e ∷ drop (i + 1) items = drop_more items i e lt ∙ ap (λ x. x ∷ drop (i + 1) items) is in
    let between : List ℕ = take (e.delete.start - n) (drop n s) in
    let rest : List ℕ = passed s e.delete.end (drop (i + 1) items) in
    ap (λ l. l ++ rest) added
    ∙ append_assoc (out ++ between) e.insert rest
    ∙ append_assoc out between (e.insert ++ rest)
    ∙ ap (λ l. out ++ passed s n l) (sym cut)
    ∙ h

pub passed_done : (s : List ℕ) (n : ℕ) (items : List Replacement) (i : ℕ) (out whole : List ℕ) → length items ≤ i → out ++ passed s n (drop i items) ≡ whole → out ++ drop n s ≡ whole
passed_done s n items i out whole h e = ap (λ l. out ++ passed s n l) (sym (drop_all i items h)) ∙ e

pub record InOrderAt (n : ℕ) (e : Replacement) (es : List Replacement) : Type 0 where
  pub behind : n ≤ e.delete.start
  pub forwards : e.delete.start ≤ e.delete.end
  pub rest : InOrder e.delete.end es

pub order_step : (n : ℕ) (items : List Replacement) (i : ℕ) (e : Replacement) → i < length items → get_or items i e ≡ e → InOrder n (drop i items) → InOrderAt n e (drop (i + 1) items)
order_step n items i e lt is o =
    let cut : drop i items ≡ e ∷ drop (i + 1) items = drop_more items i e lt ∙ ap (λ x. x ∷ drop (i + 1) items) is in
    let w : InOrder n (e ∷ drop (i + 1) items) = subst (λ l. InOrder n l) cut o in
    record { behind = w.0; forwards = w.1; rest = w.2 }

-- ---- how long the edited text is

pub passed-length : (s : List ℕ) (n : ℕ) (e : Replacement) (es : List Replacement) → n ≤ e.delete.start → e.delete.start ≤ length s → length (passed s n (e ∷ es)) ≡ (e.delete.start - n) + (length e.insert + length (passed s e.delete.end es))
passed-length s n e es h k =
    let taken : length (take (e.delete.start - n) (drop n s)) ≡ e.delete.start - n = length-take-le (e.delete.start - n) (drop n s) (omega (arith, length-drop n s, h, k)) in
    length-append (take (e.delete.start - n) (drop n s)) (e.insert ++ passed s e.delete.end es) ∙ omega (arith, taken, length-append e.insert (passed s e.delete.end es))

pub length_step : (s : List ℕ) (n : ℕ) (items : List Replacement) (i : ℕ) (e : Replacement) (len whole : ℕ) → i < length items → get_or items i e ≡ e → InOrder n (drop i items) → All (IsRangeOf s) items
    → len + length (passed s n (drop i items)) ≡ whole → (len + (e.delete.start - n) + length e.insert) + length (passed s e.delete.end (drop (i + 1) items)) ≡ whole
length_step s n items i e len whole lt is o fits h =
    let cut : drop i items ≡ e ∷ drop (i + 1) items = drop_more items i e lt ∙ ap (λ x. x ∷ drop (i + 1) items) is in
    let step : InOrderAt n e (drop (i + 1) items) = order_step n items i e lt is o in
    let range : IsRangeOf s e = subst (IsRangeOf s) is (fits i e lt) in
    omega (arith, h, ap (λ l. length (passed s n l)) cut, passed-length s n e (drop (i + 1) items) step.behind (omega (arith, step.forwards, range.within)))

pub length_end : (s : List ℕ) (n : ℕ) (items : List Replacement) (i len whole : ℕ) → length items ≤ i → len + length (passed s n (drop i items)) ≡ whole → len + (length s - n) ≡ whole
length_end s n items i len whole h e = omega (arith, e, ap (λ l. length (passed s n l)) (drop_all i items h), length-drop n s)

-- what is read before it, and what comes after
pub after_front : (s x r : List ℕ) (b : ℕ) → drop b s ≡ x ++ r → drop (b + length x) s ≡ r
after_front s x r b e = sym (drop-drop (length x) b s) ∙ ap (drop (length x)) e ∙ drop_at x r (length x) refl

pub rejoin : (s : List ℕ) (a b : ℕ) → a ≤ b → take (b - a) (drop a s) ++ drop b s ≡ drop a s
rejoin s a b h =
    let e : a + (b - a) ≡ b = omega (arith, h) in
    ap (λ n. take (b - a) (drop a s) ++ drop n s) (sym e) ∙ ap (λ l. take (b - a) (drop a s) ++ l) (sym (drop-drop (b - a) a s)) ∙ take-append-drop (b - a) (drop a s)

-- the edited text is what the pass makes, and so is its length
pub edited_length : (s : List ℕ) (es : List Replacement) → InOrder 0 es → All (IsRangeOf s) es → length (edited s es) ≡ length (passed s 0 es)
edited_length s es o a = ap length (passed_whole s es o a)
