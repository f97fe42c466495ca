-- Where a byte is, and where a text is cut at the first one.
use Rattle.std.proofs.Common.{◌≡◌, ◌≢◌, ℕ, zero, suc, ◌<◌, inl, inr, List, [], ◌∷◌, ◌++◌, length, get_or, refl, sym, ap, subst, ◌∙◌, arith}
use Rattle.std.specs.Prelude.{codes, Bool, true, false, not, IsTrue, ◌↔◌, ◌==◌, Option, Some, None, IfSome, IfNone, MatchOption}
use Rattle.std.proofs.lemmas.Bool.Decides.{nat_tests}
use Rattle.syntax_tool.specs.Lines.{HasNo, IsCut, IsLine, IsWord}

pub has_no_by_index : (c : ℕ) (xs : List ℕ) → ((i : ℕ) → i < length xs → get_or xs i 0 ≢ c) → HasNo c xs
has_no_by_index c [] h = tt
has_no_by_index c (x ∷ xs) h = (h 0 (omega arith), has_no_by_index c xs (λ i lt. h (suc i) (omega (arith, lt))))

pub has_no_at : (c : ℕ) (xs : List ℕ) → HasNo c xs → (i : ℕ) → i < length xs → get_or xs i 0 ≢ c
has_no_at c [] h i lt = absurd (omega (arith, lt))
has_no_at c (x ∷ xs) h zero lt = h.0
has_no_at c (x ∷ xs) h (suc i) lt = has_no_at c xs h.1 i (omega (arith, lt))

-- a text with c in it has it
pub has_no_before : (c : ℕ) (xs ys : List ℕ) → HasNo c (xs ++ c ∷ ys) → ⊥
has_no_before c [] ys h = h.0 refl
has_no_before c (x ∷ xs) ys h = has_no_before c xs ys h.1

-- a text has one first c
pub cut_once : (c : ℕ) (xs ys us vs : List ℕ) → HasNo c xs → HasNo c us → xs ++ c ∷ ys ≡ us ++ c ∷ vs → (xs ≡ us) × (ys ≡ vs)
cut_once c [] ys [] vs h k e = (refl, cc)
cut_once c [] ys (u ∷ us) vs h k e = absurd (k.0 (let same : c ≡ u = cc in sym same))
cut_once c (x ∷ xs) ys [] vs h k e = absurd (h.0 cc)
cut_once c (x ∷ xs) ys (u ∷ us) vs h k e =
    let rest : xs ++ c ∷ ys ≡ us ++ c ∷ vs = cc in
    let head : x ≡ u = cc in
    let w = cut_once c xs ys us vs h.1 k.1 rest in
    (ap (λ y. y ∷ xs) head ∙ ap (λ l. u ∷ l) w.0, w.1)

-- what precedes the first c, where the text is such a front and c
pub cut_at_first : (c : ℕ) (text before after us vs : List ℕ) → IsCut c text before after → HasNo c us → text ≡ us ++ c ∷ vs → (us ≡ before) × (vs ≡ after)
cut_at_first c text before after us vs (lacks, inl is) k e = cut_once c us vs before after k lacks (sym e ∙ is)
cut_at_first c text before after us vs (lacks, inr whole) k e = absurd (has_no_before c us vs (subst (HasNo c) (sym whole.0 ∙ e) lacks))

-- a text without c is not cut
pub cut_nowhere : (c : ℕ) (text before after : List ℕ) → IsCut c text before after → HasNo c text → (text ≡ before) × (after ≡ [])
cut_nowhere c text before after (lacks, inl is) k = absurd (has_no_before c before after (subst (HasNo c) is k))
cut_nowhere c text before after (lacks, inr whole) k = whole

pub has_no-exit : HasNo 32 (codes "exit")
has_no-exit = (λ e. absurd (omega (arith, e)), (λ e. absurd (omega (arith, e)), (λ e. absurd (omega (arith, e)), (λ e. absurd (omega (arith, e)), tt))))

-- the two tests of a word
pub word_by_tests : (text : List ℕ) (r : Bool) → 0 < length text → (r ≡ true → (k : ℕ) × (k < length text) × (get_or text k 0 ≡ 32)) → ((k : ℕ) → k < length text → get_or text k 0 ≡ 32 → r ≡ true) → IsTrue (not r) ↔ IsWord text
word_by_tests text true some found all = (
  λ h. (let bad : false ≡ true = h in cc),
  λ w. let k = found refl in absurd (has_no_at 32 text w.no_space k.0 k.1 k.2),
)
word_by_tests text false some found all = (
  λ h. record { some = some; no_space = has_no_by_index 32 text (λ i lt e. (let bad : false ≡ true = all i lt e in cc)) },
  λ w. refl,
)

pub some_bytes : (text : List ℕ) (r : Bool) → r ≡ false → r ≡ (length text == 0) → 0 < length text
some_bytes text r h e = grind (arith, nat_tests)

pub no_bytes : (text : List ℕ) (r : Bool) → r ≡ true → r ≡ (length text == 0) → length text ≡ 0
no_bytes text r h e = grind (arith, nat_tests)

-- the first line and what follows it, by the first newline
pub line_is : {A : Type 0} (bs : List ℕ) (before behind : A → List ℕ) (r : Option A)
    → MatchOption r ((i : ℕ) → i < length bs → get_or bs i 0 ≢ 10) (λ x. (bs ≡ before x ++ 10 ∷ behind x) × ((i : ℕ) → i < length (before x) → get_or (before x) i 0 ≢ 10))
    → IfSome r (λ x. IsLine bs (before x) (behind x))
line_is bs before behind None h = tt
line_is bs before behind (Some x) h = (has_no_by_index 10 (before x) h.1, h.0)

-- without one there is none
pub no_line_is : {A : Type 0} (bs : List ℕ) (before behind : A → List ℕ) (r : Option A)
    → MatchOption r ((i : ℕ) → i < length bs → get_or bs i 0 ≢ 10) (λ x. (bs ≡ before x ++ 10 ∷ behind x) × ((i : ℕ) → i < length (before x) → get_or (before x) i 0 ≢ 10))
    → IfNone r (HasNo 10 bs)
no_line_is bs before behind None h = has_no_by_index 10 bs h
no_line_is bs before behind (Some x) h = tt
