-- Replacements that change nothing.
use Rattle.std.proofs.Common.{◌≡◌, ℕ, ◌≤◌, List, [], ◌∷◌, ◌++◌, length, take, drop, refl, sym, ap, subst, ◌∙◌, arith, true, false, inl, inr}
use Rattle.std.specs.Prelude.{if◌then◌else◌, nat_eq}
use Rattle.std.proofs.lemmas.Bool.{cases_Bool}
use Rattle.std.proofs.lemmas.Bool.Decides.{nat_tests}
use Rattle.std.proofs.lemmas.List.{take-append-drop}
use Rattle.text_edit.specs.Replacements.{Replacement, replaced, edited, InOrder, is_empty, nonempty}
use Rattle.text_edit.specs.Empty.{EmptyChangesNothing}

equal : (a b : ℕ) → nat_eq a b ≡ true → a ≡ b
equal a b h = grind (arith, nat_tests)

same_eq : (a : ℕ) → nat_eq a a ≡ true
same_eq a = grind (arith, nat_tests)

no_bytes : (l : List ℕ) → length l ≡ 0 → l ≡ []
no_bytes [] h = refl
no_bytes (x ∷ l) h = absurd (omega (arith, h))

-- an empty replacement
pub record Empty (e : Replacement) : Type 0 where
  pub none : e.insert ≡ []
  pub same : e.delete.start ≡ e.delete.end

pub empty_is : (e : Replacement) → is_empty e ≡ true → Empty e
empty_is e h = elim (cases_Bool (nat_eq (length e.insert) 0)) [
  | inl y ↦ record {
    none = no_bytes e.insert (equal (length e.insert) 0 y);
    same = equal e.delete.start e.delete.end (sym (ap (λ b. if b then nat_eq e.delete.start e.delete.end else false) y) ∙ h);
  }
  | inr n ↦ (let off : false ≡ true = sym (ap (λ b. if b then nat_eq e.delete.start e.delete.end else false) n) ∙ h in cc)
]

-- nothing put in the place of no bytes
pub put_nothing : (e : Replacement) → e.insert ≡ [] → e.delete.start ≡ e.delete.end → is_empty e ≡ true
put_nothing e none same =
    ap (λ l. if nat_eq (length l) 0 then nat_eq e.delete.start e.delete.end else false) none ∙ ap (λ n. nat_eq e.delete.start n) (sym same) ∙ same_eq e.delete.start

changes_nothing : (s : List ℕ) (e : Replacement) → Empty e → replaced s e ≡ s
changes_nothing s e h =
    ap (λ l. take e.delete.start s ++ (l ++ drop e.delete.end s)) h.none ∙ ap (λ n. take e.delete.start s ++ drop n s) (sym h.same) ∙ take-append-drop e.delete.start s

starts_later : (n m : ℕ) (es : List Replacement) → n ≤ m → InOrder m es → InOrder n es
starts_later n m [] h o = tt
starts_later n m (e ∷ es) h o = (omega (arith, h, o.0), o.1, o.2)

nonempty_in_order : (n : ℕ) (es : List Replacement) → InOrder n es → InOrder n (nonempty es)
nonempty_in_order n [] o = tt
nonempty_in_order n (e ∷ es) o =
    let rest : InOrder e.delete.end (nonempty es) = nonempty_in_order e.delete.end es o.2 in
    elim (cases_Bool (is_empty e)) [
      | inl y ↦ subst (λ b. InOrder n (if b then nonempty es else e ∷ nonempty es)) (sym y) (starts_later n e.delete.end (nonempty es) (omega (arith, o.0, o.1)) rest)
      | inr no' ↦ subst (λ b. InOrder n (if b then nonempty es else e ∷ nonempty es)) (sym no') (o.0, o.1, rest)
    ]

same_text : (s : List ℕ) (es : List Replacement) → edited s (nonempty es) ≡ edited s es
same_text s [] = refl
same_text s (e ∷ es) =
    elim (cases_Bool (is_empty e)) [
      | inl y ↦ ap (λ b. edited s (if b then nonempty es else e ∷ nonempty es)) y ∙ same_text s es ∙ sym (changes_nothing (edited s es) e (empty_is e y))
      | inr no' ↦ ap (λ b. edited s (if b then nonempty es else e ∷ nonempty es)) no' ∙ ap (λ l. replaced l e) (same_text s es)
    ]

pub empty_changes_nothing : EmptyChangesNothing
empty_changes_nothing s es o = (nonempty_in_order 0 es o, same_text s es)

-- those of two lists
pub nonempty-append : (es fs : List Replacement) → nonempty (es ++ fs) ≡ nonempty es ++ nonempty fs
nonempty-append [] fs = refl
nonempty-append (e ∷ es) fs =
    elim (cases_Bool (is_empty e)) [
      | inl y ↦
          ap (λ b. if b then nonempty (es ++ fs) else e ∷ nonempty (es ++ fs)) y ∙ nonempty-append es fs
          ∙ ap (λ b. (if b then nonempty es else e ∷ nonempty es) ++ nonempty fs) (sym y)
      | inr no' ↦
          ap (λ b. if b then nonempty (es ++ fs) else e ∷ nonempty (es ++ fs)) no' ∙ ap (λ l. e ∷ l) (nonempty-append es fs)
          ∙ ap (λ b. (if b then nonempty es else e ∷ nonempty es) ++ nonempty fs) (sym no')
    ]

pub nonempty-empty : (e : Replacement) (es : List Replacement) → is_empty e ≡ true → nonempty (e ∷ es) ≡ nonempty es
nonempty-empty e es y = ap (λ b. if b then nonempty es else e ∷ nonempty es) y

pub nonempty-kept : (e : Replacement) (es : List Replacement) → is_empty e ≡ false → nonempty (e ∷ es) ≡ e ∷ nonempty es
nonempty-kept e es n = ap (λ b. if b then nonempty es else e ∷ nonempty es) n
