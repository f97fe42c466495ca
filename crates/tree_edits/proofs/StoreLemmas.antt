-- The changes of rows, by numbers: what a new number, and a changed change, do to each row.
use Rattle.std.proofs.Common.{◌≡◌, ℕ, zero, suc, ◌+◌, ◌<◌, ◌≤◌, List, [], ◌∷◌, ◌++◌, length, get_or, refl, sym, ap, ◌∙◌, subst, arith, get_or-set_other, get_or-set_same, inl, inr}
use Rattle.std.proofs.Math.ListN.{set}
use Rattle.std.proofs.lemmas.Bool.{cases_eq, cases_lt}
use Rattle.std.proofs.lemmas.List.{get_or_append_left, get_or-append-add}
use Rattle.tree_edit_model.specs.Changes.{Change, no_change, numbered, change_at, MarksFit}
use Rattle.tree_model.specs.Tree.{Tree}
use Rattle.tree_edits.specs.declared.change.Slot.{Slot}
use Rattle.tree_edits.specs.Added.{with_elements}
use Rattle.tree_edits.specs.Stored.{MarksDiffer, HasNumber, SameChanges, IsAdded}

mark_fits : (marks : List ℕ) (count k : ℕ) → MarksFit marks count → get_or marks k 0 ≤ count
mark_fits marks count k f = elim (cases_lt k (length marks)) [
  | inl lt ↦ f k lt
  | inr le ↦ subst (λ n. n ≤ count) (sym (past marks k le)) (omega arith)
]
  where
    past : (l : List ℕ) (k : ℕ) → length l ≤ k → get_or l k 0 ≡ 0
    past [] k h = refl
    past (x ∷ l) zero h = absurd (omega arith)
    past (x ∷ l) (suc k) h = past l k (omega (arith, h))

numbered-more : (changes : List Change) (m : ℕ) → m ≤ length changes → numbered (changes ++ no_change ∷ []) m ≡ numbered changes m
numbered-more changes zero h = refl
numbered-more changes (suc m) h = get_or_append_left changes (no_change ∷ []) no_change m (omega (arith, h))

numbered-new : (changes : List Change) → numbered (changes ++ no_change ∷ []) (suc (length changes)) ≡ no_change
numbered-new changes = let e : length changes ≡ length changes + 0 = omega arith in ap (λ n. get_or (changes ++ no_change ∷ []) n no_change) e ∙ get_or-append-add changes (no_change ∷ []) 0 no_change

-- a row without a change gets a number
pub new_number : (marks : List ℕ) (changes : List Change) (row k : ℕ) → row < length marks → MarksFit marks (length changes) → get_or marks row 0 ≡ 0
    → change_at (set marks row (length changes + 1)) (changes ++ no_change ∷ []) k ≡ change_at marks changes k
new_number marks changes row k lt fits none = elim (cases_eq k row) [
  | inl same ↦
      let e : length changes + 1 ≡ suc (length changes) = omega arith in
      ap (change_at (set marks row (length changes + 1)) (changes ++ no_change ∷ [])) same
      ∙ ap (numbered (changes ++ no_change ∷ [])) (get_or-set_same marks row (length changes + 1) 0 lt ∙ e)
      ∙ numbered-new changes
      ∙ sym (ap (change_at marks changes) same ∙ ap (numbered changes) none)
  | inr other ↦
      ap (numbered (changes ++ no_change ∷ [])) (get_or-set_other marks row k (length changes + 1) 0 other)
      ∙ numbered-more changes (get_or marks k 0) (mark_fits marks (length changes) k fits)
]

pub new_fits : (marks : List ℕ) (count row : ℕ) → row < length marks → MarksFit marks count → MarksFit (set marks row (count + 1)) (count + 1)
new_fits marks count row lt fits k h = elim (cases_eq k row) [
  | inl same ↦ omega (arith, ap (λ n. get_or (set marks row (count + 1)) n 0) same, get_or-set_same marks row (count + 1) 0 lt)
  | inr other ↦ omega (arith, get_or-set_other marks row k (count + 1) 0 other, mark_fits marks count k fits)
]

pub new_differ : (marks : List ℕ) (count row : ℕ) → row < length marks → MarksFit marks count → MarksDiffer marks → MarksDiffer (set marks row (count + 1))
new_differ marks count row lt fits differ j k some same = elim (cases_eq j row) [
  | inl a ↦ elim (cases_eq k row) [
    | inl b ↦ a ∙ sym b
    | inr d ↦ absurd (omega (arith, same, ap (λ n. get_or (set marks row (count + 1)) n 0) a, get_or-set_same marks row (count + 1) 0 lt, get_or-set_other marks row k (count + 1) 0 d, mark_fits marks count k fits))
  ]
  | inr c ↦ elim (cases_eq k row) [
    | inl b ↦ absurd (omega (arith, same, ap (λ n. get_or (set marks row (count + 1)) n 0) b, get_or-set_same marks row (count + 1) 0 lt, get_or-set_other marks row j (count + 1) 0 c, mark_fits marks count j fits))
    | inr d ↦
        differ j k (subst (λ n. 0 < n) (get_or-set_other marks row j (count + 1) 0 c) some)
        (sym (get_or-set_other marks row j (count + 1) 0 c) ∙ same ∙ get_or-set_other marks row k (count + 1) 0 d)
  ]
]

-- the change with a number is another now
pub set_same : (marks : List ℕ) (changes : List Change) (row n : ℕ) (c : Change) → n < length changes → get_or marks row 0 ≡ suc n → change_at marks (set changes n c) row ≡ c
set_same marks changes row n c lt is = ap (numbered (set changes n c)) is ∙ get_or-set_same changes n c no_change lt

pub set_other : (marks : List ℕ) (changes : List Change) (row k n : ℕ) (c : Change) → MarksDiffer marks → get_or marks row 0 ≡ suc n → (k ≡ row → ⊥) → change_at marks (set changes n c) k ≡ change_at marks changes k
set_other marks changes row k n c differ is other = go (get_or marks k 0) refl
  where
    go : (m : ℕ) → get_or marks k 0 ≡ m → numbered (set changes n c) (get_or marks k 0) ≡ numbered changes (get_or marks k 0)
    go zero e = ap (numbered (set changes n c)) e ∙ sym (ap (numbered changes) e)
    go (suc m) e =
        let ne : m ≡ n → ⊥ = λ same. other (differ k row (omega (arith, e)) (e ∙ ap suc same ∙ sym is)) in
        ap (numbered (set changes n c)) e ∙ get_or-set_other changes n m c no_change ne ∙ sym (ap (numbered changes) e)

pub added : (marks : List ℕ) (changes : List Change) (row n : ℕ) (slot : Slot) (ts : List Tree) (c : Change) → MarksDiffer marks → HasNumber marks changes row n → c ≡ with_elements (get_or changes n no_change) slot ts → IsAdded marks changes row slot ts marks (set changes n c)
added marks changes row n slot ts c differ h is = record {
  here = set_same marks changes row n c h.within h.is ∙ is ∙ ap (λ x. with_elements x slot ts) (sym (ap (numbered changes) h.is));
  others = λ k ne. set_other marks changes row k n c differ h.is ne;
}

pub added_after : (marks : List ℕ) (changes : List Change) (row : ℕ) (slot : Slot) (ts : List Tree) (marks1 marks2 : List ℕ) (changes1 changes2 : List Change) → SameChanges marks changes marks1 changes1 → IsAdded marks1 changes1 row slot ts marks2 changes2 → IsAdded marks changes row slot ts marks2 changes2
added_after marks changes row slot ts marks1 marks2 changes1 changes2 same h = record {
  here = h.here ∙ ap (λ x. with_elements x slot ts) (same row);
  others = λ k ne. h.others k ne ∙ same k;
}

pub same_after : (marks : List ℕ) (changes : List Change) (marks1 marks2 : List ℕ) (changes1 changes2 : List Change) → SameChanges marks changes marks1 changes1 → SameChanges marks1 changes1 marks2 changes2 → SameChanges marks changes marks2 changes2
same_after marks changes marks1 marks2 changes1 changes2 h w = λ k. w k ∙ h k
