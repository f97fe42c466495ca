-- Runs of siblings.
use Rattle.std.proofs.Common.{◌≡◌, ℕ, suc, ◌+◌, ◌-◌, ◌<◌, List, [], ◌∷◌, ◌++◌, length, take, drop, get_or, refl, sym, ap, ◌∙◌, subst, arith, true, inl, inr, get_or-set_other}
use Rattle.std.proofs.Math.ListN.{set}
use Rattle.std.specs.Prelude.{Result, Ok, Err, OnOk, Some, None, nat_lt, if◌then◌else◌}
use Rattle.std.proofs.lemmas.Bool.{cases_Bool}
use Rattle.std.proofs.lemmas.Bool.Decides.{nat_tests}
use Rattle.std.proofs.lemmas.List.{drop_more, take_more}
use Rattle.tree_model.specs.Tree.{Tree, cons, nil, size, Place, place_above, last_position, sibling_count, child_count, forest_of_children, subtree, next_sibling_place}
use Rattle.tree_model.specs.Rows.{place_at}
use Rattle.tree_model.proofs.At.{place_above-append, last_position-append}
use Rattle.tree_model.proofs.TableLemmas.{at_row}
use Rattle.tree_edit_model.specs.Changes.{Change, no_change}
use Rattle.tree_edits.specs.declared.change.Slot.TheVariants.{Instead}
use Rattle.tree_edits.specs.declared.error.ChangeError.{ChangeError}
use Rattle.tree_edits.specs.declared.error.ChangeError.TheVariants.{OtherTree, NotSiblings, Root, Token, Replaced, InReplaced, ChangedInside, TooLong, Memory}
use Rattle.tree_edits.specs.Added.{with_elements}
use Rattle.tree_edits.specs.Rowed.{row_of}
use Rattle.tree_edits.specs.Stored.{IsMarked, KeepsMarks, HasNumber}
use Rattle.tree_edits.specs.Session.{Session}
use Rattle.tree_edits.specs.Refused.{IsRefused}
use Rattle.tree_edits.specs.Run.{IsNextSibling, IsRun, AreTaken, IsFirstRefused, IsRunRefused, AreBelow, AreMarked, deleted, run_replaced, with_run, IsRunReplaced}
use Rattle.tree_edits.proofs.RowLemmas.{row_at_place}

-- ---- lists of rows

pub below_rest : (n : ℕ) (rows : List ℕ) (i : ℕ) → i < length rows → AreBelow n (drop i rows) → (get_or rows i 0 < n) × AreBelow n (drop (i + 1) rows)
below_rest n rows i lt h = subst (AreBelow n) (drop_more rows i 0 lt) h

pub marked_rest : (marks rows : List ℕ) (i : ℕ) → i < length rows → AreMarked marks (drop i rows) → IsMarked marks (get_or rows i 0) × AreMarked marks (drop (i + 1) rows)
marked_rest marks rows i lt h = subst (AreMarked marks) (drop_more rows i 0 lt) h

pub marked_kept : (marks marks' rows : List ℕ) → KeepsMarks marks marks' → AreMarked marks rows → AreMarked marks' rows
marked_kept marks marks' [] k h = tt
marked_kept marks marks' (r ∷ rows) k h = (k r h.0, marked_kept marks marks' rows k h.1)

one_more : (marks rows : List ℕ) (k : ℕ) → AreMarked marks rows → IsMarked marks k → AreMarked marks (rows ++ k ∷ [])
one_more marks [] k h is = (is, tt)
one_more marks (r ∷ rows) k h is = (h.0, one_more marks rows k h.1 is)

pub has_mark : (marks : List ℕ) (changes : List Change) (row n : ℕ) → HasNumber marks changes row n → IsMarked marks row
has_mark marks changes row n h = omega (arith, h.is)

pub marked_more : (marks marks' rows : List ℕ) (i : ℕ) → i < length rows → KeepsMarks marks marks' → AreMarked marks (take i rows) → IsMarked marks' (get_or rows i 0) → AreMarked marks' (take (i + 1) rows)
marked_more marks marks' rows i lt k h is = subst (AreMarked marks') (sym (take_more rows i 0 lt)) (one_more marks' (take i rows) (get_or rows i 0) (marked_kept marks marks' (take i rows) k h) is)

pub deleted_rest : (cs cs' W : List Change) (rows : List ℕ) (i : ℕ) → i < length rows → cs' ≡ set cs (get_or rows i 0) (with_elements (get_or cs (get_or rows i 0) no_change) Instead []) → deleted cs (drop i rows) ≡ W → deleted cs' (drop (i + 1) rows) ≡ W
deleted_rest cs cs' W rows i lt e h = ap (λ l. deleted l (drop (i + 1) rows)) e ∙ sym (ap (deleted cs) (drop_more rows i 0 lt)) ∙ h

-- ---- siblings

-- how many siblings a place has from itself on
abbrev pub siblings_from : Tree → Place → ℕ
siblings_from tree p = child_count (forest_of_children (subtree tree (place_above p))) - last_position p

counted : (tree : Tree) (p : Place) (n : ℕ) → n < sibling_count tree p → n < child_count (forest_of_children (subtree tree (place_above p)))
counted tree [] n h = absurd (omega (arith, h))
counted tree (i ∷ p) n h = h

is_below : (n m : ℕ) → nat_lt n m ≡ true → n < m
is_below n m h = grind (arith, nat_tests)

pub next_falls : (tree : Tree) (p q : Place) → next_sibling_place tree p ≡ Some q → siblings_from tree q < siblings_from tree p
next_falls tree p q h = elim (cases_Bool (nat_lt (suc (last_position p)) (sibling_count tree p))) [
  | inl yes' ↦
      let lt : suc (last_position p) < child_count (forest_of_children (subtree tree (place_above p))) = counted tree p (suc (last_position p)) (is_below (suc (last_position p)) (sibling_count tree p) yes') in
      let is : Some q ≡ Some (place_above p ++ suc (last_position p) ∷ []) = sym h ∙ ap (λ b. if b then Some (place_above p ++ suc (last_position p) ∷ []) else None) yes' in
      let q_is : q ≡ place_above p ++ suc (last_position p) ∷ [] = cc in
      let above : place_above q ≡ place_above p = ap place_above q_is ∙ place_above-append (place_above p) (suc (last_position p)) in
      let last : last_position q ≡ suc (last_position p) = ap last_position q_is ∙ last_position-append (place_above p) (suc (last_position p)) in
      omega (arith, lt, last, ap (λ r. child_count (forest_of_children (subtree tree r))) above)
  | inr no' ↦ (let off : Some q ≡ None = sym h ∙ ap (λ b. if b then Some (place_above p ++ suc (last_position p) ∷ []) else None) no' in cc)
]

one_row : (tree : Tree) (k m : ℕ) → k < size tree → m < size tree → place_at tree k ≡ place_at tree m → k ≡ m
one_row tree k m h j e = sym (row_at_place (at_row tree k h)) ∙ ap (λ p. row_of (cons tree nil) (0 ∷ p)) e ∙ row_at_place (at_row tree m j)

-- ---- runs

-- a run goes on
pub run_more : (tree : Tree) (n m k : ℕ) (ks : List ℕ) → IsRun tree n m ks → IsNextSibling tree m k → IsRun tree n k (ks ++ k ∷ [])
run_more tree n m k [] e h = (subst (λ x. IsNextSibling tree x k) (sym e) h, refl)
run_more tree n m k (j ∷ ks) e h = (e.0, run_more tree j m k ks e.1 h)

-- some run
pub record HasRun (tree : Tree) (n m : ℕ) : Type 0 where
  pub rows : List ℕ
  pub is : IsRun tree n m rows

-- a run that has not ended goes through the next sibling
pub run_on : (tree : Tree) (n m k : ℕ) → (n ≡ m → ⊥) → IsNextSibling tree n k → HasRun tree n m → HasRun tree k m
run_on tree n m k other next w = go w.rows w.is
  where
    go : (ks : List ℕ) → IsRun tree n m ks → HasRun tree k m
    go [] e = absurd (other e)
    go (j ∷ ks) e =
        let same : Some (place_at tree j) ≡ Some (place_at tree k) = sym e.0.1 ∙ next.1 in
        let at : place_at tree j ≡ place_at tree k = cc in
        record { rows = ks; is = subst (λ x. IsRun tree x m ks) (one_row tree j k e.0.0 next.0 at) e.1 }

pub no_run_on : (tree : Tree) (n m : ℕ) → (n ≡ m → ⊥) → next_sibling_place tree (place_at tree n) ≡ None → HasRun tree n m → ⊥
no_run_on tree n m other none w = go w.rows w.is
  where
    go : (ks : List ℕ) → IsRun tree n m ks → ⊥
    go [] e = other e
    go (j ∷ ks) e = (let off : Some (place_at tree j) ≡ None = sym e.0.1 ∙ none in cc)

pub run_below : (tree : Tree) (n m : ℕ) (ks : List ℕ) → IsRun tree n m ks → AreBelow (size tree) ks
run_below tree n m [] h = tt
run_below tree n m (k ∷ ks) h = (h.0.0, run_below tree k m ks h.1)

-- ---- refusals

never : (s : Session) (ks : List ℕ) (e : ChangeError) → ((k : ℕ) → IsRefused s k Instead e → ⊥) → IsFirstRefused s ks e → ⊥
never s [] e h r = r
never s (k ∷ ks) e h (inl r) = h k r
never s (k ∷ ks) e h (inr r) = never s ks e h r.1

pub run_refused : (s : Session) (n m : ℕ) (ks : List ℕ) (e : ChangeError) → IsRun s.tree n m ks → IsFirstRefused s (n ∷ ks) e → (e ≡ Memory → ⊥) → IsRunRefused s n m e
run_refused s n m ks OtherTree run r h = (ks, run, r)
run_refused s n m ks NotSiblings run r h = absurd (never s (n ∷ ks) NotSiblings (λ k x. x) r)
run_refused s n m ks Root run r h = (ks, run, r)
run_refused s n m ks Token run r h = (ks, run, r)
run_refused s n m ks Replaced run r h = (ks, run, r)
run_refused s n m ks InReplaced run r h = (ks, run, r)
run_refused s n m ks ChangedInside run r h = (ks, run, r)
run_refused s n m ks TooLong run r h = (ks, run, r)
run_refused s n m ks Memory run r h = tt

-- ---- the root

deleted_root : (s : Session) (cs : List Change) (ks : List ℕ) → AreTaken s ks → get_or (deleted cs ks) 0 no_change ≡ get_or cs 0 no_change
deleted_root s cs [] h = refl
deleted_root s cs (k ∷ ks) h =
    let c : Change = with_elements (get_or cs k no_change) Instead [] in
    deleted_root s (set cs k c) ks h.1 ∙ get_or-set_other cs k 0 c no_change (λ e. h.0.root (sym e))

pub run_root : (s : Session) (cs : List Change) (n : ℕ) (ks : List ℕ) (ts : List Tree) → AreTaken s (n ∷ ks) → get_or (run_replaced cs n ks ts) 0 no_change ≡ get_or cs 0 no_change
run_root s cs n ks ts h =
    let c : Change = with_elements (get_or cs n no_change) Instead ts in
    deleted_root s (set cs n c) ks h.1 ∙ get_or-set_other cs n 0 c no_change (λ e. h.0.root (sym e))

pub run_done : {T E : Type 0} (r : Result T E) (s s' : Session) (n m : ℕ) (ks : List ℕ) (ts : List Tree) → IsRun s.tree n m ks → AreTaken s (n ∷ ks) → OnOk r (s' ≡ with_run s n ks ts) → OnOk r (IsRunReplaced s n m ts s')
run_done (Ok x) s s' n m ks ts run taken is = record { others = ks; is_run = run; taken = taken; is = is }
run_done (Err x) s s' n m ks ts run taken is = tt
