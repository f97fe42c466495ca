-- The place of a row has that row's number.
use Rattle.std.specs.Prelude.{Result, Ok, Err, OnOk, OnErr, All, IsTrue}
use Rattle.std.proofs.Common.{◌≡◌, ℕ, zero, suc, ◌+◌, ◌<◌, List, [], ◌∷◌, length, get_or, refl, sym, ap, subst, ◌∙◌, arith, get_or-set_other, get_or-set_same, inl, inr, Bool, true, false}
use Rattle.syntax_kind.specs.declared.syntax_kind.SyntaxKind.{SyntaxKind}
use Rattle.tree_model.specs.Tree.{Tree, node, token, Forest, nil, cons, size, Place, IsToken, is_token}
use Rattle.tree_model.proofs.At.{At, here, below, after, no_empty_place}
use Rattle.tree_model.proofs.TableLemmas.{at_row}
use Rattle.tree_edit_model.specs.Changes.{Change, change_at, no_change, numbered, MarksFit}
use Rattle.std.proofs.Math.ListN.{set, length-set}
use Rattle.std.proofs.lemmas.Bool.{cases_eq}
use Rattle.tree_edits.specs.declared.change.Slot.{Slot}
use Rattle.tree_edits.specs.declared.change.Slot.TheVariants.{Before, Instead, First, Last, After}
use Rattle.tree_edits.specs.Added.{with_elements}
use Rattle.tree_edits.specs.Stored.{SameChanges, IsAdded, rows_of, AreRowsOf}
use Rattle.tree_edits.specs.Session.{Session, at_of, change_of}
use Rattle.tree_edits.specs.Refused.{IsBesideRoot}
use Rattle.tree_edits.specs.Walked.{AreChangesOf}
use Rattle.tree_edits.specs.Rowed.{row_of, IsRootChange}

pub row_here : (u : Tree) (r : Forest) → row_of (cons u r) (zero ∷ []) ≡ 0
row_here (token k t) r = refl
row_here (node k c) r = refl

row_below : (k : SyntaxKind) (c r : Forest) (p : Place) (n : ℕ) → (p ≡ [] → ⊥) → row_of c p ≡ n → row_of (cons (node k c) r) (zero ∷ p) ≡ suc n
row_below k c r [] n some h = absurd (some refl)
row_below k c r (j ∷ p) n some h = ap suc h

row_after : (u : Tree) (r : Forest) (i : ℕ) (p : Place) (n m : ℕ) → m ≡ size u + n → row_of r (i ∷ p) ≡ n → row_of (cons u r) (suc i ∷ p) ≡ m
row_after (token k t) r i p n m e h = omega (arith, e, h)
row_after (node k c) r i p n m e h = omega (arith, e, h)

not_empty : {f : Forest} {n : ℕ} {t : Tree} {b : ℕ} (p : Place) → At f n p t b → p ≡ [] → ⊥
not_empty [] a e = no_empty_place a
not_empty (i ∷ p) a e = (let no : (i ∷ p) ≡ [] = e in cc)

pub row_at_place : {f : Forest} {n : ℕ} {p : Place} {t : Tree} {b : ℕ} → At f n p t b → row_of f p ≡ n
row_at_place (here {u} {r}) = row_here u r
row_at_place (below {k} {c} {r} {n} {p} a) = row_below k c r p n (not_empty p a) (row_at_place a)
row_at_place (after {u} {r} {n} {m} {i} {p} is_m is_d a) = row_after u r i p n m is_m (row_at_place a)

-- ---- the changes of rows, as a list

pub row_change : (marks : List ℕ) (changes : List Change) (k : ℕ) → get_or (rows_of marks changes) k no_change ≡ change_at marks changes k
row_change [] changes k = refl
row_change (m ∷ marks) changes zero = refl
row_change (m ∷ marks) changes (suc k) = row_change marks changes k

pub rows-length : (marks : List ℕ) (changes : List Change) → length (rows_of marks changes) ≡ length marks
rows-length [] changes = refl
rows-length (m ∷ marks) changes = ap suc (rows-length marks changes)

same_lists : (xs ys : List Change) → length xs ≡ length ys → ((k : ℕ) → get_or xs k no_change ≡ get_or ys k no_change) → xs ≡ ys
same_lists [] [] e h = refl
same_lists [] (y ∷ ys) e h = absurd (omega (arith, e))
same_lists (x ∷ xs) [] e h = absurd (omega (arith, e))
same_lists (x ∷ xs) (y ∷ ys) e h = ap (λ a. a ∷ xs) (h 0) ∙ ap (λ l. y ∷ l) (same_lists xs ys (omega (arith, e)) (λ k. h (suc k)))

pub same_rows : (marks : List ℕ) (changes : List Change) (marks' : List ℕ) (changes' : List Change) → length marks' ≡ length marks → SameChanges marks changes marks' changes' → rows_of marks' changes' ≡ rows_of marks changes
same_rows marks changes marks' changes' e h = same_lists (rows_of marks' changes') (rows_of marks changes) (rows-length marks' changes' ∙ e ∙ sym (rows-length marks changes)) (λ k. row_change marks' changes' k ∙ h k ∙ sym (row_change marks changes k))

pub added_rows : (marks : List ℕ) (changes : List Change) (row : ℕ) (slot : Slot) (ts : List Tree) (marks' : List ℕ) (changes' : List Change) → row < length marks → length marks' ≡ length marks → IsAdded marks changes row slot ts marks' changes'
    → rows_of marks' changes' ≡ set (rows_of marks changes) row (with_elements (get_or (rows_of marks changes) row no_change) slot ts)
added_rows marks changes row slot ts marks' changes' lt e h =
    let R : List Change = rows_of marks changes in
    let c : Change = with_elements (get_or R row no_change) slot ts in
    same_lists (rows_of marks' changes') (set R row c) (rows-length marks' changes' ∙ e ∙ sym (rows-length marks changes) ∙ sym (length-set R row c)) (λ k. row_change marks' changes' k ∙ elim (cases_eq k row) [
      | inl same ↦
          ap (change_at marks' changes') same ∙ h.here ∙ ap (λ x. with_elements x slot ts) (sym (row_change marks changes row))
          ∙ sym (get_or-set_same R row c no_change (omega (arith, lt, rows-length marks changes))) ∙ ap (λ n. get_or (set R row c) n no_change) (sym same)
      | inr other ↦ h.others k other ∙ sym (row_change marks changes k) ∙ sym (get_or-set_other R row k c no_change other)
    ])

pub session_is : (tree : Tree) (rows rows' : List Change) (s : Session) → record { tree = tree; rows = rows' } ≡ s → rows ≡ rows' → record { tree = tree; rows = rows } ≡ s
session_is tree rows rows' s is e = ap (λ l. session tree l) e ∙ is
  where
    session : Tree → List Change → Session
    session t l = record { tree = t; rows = l }

inside_only : (c d : Change) (slot : Slot) (ts : List Tree) → (IsBesideRoot 0 slot → ⊥) → d ≡ with_elements c slot ts → IsRootChange c → IsRootChange d
inside_only c d First ts free e r = subst IsRootChange (sym e) (record { none_before = r.none_before; none_instead = r.none_instead; none_after = r.none_after })
inside_only c d Last ts free e r = subst IsRootChange (sym e) (record { none_before = r.none_before; none_instead = r.none_instead; none_after = r.none_after })
inside_only c d Before ts free e r = absurd (free refl)
inside_only c d Instead ts free e r = absurd (free refl)
inside_only c d After ts free e r = absurd (free refl)

pub root_kept : (marks : List ℕ) (changes : List Change) (row : ℕ) (slot : Slot) (ts : List Tree) (marks' : List ℕ) (changes' : List Change) → (IsBesideRoot row slot → ⊥) → IsAdded marks changes row slot ts marks' changes' → IsRootChange (change_at marks changes 0) → IsRootChange (change_at marks' changes' 0)
root_kept marks changes row slot ts marks' changes' free h r = elim (cases_eq row 0) [
  | inl root ↦
      inside_only (change_at marks changes 0) (change_at marks' changes' 0) slot ts (subst (λ n. IsBesideRoot n slot → ⊥) root free)
      (ap (change_at marks' changes') (sym root) ∙ h.here ∙ ap (λ n. with_elements (change_at marks changes n) slot ts) root) r
  | inr other ↦ subst IsRootChange (sym (h.others 0 (λ e. other (sym e)))) r
]

-- after a call that may have failed
pub kept_after : {T E : Type 0} (r : Result T E) (marks : List ℕ) (changes : List Change) (row : ℕ) (slot : Slot) (ts : List Tree) (marks' : List ℕ) (changes' : List Change) → (IsBesideRoot row slot → ⊥) → OnOk r (IsAdded marks changes row slot ts marks' changes') → OnErr r (SameChanges marks changes marks' changes') → IsRootChange (change_at marks changes 0) → IsRootChange (change_at marks' changes' 0)
kept_after (Ok x) marks changes row slot ts marks' changes' free ok err r = root_kept marks changes row slot ts marks' changes' free ok r
kept_after (Err x) marks changes row slot ts marks' changes' free ok err r = subst IsRootChange (sym (err 0)) r

-- a caller sees the change of a row
pub seen : (tree : Tree) (marks : List ℕ) (changes : List Change) (s : Session) (k : ℕ) → record { tree = tree; rows = rows_of marks changes } ≡ s → change_of s k ≡ change_at marks changes k
seen tree marks changes s k is = sym (ap (λ x. change_of x k) is) ∙ row_change marks changes k

default_same : (xs : List Change) (k : ℕ) (c d : Change) → k < length xs → get_or xs k c ≡ get_or xs k d
default_same [] k c d lt = absurd (omega (arith, lt))
default_same (x ∷ xs) zero c d lt = refl
default_same (x ∷ xs) (suc k) c d lt = default_same xs k c d (omega (arith, lt))

pub new_rows : (marks : List ℕ) (changes : List Change) → length changes ≡ 0 → MarksFit marks (length changes) → All (λ c. c ≡ no_change) (rows_of marks changes)
new_rows marks changes e fits k d lt =
    let z : get_or marks k 0 ≡ 0 = omega (arith, fits k (omega (arith, lt, rows-length marks changes)), e) in
    default_same (rows_of marks changes) k d no_change lt ∙ row_change marks changes k ∙ ap (numbered changes) z

pub is_token_tells : (t : Tree) (b : Bool) → b ≡ is_token t → (IsTrue b → IsToken t) × (IsToken t → IsTrue b)
is_token_tells (node k c) b e = ((λ h. (let n : false ≡ true = sym e ∙ h in cc)), (λ h. absurd h))
is_token_tells (token k t) b e = ((λ h. tt), (λ h. e))

pub changes_of_rows : (tree : Tree) (marks : List ℕ) (changes : List Change) → AreRowsOf tree marks changes → AreChangesOf (at_of (record { tree = tree; rows = rows_of marks changes })) tree marks changes
changes_of_rows tree marks changes rows =
    let first : row_of (cons tree nil) (0 ∷ []) ≡ 0 = row_here tree nil in
    let same : at_of (record { tree = tree; rows = rows_of marks changes }) [] ≡ change_at marks changes 0 = ap (λ n. get_or (rows_of marks changes) n no_change) first ∙ row_change marks changes 0 in
    record {
      long = rows.long;
      each = λ n h. ap (λ k. get_or (rows_of marks changes) k no_change) (row_at_place (at_row tree n h)) ∙ row_change marks changes n;
      none_before = ap (λ c. c.before) same ∙ rows.root.none_before;
      none_instead = ap (λ c. c.replaced) same ∙ rows.root.none_instead;
      none_after = ap (λ c. c.after) same ∙ rows.root.none_after;
    }
