-- The texts of rows without changes as one part of the text of the tree.
use Rattle.std.proofs.Common.{◌≡◌, ℕ, ◌+◌, ◌-◌, ◌<◌, ◌≤◌, List, [], ◌∷◌, ◌++◌, length, map, take, drop, refl, sym, ap, subst, ◌∙◌, arith, append-nil, length-append, inl, inr, true, false, take-add, drop-drop}
use Rattle.std.specs.Prelude.{IsUtf8, IsCharBoundary, if◌then◌else◌, nat_lt, Some, None}
use Rattle.std.proofs.lemmas.Bool.{cases_Bool}
use Rattle.std.proofs.lemmas.Bool.Decides.{nat_tests}
use Rattle.std.proofs.lemmas.Str.{IsCharBoundary-at_seam, IsUtf8-append, IsCharBoundary-end}
use Rattle.std.proofs.Math.Seq.{take-append_seam, drop-append_seam}
use Rattle.tree_model.specs.Tree.{Tree, node, token, nil, cons, text, size, IsNode, is_token}
use Rattle.tree_model.specs.Rows.{TextsAreUtf8, tree_at, start_at, end_at}
use Rattle.tree_model.specs.Events.{Event, enter, leaf, exit, texts}
use Rattle.tree_model.proofs.At.{below_or_after, some_row, forest_size-cons}
use Rattle.tree_model.proofs.Texts.{Split, split, forest_text-cons}
use Rattle.tree_model.proofs.TableLemmas.{at_row, last_end_at}
use Rattle.tree_model.proofs.EditLemmas.{within_rows}
use Rattle.tree_rows.proofs.Starts.{behind_starts, first_starts}
use Rattle.tree_rows.proofs.StepLemmas.{end_of_row}
use Rattle.tree_rows.specs.Builder.{events_from, TextsFit, step_of}
use Rattle.tree_edits.specs.Walked.{step_events}
use Rattle.tree_edits.specs.Unchanged.{offset_of, end_of_token, between, AreTexts}

-- ---- where rows start

pub offset-row : (t : Tree) (n : ℕ) → n < size t → offset_of t n ≡ start_at t n
offset-row t n h = elim (cases_Bool (nat_lt n (size t))) [ inl yes' ↦ ap (λ b. if b then start_at t n else length (text t)) yes' | inr no' ↦ absurd (not_below n (size t) no' h) ]
  where
    not_below : (n m : ℕ) → nat_lt n m ≡ false → n < m → ⊥
    not_below n m e h = grind (arith, nat_tests)

offset-end : (t : Tree) (n : ℕ) → size t ≤ n → offset_of t n ≡ length (text t)
offset-end t n h = elim (cases_Bool (nat_lt n (size t))) [ inl yes' ↦ absurd (not_behind n (size t) yes' h) | inr no' ↦ ap (λ b. if b then start_at t n else length (text t)) no' ]
  where
    not_behind : (n m : ℕ) → nat_lt n m ≡ true → m ≤ n → ⊥
    not_behind n m e h = grind (arith, nat_tests)

-- the row behind one without rows in it starts where that ends
offset-behind : (t : Tree) (n : ℕ) → n < size t → size (tree_at t n) ≡ 1 → offset_of t (n + 1) ≡ end_at t n
offset-behind t n h one = elim (below_or_after (n + 1) (size t)) [
  | inl lt ↦ offset-row t (n + 1) lt ∙ behind_starts t n (n + 1) h (omega (arith, one, end_of_row t n h)) lt
  | inr done ↦ offset-end t (n + 1) (omega (arith, done.1)) ∙ last_end_at t n (n + 1) h (omega (arith, one)) (omega (arith, done.1))
]

one_token : (u : Tree) → is_token u ≡ true → size u ≡ 1
one_token (node k c) e = (let no : false ≡ true = e in cc)
one_token (token k x) e = refl

empty_node : (u : Tree) → IsNode u → size u ≤ 1 → (size u ≡ 1) × (length (text u) ≡ 0)
empty_node (token k x) h le = absurd h
empty_node (node k nil) h le = (omega arith, refl)
empty_node (node k (cons u r)) h le = absurd (omega (arith, le, some_row u, forest_size-cons u r))

pub token_end-some : (t : Tree) (n e : ℕ) (u : Tree) → Some e ≡ end_of_token t n u → (is_token u ≡ true) × (e ≡ end_at t n)
token_end-some t n e (node k c) h = (let no : Some e ≡ None = h in cc)
token_end-some t n e (token k x) h = (refl, (let is : Some e ≡ Some (end_at t n) = h in cc))

pub token_end-none : (t : Tree) (n : ℕ) (u : Tree) → None ≡ end_of_token t n u → IsNode u
token_end-none t n (node k c) h = tt
token_end-none t n (token k x) h = (let no : None ≡ Some (end_at t n) = h in cc)

pub offset-token : (t : Tree) (n : ℕ) → n < size t → is_token (tree_at t n) ≡ true → offset_of t (n + 1) ≡ end_at t n
offset-token t n h is = offset-behind t n h (one_token (tree_at t n) is)

pub offset-node : (t : Tree) (n : ℕ) → n < size t → IsNode (tree_at t n) → offset_of t (n + 1) ≡ offset_of t n
offset-node t n h is = elim (below_or_after 1 (size (tree_at t n))) [
  | inl more ↦
      let lt : n + 1 < size t = fits more in
      offset-row t (n + 1) lt ∙ first_starts t n (n + 1) h (omega arith) (omega (arith, more, end_of_row t n h)) ∙ sym (offset-row t n h)
  | inr done ↦
      let empty = empty_node (tree_at t n) is (omega (arith, done.1)) in
      offset-behind t n h empty.0 ∙ omega (arith, empty.1) ∙ sym (offset-row t n h)
]
  where
    fits : 1 < size (tree_at t n) → n + 1 < size t
    fits more = omega (arith, more, within_rows t n h)

-- ---- parts of the text

regrouped : {t u : Tree} {b : ℕ} (w : Split (cons t nil) u b) → text t ≡ w.before ++ (text u ++ w.behind)
regrouped {t = t} w = sym (append-nil (text t)) ∙ sym (forest_text-cons t nil) ∙ w.is

pub text_there : (t : Tree) (n : ℕ) → TextsAreUtf8 (cons t nil) → n < size t → take (length (text (tree_at t n))) (drop (start_at t n) (text t)) ≡ text (tree_at t n)
text_there t n utf8 h =
    let w = split (at_row t n h) utf8 in
    let x = text (tree_at t n) in
    ap (λ l. take (length x) l) (ap (λ b. drop b (text t)) (sym w.start_is) ∙ ap (drop (length w.before)) (regrouped w) ∙ drop-append_seam w.before (x ++ w.behind)) ∙ take-append_seam x w.behind

pub row_utf8 : (t : Tree) (n : ℕ) → TextsAreUtf8 (cons t nil) → n < size t → IsUtf8 (text (tree_at t n))
row_utf8 t n utf8 h = (split (at_row t n h) utf8).utf8_here

pub offset-boundary : (t : Tree) (n : ℕ) → TextsAreUtf8 (cons t nil) → IsCharBoundary (text t) (offset_of t n)
offset-boundary t n utf8 = elim (below_or_after n (size t)) [
  | inl lt ↦
      let w = split (at_row t n lt) utf8 in
      subst (IsCharBoundary (text t)) (w.start_is ∙ sym (offset-row t n lt))
      (IsCharBoundary-at_seam (text t) w.before (text (tree_at t n) ++ w.behind) (regrouped w) (IsUtf8-append (text (tree_at t n)) w.behind w.utf8_here w.utf8_behind))
  | inr done ↦ subst (IsCharBoundary (text t)) (sym (offset-end t n (omega (arith, done.1)))) (IsCharBoundary-end (text t))
]

pub between-more : (s x : List ℕ) (a b : ℕ) → a ≤ b → take (length x) (drop b s) ≡ x → between s a (b + length x) ≡ between s a b ++ x
between-more s x a b le is =
    let span : (b + length x) - a ≡ (b - a) + length x = omega arith in
    let back : a + (b - a) ≡ b = omega arith in
    ap (λ n. take n (drop a s)) span
    ∙ take-add (b - a) (length x) (drop a s)
    ∙ ap (λ l. between s a b ++ take (length x) l) (drop-drop (b - a) a s ∙ ap (λ n. drop n s) back)
    ∙ ap (λ l. between s a b ++ l) is

pub between-none : (s : List ℕ) (a : ℕ) → between s a a ≡ []
between-none s a = let none : a - a ≡ 0 = omega arith in ap (λ n. take n (drop a s)) none

-- ---- steps and events

pub AreTexts-append : (es fs : List Event) → AreTexts es → AreTexts fs → AreTexts (es ++ fs)
AreTexts-append [] fs h k = k
AreTexts-append (enter a ∷ es) fs h k = AreTexts-append es fs h k
AreTexts-append (leaf a t ∷ es) fs h k = (h.0, AreTexts-append es fs h.1 k)
AreTexts-append (exit ∷ es) fs h k = AreTexts-append es fs h k

pub steps_fit : (es : List Event) → AreTexts es → TextsFit (map step_of es) (texts es)
steps_fit [] h = refl
steps_fit (enter a ∷ es) h = steps_fit es h
steps_fit (exit ∷ es) h = steps_fit es h
steps_fit (leaf a t ∷ es) h = (
  omega (arith, length-append t (texts es)),
  subst IsUtf8 (sym (take-append_seam t (texts es))) h.0,
  subst (TextsFit (map step_of es)) (sym (drop-append_seam t (texts es))) (steps_fit es h.1),
)

pub steps_events : (es : List Event) → events_from (map step_of es) (texts es) ≡ es
steps_events [] = refl
steps_events (enter a ∷ es) = ap (λ l. enter a ∷ l) (steps_events es)
steps_events (exit ∷ es) = ap (λ l. exit ∷ l) (steps_events es)
steps_events (leaf a t ∷ es) =
    rw (take-append_seam t (texts es), drop-append_seam t (texts es)) (ap (λ l. leaf a t ∷ l) (steps_events es))

pub token_text : (u : Tree) → is_token u ≡ true → texts (step_events u true) ≡ text u
token_text (node k c) e = (let no : false ≡ true = e in cc)
token_text (token k x) e = append-nil x

pub node_text : (u : Tree) → IsNode u → texts (step_events u true) ≡ []
node_text (node k c) h = refl
node_text (token k x) h = absurd h

pub entered_texts : (u : Tree) → IsUtf8 (text u) → AreTexts (step_events u true)
entered_texts (node k c) h = tt
entered_texts (token k x) h = (h, tt)
