-- Searches by kind, one row at a time.
use Rattle.std.proofs.Common.{◌≡◌, ℕ, zero, suc, ◌+◌, ◌-◌, ◌<◌, ◌≤◌, inl, inr, List, [], ◌∷◌, cond, Bool, true, false, ◌&&◌, not, refl, sym, ap, subst, ◌∙◌, arith}
use Rattle.std.specs.Prelude.{None, Some}
use Rattle.std.specs.List.{filter, find}
use Rattle.syntax_kind.specs.declared.syntax_kind.SyntaxKind.{SyntaxKind}
use Rattle.tree_model.specs.Tree.{Tree, node, token, size, IsNode, IsToken, is_node, is_token, kind_of}
use Rattle.tree_model.specs.Rows.{tree_at}
use Rattle.tree_model.specs.Cursor.{Cursor, at_node, at_token, cursor_at, cursors_from}
use Rattle.tree_model.proofs.At.{below_or_after}
use Rattle.tree_rows.specs.declared.rows.Row.{Row}
use Rattle.tree_rows.specs.Rows.{row_at}
use Rattle.tree_rows.specs.KindSearch.{is_among, is_node_among, is_token_among, first_node_among, first_token_among, after_first}
use Rattle.tree_rows.specs.RowKinds.{NoNodesAmong}
use Rattle.tree_rows.specs.Walks.{siblings_left, HaveParentEnd}
use Rattle.tree_rows.proofs.StepLemmas.{row_kind, row_is_token, end_is_behind}
use Rattle.tree_rows.proofs.ChildLists.{siblings_left-step}

-- ---- what a row says of the cursor

node_bit : (t : Tree) → is_node t ≡ not (is_token t)
node_bit (node k c) = refl
node_bit (token k s) = refl

pub node_row : (kinds : SyntaxKind → Bool) (tree : Tree) (n : ℕ) (r : Row) → n < size tree → r ≡ row_at tree n → (not r.is_token && kinds r.kind) ≡ is_node_among kinds (cursor_at tree n)
node_row kinds tree n r h is =
    ap (λ b. not b && kinds r.kind) (ap (λ r. r.is_token) is ∙ row_is_token tree n h)
    ∙ ap (λ k. not (is_token (tree_at tree n)) && kinds k) (ap (λ r. r.kind) is ∙ row_kind tree n h)
    ∙ ap (λ b. b && kinds (kind_of (tree_at tree n))) (sym (node_bit (tree_at tree n)))

pub token_row : (kinds : SyntaxKind → Bool) (tree : Tree) (n : ℕ) (r : Row) → n < size tree → r ≡ row_at tree n → (r.is_token && kinds r.kind) ≡ is_token_among kinds (cursor_at tree n)
token_row kinds tree n r h is =
    ap (λ b. b && kinds r.kind) (ap (λ r. r.is_token) is ∙ row_is_token tree n h)
    ∙ ap (λ k. is_token (tree_at tree n) && kinds k) (ap (λ r. r.kind) is ∙ row_kind tree n h)

left : (a b : Bool) → (a && b) ≡ true → a ≡ true
left true b e = refl
left false b e = e

node_there : (t : Tree) → is_node t ≡ true → IsNode t
node_there (node k c) e = tt
node_there (token k s) e = (let no : false ≡ true = e in cc)

token_there : (t : Tree) → is_token t ≡ true → IsToken t
token_there (node k c) e = (let no : false ≡ true = e in cc)
token_there (token k s) e = tt

pub node_found : (kinds : SyntaxKind → Bool) (tree : Tree) (n : ℕ) (b : Bool) → b ≡ is_node_among kinds (cursor_at tree n) → b ≡ true → IsNode (tree_at tree n)
node_found kinds tree n b is e = node_there (tree_at tree n) (left (at_node (cursor_at tree n)) (is_among kinds (cursor_at tree n)) (sym is ∙ e))

pub token_found : (kinds : SyntaxKind → Bool) (tree : Tree) (n : ℕ) (b : Bool) → b ≡ is_token_among kinds (cursor_at tree n) → b ≡ true → IsToken (tree_at tree n)
token_found kinds tree n b is e = token_there (tree_at tree n) (left (at_token (cursor_at tree n)) (is_among kinds (cursor_at tree n)) (sym is ∙ e))

-- ---- a run of rows

pub none_more : (kinds : SyntaxKind → Bool) (tree : Tree) (a b : ℕ) → NoNodesAmong kinds tree a b → is_node_among kinds (cursor_at tree b) ≡ false → NoNodesAmong kinds tree a (b + 1)
none_more kinds tree a b none last k from to = elim (below_or_after k b) [
  | inl lt ↦ none k from lt
  | inr same ↦ (let e : b ≡ k = omega (arith, same.1, to) in subst (λ i. is_node_among kinds (cursor_at tree i) ≡ false) e last)
]

-- ---- a list that begins with a cursor

node_step : (kinds : SyntaxKind → Bool) (c : Cursor) (l : List Cursor) → first_node_among kinds (c ∷ l) ≡ cond (is_node_among kinds c) (Some c) (first_node_among kinds l)
node_step kinds c l = by (at_node c)
  where
    by : (b : Bool) → find (is_among kinds) (cond b (c ∷ filter at_node l) (filter at_node l)) ≡ cond (b && is_among kinds c) (Some c) (first_node_among kinds l)
    by true = refl
    by false = refl

token_step : (kinds : SyntaxKind → Bool) (c : Cursor) (l : List Cursor) → first_token_among kinds (c ∷ l) ≡ cond (is_token_among kinds c) (Some c) (first_token_among kinds l)
token_step kinds c l = by (at_token c)
  where
    by : (b : Bool) → find (is_among kinds) (cond b (c ∷ filter at_token l) (filter at_token l)) ≡ cond (b && is_among kinds c) (Some c) (first_token_among kinds l)
    by true = refl
    by false = refl

after_step : (kinds : SyntaxKind → Bool) (c : Cursor) (l : List Cursor)
    → after_first (is_among kinds) (filter at_node (c ∷ l)) ≡ cond (is_node_among kinds c) (filter at_node l) (after_first (is_among kinds) (filter at_node l))
after_step kinds c l = by (at_node c)
  where
    by : (b : Bool) → after_first (is_among kinds) (cond b (c ∷ filter at_node l) (filter at_node l)) ≡ cond (b && is_among kinds c) (filter at_node l) (after_first (is_among kinds) (filter at_node l))
    by true = refl
    by false = refl

-- ---- the first node of a run of rows, and the nodes after it

run_none : (kinds : SyntaxKind → Bool) (tree : Tree) (n a : ℕ) → NoNodesAmong kinds tree a (a + n)
    → (None ≡ first_node_among kinds (cursors_from tree a n)) × ([] ≡ after_first (is_among kinds) (filter at_node (cursors_from tree a n)))
run_none kinds tree zero a none = (refl, refl)
run_none kinds tree (suc n) a none =
    let c = cursor_at tree a in
    let l = cursors_from tree (a + 1) n in
    let here : is_node_among kinds c ≡ false = none a (omega arith) (omega arith) in
    let rest = run_none kinds tree n (a + 1) (λ k from to. none k (omega (arith, from)) (omega (arith, to))) in (
      rest.0 ∙ sym (node_step kinds c l ∙ ap (λ b. cond b (Some c) (first_node_among kinds l)) here),
      rest.1 ∙ sym (after_step kinds c l ∙ ap (λ b. cond b (filter at_node l) (after_first (is_among kinds) (filter at_node l))) here),
    )

run_some : (kinds : SyntaxKind → Bool) (tree : Tree) (n a m : ℕ) → a ≤ m → m < a + n → is_node_among kinds (cursor_at tree m) ≡ true → NoNodesAmong kinds tree a m
    → (Some (cursor_at tree m) ≡ first_node_among kinds (cursors_from tree a n))
    × (filter at_node (cursors_from tree (m + 1) ((a + n) - (m + 1))) ≡ after_first (is_among kinds) (filter at_node (cursors_from tree a n)))
run_some kinds tree zero a m from to is none = absurd (omega (arith, from, to))
run_some kinds tree (suc n) a m from to is none =
    let c = cursor_at tree a in
    let l = cursors_from tree (a + 1) n in
    elim (below_or_after a m) [
      | inl lt ↦
          let here : is_node_among kinds c ≡ false = none a (omega arith) lt in
          let rest = run_some kinds tree n (a + 1) m (omega (arith, lt)) (omega (arith, to)) is (λ k from to. none k (omega (arith, from)) to) in
          let count : (a + suc n) - (m + 1) ≡ ((a + 1) + n) - (m + 1) = omega arith in (
            rest.0 ∙ sym (node_step kinds c l ∙ ap (λ b. cond b (Some c) (first_node_among kinds l)) here),
            ap (λ k. filter at_node (cursors_from tree (m + 1) k)) count ∙ rest.1
                ∙ sym (after_step kinds c l ∙ ap (λ b. cond b (filter at_node l) (after_first (is_among kinds) (filter at_node l))) here),
          )
      | inr same ↦
          let e : m ≡ a = omega (arith, same.1, from) in
          let here : is_node_among kinds c ≡ true = subst (λ i. is_node_among kinds (cursor_at tree i) ≡ true) e is in
          let count : (a + suc n) - (a + 1) ≡ n = omega arith in (
            ap (λ i. Some (cursor_at tree i)) e ∙ sym (node_step kinds c l ∙ ap (λ b. cond b (Some c) (first_node_among kinds l)) here),
            ap (λ i. filter at_node (cursors_from tree (i + 1) ((a + suc n) - (i + 1)))) e
                ∙ ap (λ k. filter at_node (cursors_from tree (a + 1) k)) count
                ∙ sym (after_step kinds c l ∙ ap (λ b. cond b (filter at_node l) (after_first (is_among kinds) (filter at_node l))) here),
          )
    ]

-- no row of the run is found: no cursor is, and none is left
pub run_without : (kinds : SyntaxKind → Bool) (tree : Tree) (a b : ℕ) → NoNodesAmong kinds tree a b
    → (None ≡ first_node_among kinds (cursors_from tree a (b - a))) × ([] ≡ after_first (is_among kinds) (filter at_node (cursors_from tree a (b - a))))
run_without kinds tree a b none = run_none kinds tree (b - a) a (λ k from to. none k from (omega (arith, to, from)))

-- a row is found: the cursor there is, and the nodes after it are left
pub run_with : (kinds : SyntaxKind → Bool) (tree : Tree) (a b m : ℕ) → a ≤ m → m < b → is_node_among kinds (cursor_at tree m) ≡ true → NoNodesAmong kinds tree a m
    → (Some (cursor_at tree m) ≡ first_node_among kinds (cursors_from tree a (b - a)))
    × (filter at_node (cursors_from tree (m + 1) (b - (m + 1))) ≡ after_first (is_among kinds) (filter at_node (cursors_from tree a (b - a))))
run_with kinds tree a b m from to is none =
    let found = run_some kinds tree (b - a) a m from (omega (arith, from, to)) is none in
    let count : b - (m + 1) ≡ (a + (b - a)) - (m + 1) = omega (arith, from, to) in (
      found.0,
      ap (λ k. filter at_node (cursors_from tree (m + 1) k)) count ∙ found.1,
    )

-- ---- children

-- a child is found, or passed over
pub child_node : (kinds : SyntaxKind → Bool) (tree : Tree) (n e stop : ℕ) (b : Bool) → HaveParentEnd tree n stop → n < stop → e ≡ n + size (tree_at tree n) → b ≡ is_node_among kinds (cursor_at tree n)
    → first_node_among kinds (siblings_left tree n stop) ≡ cond b (Some (cursor_at tree n)) (first_node_among kinds (siblings_left tree e stop))
child_node kinds tree n e stop b w lt is_e is =
    ap (first_node_among kinds) (siblings_left-step tree n e stop w lt (end_is_behind tree n e (w lt).1 is_e)).0
    ∙ node_step kinds (cursor_at tree n) (siblings_left tree e stop)
    ∙ ap (λ b. cond b (Some (cursor_at tree n)) (first_node_among kinds (siblings_left tree e stop))) (sym is)

pub child_token : (kinds : SyntaxKind → Bool) (tree : Tree) (n e stop : ℕ) (b : Bool) → HaveParentEnd tree n stop → n < stop → e ≡ n + size (tree_at tree n) → b ≡ is_token_among kinds (cursor_at tree n)
    → first_token_among kinds (siblings_left tree n stop) ≡ cond b (Some (cursor_at tree n)) (first_token_among kinds (siblings_left tree e stop))
child_token kinds tree n e stop b w lt is_e is =
    ap (first_token_among kinds) (siblings_left-step tree n e stop w lt (end_is_behind tree n e (w lt).1 is_e)).0
    ∙ token_step kinds (cursor_at tree n) (siblings_left tree e stop)
    ∙ ap (λ b. cond b (Some (cursor_at tree n)) (first_token_among kinds (siblings_left tree e stop))) (sym is)

pub next_has_end : (tree : Tree) (n e stop : ℕ) → HaveParentEnd tree n stop → n < stop → e ≡ n + size (tree_at tree n) → HaveParentEnd tree e stop
next_has_end tree n e stop w lt is_e = (siblings_left-step tree n e stop w lt (end_is_behind tree n e (w lt).1 is_e)).1
