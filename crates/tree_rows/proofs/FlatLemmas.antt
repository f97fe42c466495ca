-- The flat rows of a node are those of the table, with the numbers of its own row taken away.
use Rattle.std.proofs.Common.{◌≡◌, ℕ, suc, inl, inr, ◌+◌, ◌-◌, ◌<◌, ◌≤◌, List, ◌∷◌, ◌++◌, length, get_or, map, refl, sym, ap, subst, ◌∙◌, arith, append_assoc, append-nil, length-append, []}
use Rattle.std.specs.Prelude.{set, slice_set, take, drop}
use Rattle.std.proofs.Common.{false}
use Rattle.std.proofs.lemmas.List.{map-append, length-map, length-drop, length-take-le, get_or-map, get_or-append-add, get_or_append_left, take-append-drop, take_more, take_more_set, drop-drop, drop-set-lt}
use Rattle.std.proofs.Math.Seq.{take-length, take-append_seam, drop-append-add}
use Rattle.tree_rows.specs.declared.rows.Row.{Row}
use Rattle.tree_rows.specs.declared.table.flat.FlatRow.{FlatRow}
use Rattle.tree_model.specs.Tree.{Tree, node, token, Forest, nil, cons, size, forest_size, forest_text, IsNode}
use Rattle.tree_model.specs.Rows.{tree_at, start_at}
use Rattle.tree_rows.specs.Rows.{row_at, parent_at, no_row, row_of}
use Rattle.tree_rows.specs.Flat.{flat_kind, flat_forest, flat_rows, flat_row_at}
use Rattle.tree_rows.specs.declared.shift.Shift.{Shift}
use Rattle.tree_rows.specs.MovedRows.{shift_from, moved_number}
use Rattle.tree_rows.specs.Rows.{Columns, columns_of, parents_of, Represents}
use Rattle.tree_rows.specs.Stored.{flat_columns}
use Rattle.tree_rows.proofs.Hung.{Hung, hung, hung_of, columns, same_columns}
use Rattle.tree_rows.proofs.Parents.{columns_of-hung}
use Rattle.tree_rows.proofs.At.{length-hung_of, hung-At}
use Rattle.tree_model.proofs.At.{cong₂, below_or_after, forest_size-cons}
use Rattle.tree_model.proofs.EditLemmas.{within_rows}
use Rattle.tree_model.proofs.StepLemmas.{root_tree}
use Rattle.tree_model.proofs.TableLemmas.{at_row, up_at}
use Rattle.tree_rows.proofs.TableLemmas.{row_at-is, row_of-start}
use Rattle.tree_rows.proofs.StepLemmas.{parent_of_row, end_of_row, hangs}
use Rattle.tree_rows.proofs.MovedRows.{moved_hung, hung_of-moved, moved-above, At-inside}
use Rattle.tree_rows.proofs.EditLemmas.{segment, parent_is_earlier}

-- a row and its parent as plain numbers
abbrev pub flat : Hung → FlatRow
flat h = record { kind = flat_kind h.row.kind h.row.is_token; start = h.row.start; subtree_end = h.row.end; parent = h.up }

pub flat_forest-hung : (f : Forest) (n b u : ℕ) → flat_forest f n b u ≡ map flat (hung_of f n b u)
flat_forest-hung nil n b u = refl
flat_forest-hung (cons (token k t) r) n b u = ap (λ l. flat (hung (token k t) n b u) ∷ l) (flat_forest-hung r (suc n) (b + length t) u)
flat_forest-hung (cons (node k c) r) n b u =
    ap (λ l. flat (hung (node k c) n b u) ∷ l)
    (cong₂ ◌++◌ (flat_forest-hung c (suc n) b n) (flat_forest-hung r (suc n + forest_size c) (b + length (forest_text c)) u)
    ∙ sym (map-append flat (hung_of c (suc n) b n) (hung_of r (suc n + forest_size c) (b + length (forest_text c)) u)))

pub length-flat_rows : (t : Tree) → length (flat_rows t) ≡ size t
length-flat_rows t =
    ap length (flat_forest-hung (cons t nil) 0 0 0) ∙ length-map (hung_of (cons t nil) 0 0 0) flat ∙ length-hung_of (cons t nil) 0 0 0
    ∙ forest_size-cons t nil ∙ omega arith

abbrev hung_with : Row → ℕ → Hung
hung_with r p = record { row = r; up = p }

abbrev none : Hung
none = hung_with no_row 0

abbrev pub flat_by : ℕ → ℕ → ℕ → ℕ → FlatRow
flat_by k s e p = record { kind = k; start = s; subtree_end = e; parent = p }

same_flat : (k k' s s' e e' p p' : ℕ) → k ≡ k' → s ≡ s' → e ≡ e' → p ≡ p' → flat_by k s e p ≡ flat_by k' s' e' p'
same_flat k k' s s' e e' p p' is_k is_s is_e is_p = cong₂ (λ x y. flat_by x y e p) is_k is_s ∙ cong₂ (λ x y. flat_by k' s' x y) is_e is_p

-- row n of a table as one of the subtree at row root
abbrev pub flat_seen : Tree → ℕ → ℕ → FlatRow
flat_seen whole root n =
    flat_by (flat_kind (row_at whole n).kind (row_at whole n).is_token) ((row_at whole n).start - (row_at whole root).start) ((row_at whole n).end - root) (parent_at whole n - root)

hung_there : (whole : Tree) (n : ℕ) (h : n < size whole) (x : Hung) → get_or (hung_of (cons whole nil) 0 0 0) n x ≡ hung_with (row_at whole n) (parent_at whole n)
hung_there whole n h x =
    hung-At (at_row whole n h) 0 0 0 x ∙ cong₂ (λ i j. hung (tree_at whole n) i j (up_at whole n h)) (omega arith) (omega arith)
    ∙ cong₂ hung_with (sym (row_at-is whole n h)) (sym (parent_of_row whole n h))

row_starts : (whole : Tree) (n : ℕ) → n < size whole → (row_at whole n).start ≡ start_at whole n
row_starts whole n h = ap (λ r. r.start) (row_at-is whole n h) ∙ row_of-start (tree_at whole n) n (start_at whole n)

-- the parent of a row inside a subtree is in the subtree
pub parent_inside : (whole : Tree) (root n : ℕ) → root < size whole → n < size whole → root < n → n < root + size (tree_at whole root) → root ≤ parent_at whole n
parent_inside whole root n h hn lt inside =
    elim (hangs whole n hn) [
      | inl top ↦ absurd (omega (arith, top.1 root lt, end_of_row whole root h, inside))
      | inr w ↦ elim (below_or_after w.q root) [
        | inl less ↦ absurd (omega (arith, w.between root less lt, end_of_row whole root h, inside))
        | inr more ↦ omega (arith, more.1, w.up_is)
      ]
    ]

own_row : (whole : Tree) (root : ℕ) (h : root < size whole) (t : Tree) → tree_at whole root ≡ t → IsNode t → flat_row_at t 0 ≡ flat_seen whole root root
own_row whole root h (token k s) is_t bad = absurd bad
own_row whole root h (node k c) is_t yes_node =
    let is : row_at whole root ≡ row_of (node k c) root (start_at whole root) = row_at-is whole root h ∙ ap (λ t. row_of t root (start_at whole root)) is_t in
    same_flat (flat_kind k false) (flat_kind (row_at whole root).kind (row_at whole root).is_token) 0 ((row_at whole root).start - (row_at whole root).start)
    (suc 0 + forest_size c) ((row_at whole root).end - root) 0 (parent_at whole root - root)
    (ap (λ r. flat_kind r.kind r.is_token) (sym is)) (omega arith) (omega (arith, ap (λ r. r.end) is)) (omega (arith, parent_is_earlier whole root h))

later_row : (whole : Tree) (root n : ℕ) (h : root < size whole) (hn : n < size whole) (t : Tree) → tree_at whole root ≡ t → IsNode t → root < n → n < root + size t
    → flat_row_at t (n - root) ≡ flat_seen whole root n
later_row whole root n h hn (token k s) is_t bad lt inside = absurd bad
later_row whole root n h hn (node k c) is_t yes_node lt inside =
    let w = segment whole root h in
    let b = start_at whole root in
    let by : Shift = shift_from root 0 b 0 in
    let own : Hung = hung (node k c) root b (up_at whole root h) in
    let front = w.before ++ own ∷ [] in
    let inner = hung_of c (suc root) b root in
    let i : ℕ = n - suc root in
    let short : i < length inner = omega (arith, length-hung_of c (suc root) b root, inside, lt) in
    let split_up : hung_of (cons whole nil) 0 0 0 ≡ front ++ (inner ++ w.behind) =
    w.is ∙ ap (λ t. w.before ++ (hung_of (cons t nil) root b (up_at whole root h) ++ w.behind)) is_t
    ∙ ap (λ l. w.before ++ (own ∷ (l ++ w.behind))) (append-nil inner)
    ∙ sym (append_assoc w.before (own ∷ []) (inner ++ w.behind)) in
    let place : n ≡ length front + i = omega (arith, length-append w.before (own ∷ []), w.count, lt) in
    let there : get_or inner i none ≡ hung_with (row_at whole n) (parent_at whole n) =
    sym (get_or_append_left inner w.behind none i short) ∙ sym (get_or-append-add front (inner ++ w.behind) i none)
    ∙ ap (λ j. get_or (front ++ (inner ++ w.behind)) j none) (sym place) ∙ ap (λ l. get_or l n none) (sym split_up) ∙ hung_there whole n hn none in
    let moves : hung_of c 1 0 0 ≡ map (moved_hung by) inner =
    hung_of-moved c by (suc root) b root 1 0 0 (omega arith) (omega arith) (omega arith) (omega arith) (omega (arith, moved-above by root (omega arith))) in
    let up_in : root ≤ parent_at whole n = parent_inside whole root n h hn lt (omega (arith, inside, ap size is_t)) in
    let end_in : root ≤ (row_at whole n).end = omega (arith, end_of_row whole n hn, lt) in
    let d : FlatRow = flat_by 0 0 0 0 in
    ap (flat_row_at (node k c)) (let e : n - root ≡ suc i = omega (arith, lt) in e)
    ∙ ap (λ l. get_or l i d) (append-nil (flat_forest c 1 0 0) ∙ flat_forest-hung c 1 0 0)
    ∙ get_or-map flat (hung_of c 1 0 0) i none d (omega (arith, length-hung_of c 1 0 0, length-hung_of c (suc root) b root, short))
    ∙ ap flat (ap (λ l. get_or l i none) moves ∙ get_or-map (moved_hung by) inner i none none short ∙ ap (moved_hung by) there)
    ∙ same_flat (flat_kind (row_at whole n).kind (row_at whole n).is_token) (flat_kind (row_at whole n).kind (row_at whole n).is_token)
    (((row_at whole n).start - b) + 0) ((row_at whole n).start - (row_at whole root).start)
    (moved_number by (row_at whole n).end) ((row_at whole n).end - root) (moved_number by (parent_at whole n)) (parent_at whole n - root)
    refl (omega (arith, row_starts whole root h)) (omega (arith, moved-above by (row_at whole n).end end_in)) (omega (arith, moved-above by (parent_at whole n) up_in))

pub flat_row-seen : (whole : Tree) (root n : ℕ) → root < size whole → IsNode (tree_at whole root) → root ≤ n → n < root + size (tree_at whole root)
    → flat_seen whole root n ≡ flat_row_at (tree_at whole root) (n - root)
flat_row-seen whole root n h is_node from inside =
    let hn : n < size whole = omega (arith, within_rows whole root h, inside) in
    elim (below_or_after root n) [
      | inl lt ↦ sym (later_row whole root n h hn (tree_at whole root) refl is_node lt inside)
      | inr more ↦
          let same : n ≡ root = omega (arith, more.1, from) in
          ap (flat_seen whole root) same ∙ sym (own_row whole root h (tree_at whole root) refl is_node)
          ∙ ap (flat_row_at (tree_at whole root)) (let e : 0 ≡ n - root = omega (arith, same) in e)
    ]

-- the numbers of a row fit
pub record FlatFits (whole : Tree) (root n : ℕ) : Type 0 where
  pub start_later : (row_at whole root).start ≤ (row_at whole n).start
  pub end_later : root ≤ (row_at whole n).end
  pub end_within : (row_at whole n).end - root ≤ size (tree_at whole root)
  pub parent_within : parent_at whole n - root ≤ size (tree_at whole root)

pub flat_fits : (whole : Tree) (root n : ℕ) → root < size whole → root ≤ n → n < root + size (tree_at whole root) → FlatFits whole root n
flat_fits whole root n h from inside =
    let hn : n < size whole = omega (arith, within_rows whole root h, inside) in
    let w = At-inside (at_row whole root h) (at_row whole n hn) from inside in
    record {
      start_later = omega (arith, row_starts whole root h, row_starts whole n hn, w.starts);
      end_later = omega (arith, end_of_row whole n hn, from);
      end_within = omega (arith, end_of_row whole n hn, w.ends);
      parent_within = omega (arith, parent_is_earlier whole n hn, inside);
    }

-- what is made of two rows and a parent that were read
pub flat_made : (whole : Tree) (root n : ℕ) (r s : Row) (k p q : ℕ) → r ≡ row_at whole n → s ≡ row_at whole root → k ≡ flat_kind r.kind r.is_token
    → q ≡ p - root → p ≡ parent_at whole n → flat_by k (r.start - s.start) (r.end - root) q ≡ flat_seen whole root n
flat_made whole root n r s k p q is_r is_s is_k is_q is_p =
    same_flat k (flat_kind (row_at whole n).kind (row_at whole n).is_token) (r.start - s.start) ((row_at whole n).start - (row_at whole root).start)
    (r.end - root) ((row_at whole n).end - root) q (parent_at whole n - root)
    (is_k ∙ ap (λ r. flat_kind r.kind r.is_token) is_r) (cong₂ (λ x y. x.start - y.start) is_r is_s) (ap (λ r. r.end - root) is_r) (is_q ∙ ap (λ p. p - root) is_p)

-- ---- the whole tree, from whose numbers nothing is taken away

root_start : (whole : Tree) → start_at whole 0 ≡ 0
root_start (token k x) = refl
root_start (node k c) = refl

pub whole_row-seen : (whole : Tree) (n : ℕ) (r : Row) (k p : ℕ) → n < size whole → IsNode whole → r ≡ row_at whole n → k ≡ flat_kind r.kind r.is_token → p ≡ parent_at whole n
    → flat_by k r.start r.end p ≡ flat_row_at whole n
whole_row-seen whole n r k p h is_node is_r is_k is_p =
    let root : tree_at whole 0 ≡ whole = root_tree whole in
    let seen : flat_seen whole 0 n ≡ flat_row_at (tree_at whole 0) (n - 0) =
    flat_row-seen whole 0 n (omega (arith, h)) (subst IsNode (sym root) is_node) (omega arith) (omega (arith, h, ap size root)) in
    same_flat k (flat_kind (row_at whole n).kind (row_at whole n).is_token) r.start ((row_at whole n).start - (row_at whole 0).start)
    r.end ((row_at whole n).end - 0) p (parent_at whole n - 0)
    (is_k ∙ ap (λ r. flat_kind r.kind r.is_token) is_r) (omega (arith, ap (λ r. r.start) is_r, row_starts whole 0 (omega (arith, h)), root_start whole))
    (omega (arith, ap (λ r. r.end) is_r)) (omega (arith, is_p))
    ∙ seen ∙ cong₂ flat_row_at root (let e : n - 0 ≡ n = omega arith in e)

pub whole_end : (whole : Tree) (n : ℕ) → n < size whole → (row_at whole n).end ≤ size whole
whole_end whole n h = omega (arith, end_of_row whole n h, within_rows whole n h)

pub whole_parent : (whole : Tree) (n : ℕ) → n < size whole → parent_at whole n < size whole
whole_parent whole n h = omega (arith, parent_is_earlier whole n h, h)

-- a list whose front is written over, one more value at a time
pub filled_more : {X : Type 0} → (xs ys : List X) (out : List X) (k : ℕ) (x d : X) → out ≡ take k xs ++ drop k ys → k < length xs → k < length ys → x ≡ get_or xs k d
    → slice_set out k x ≡ take (k + 1) xs ++ drop (k + 1) ys
filled_more {X} xs ys out k x d is short shorter is_x =
    let front = take k xs in
    let count : length front ≡ k = length-take-le k xs (omega (arith, short)) in
    let long : k < length out = omega (arith, ap length is, length-append front (drop k ys), length-drop k ys, count, shorter) in
    let fronts : take k out ≡ front = ap (take k) is ∙ ap (λ j. take j (front ++ drop k ys)) (sym count) ∙ take-append_seam front (drop k ys) in
    let backs : drop (k + 1) out ≡ drop (k + 1) ys =
    ap (drop (k + 1)) is ∙ ap (λ j. drop (j + 1) (front ++ drop k ys)) (sym count) ∙ drop-append-add front (drop k ys) 1 ∙ drop-drop 1 k ys in
    sym (take-append-drop (k + 1) (set out k x))
    ∙ cong₂ ◌++◌ (take_more_set out k x long ∙ cong₂ (λ l y. l ++ y ∷ []) fronts is_x ∙ sym (take_more xs k d short))
    (drop-set-lt (k + 1) out k x (omega arith) ∙ backs)

pub filled_all : {X : Type 0} → (xs ys : List X) (out : List X) (k n : ℕ) → out ≡ take k xs ++ drop k ys → k ≡ n → n ≡ length xs → out ≡ xs ++ drop n ys
filled_all xs ys out k n is is_k is_n =
    is ∙ ap (λ j. take j xs ++ drop j ys) is_k ∙ ap (λ j. take j xs ++ drop n ys) is_n ∙ ap (λ l. l ++ drop n ys) (take-length xs)

-- ---- rows that are stored

flat_columns-columns : (hs : List Hung) → flat_columns (columns hs) ≡ map flat hs
flat_columns-columns [] = refl
flat_columns-columns (h ∷ hs) = ap (λ l. flat h ∷ l) (flat_columns-columns hs)

-- those of a table are the flat rows of its tree
pub flat_shown : (kept : Columns) (s : List ℕ) (t : Tree) → Represents kept s t → flat_columns kept ≡ flat_rows t
flat_shown kept s t w =
    let all : kept ≡ columns_of (cons t nil) = same_columns kept (columns_of (cons t nil)) w.rows_are (w.parents_are ∙ ap parents_of w.rows_are) in
    ap flat_columns (all ∙ columns_of-hung (cons t nil)) ∙ flat_columns-columns (hung_of (cons t nil) 0 0 0) ∙ sym (flat_forest-hung (cons t nil) 0 0 0)
