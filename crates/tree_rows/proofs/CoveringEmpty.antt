-- What covers an empty range below a row of which no child holds it.
use Rattle.std.proofs.Common.{◌≡◌, inl, inr, ℕ, zero, suc, ◌+◌, ◌-◌, ◌<◌, ◌≤◌, refl, sym, ap, ◌∙◌, subst, arith, true, false}
use Rattle.text_size.specs.TextRange.{Bounds}
use Rattle.tree_model.specs.Tree.{Tree, size, child_count}
use Rattle.tree_model.specs.Rows.{tree_at, start_at, end_at}
use Rattle.tree_rows.specs.Rows.{row_at}
use Rattle.tree_rows.specs.RowSearch.{SplitsAt, NoneHolds, IsHolding}
use Rattle.tree_rows.specs.RowSteps.{IsChildOver}
use Rattle.tree_model.specs.Cursor.{cursor_at}
use Rattle.tree_model.specs.Covering.{covering_of}
use Rattle.tree_model.proofs.At.{At-same_row, some_row, subtree-At, below_or_after, next_top}
use Rattle.tree_rows.proofs.StepLemmas.{end_of_row}
use Rattle.tree_model.proofs.TableLemmas.{last_end_at}
use Rattle.tree_rows.proofs.TableLemmas.{row_end_fits}
use Rattle.tree_model.proofs.Starts.{starts_rise}
use Rattle.tree_rows.proofs.Starts.{Nested, nested, behind_starts}
use Rattle.tree_model.proofs.CoveringPlaces.{is_held}
use Rattle.tree_model.proofs.CoveringRows.{children_at, range_at}
use Rattle.tree_rows.proofs.CoveringRows.{ChildRow, child_row, none_child, none_holds, later_child_starts, same_child, first_child_row, child_of_parent, parent_within, leaf_stays, to_last, to_first}
use Rattle.tree_model.proofs.CoveringEmpty.{size_of_children}

-- where nothing is strictly inside
none_inside : (whole : Tree) (n : ℕ) (asked : Bounds) → n < size whole → asked.start ≡ asked.end → ((j v : ℕ) → ChildRow whole n j v → start_at whole v < asked.start → asked.start < end_at whole v → ⊥) → NoneHolds whole n asked
none_inside whole n asked h empty f = none_holds whole n asked h (λ j v x w. elim w [ inl wide ↦ omega (arith, wide.0, empty) | inr inside ↦ f j v x inside.1 inside.2 ])

pub in_child : (whole : Tree) (n j v : ℕ) → n < size whole → ChildRow whole n j v → Nested whole n v
in_child whole n j v h x = nested whole n v h (omega (arith, x.row_is)) (omega (arith, x.inside, end_of_row whole v x.is_row, some_row (tree_at whole v)))

record LastChild (whole : Tree) (n : ℕ) : Type 0 where
  number : ℕ
  row : ℕ
  child : ChildRow whole n number row
  ends : (row_at whole row).end ≡ (row_at whole n).end
  no_later : (i u : ℕ) → ChildRow whole n i u → number < i → ⊥

pub child_size : (whole : Tree) (n j v : ℕ) (x : ChildRow whole n j v) → size (tree_at whole v) ≡ size x.child
child_size whole n j v x = ap size (x.tree_is ∙ subtree-At x.at)

last_child : (whole : Tree) (n : ℕ) → n < size whole → suc n < (row_at whole n).end → LastChild whole n
last_child whole n h long =
    let count = child_count (children_at whole n) in
    let sizes = size_of_children (tree_at whole n) (omega (arith, long, end_of_row whole n h)) in
    let w = child_row whole n (count - 1) h (omega (arith, sizes.1)) in
    elim (next_top w.1.at) [
      | inl next ↦ absurd (omega (arith, next.1, sizes.1))
      | inr last ↦ record {
        number = count - 1;
        row = w.0;
        child = w.1;
        ends = omega (arith, end_of_row whole w.0 w.1.is_row, end_of_row whole n h, child_size whole n (count - 1) w.0 w.1, w.1.row_is, last.0, sizes.0);
        no_later = λ i u y more. omega (arith, y.counted, more);
      }
    ]

chain_by : (steps : ℕ) (whole : Tree) (n e : ℕ) (asked : Bounds) → n < size whole → (row_at whole n).end ≡ suc e → e ≤ n + steps → asked.start ≡ asked.end → end_at whole n ≤ asked.start → covering_of (cursor_at whole n) asked ≡ cursor_at whole e
chain_by zero whole n e asked h is_end close empty ends =
    leaf_stays whole n asked h (omega (arith, is_end, close)) ∙ ap (cursor_at whole) (omega (arith, is_end, close, end_of_row whole n h, some_row (tree_at whole n)))
chain_by (suc steps) whole n e asked h is_end close empty ends =
    elim (below_or_after (suc n) (row_at whole n).end) [
      | inr short ↦ leaf_stays whole n asked h (omega (arith, short.1)) ∙ ap (cursor_at whole) (omega (arith, is_end, short.1, end_of_row whole n h, some_row (tree_at whole n)))
      | inl long ↦
          let v = last_child whole n h long in
          let inside = in_child whole n v.number v.row h v.child in
          to_last whole n v.number v.row asked h (omega (arith, empty))
          (none_inside whole n asked h empty (λ j u x _ behind. omega (arith, behind, (in_child whole n j u h x).ends, ends)))
          v.child (omega (arith, inside.ends, ends)) (λ i u y more. absurd (v.no_later i u y more))
          ∙ chain_by steps whole v.row e asked v.child.is_row (v.ends ∙ is_end) (omega (arith, close, v.child.row_is)) empty (omega (arith, inside.ends, ends))
    ]

-- below a row that ends at or before the range its last row covers it
pub last_covers : (whole : Tree) (n e : ℕ) (asked : Bounds) → n < size whole → (row_at whole n).end ≡ suc e → asked.start ≡ asked.end → end_at whole n ≤ asked.start → covering_of (cursor_at whole n) asked ≡ cursor_at whole e
last_covers whole n e asked h is_end empty ends = chain_by e whole n e asked h is_end (omega arith) empty ends

pub first_step : (whole : Tree) (n row v : ℕ) (asked : Bounds) → asked.start ≡ asked.end → IsHolding whole n asked row → v ≡ suc row → v < (row_at whole row).end → asked.start < end_at whole v → IsHolding whole n asked v
first_step whole n row v asked empty w is_v long past =
    let x : ChildRow whole row 0 v = subst (ChildRow whole row 0) (sym is_v) (first_child_row whole row w.is_row (omega (arith, is_v, long))) in
    let starts : asked.start ≤ start_at whole v =
    elim (below_or_after (start_at whole v) asked.start) [
      | inl low ↦ absurd (not_inside x low)
      | inr high ↦ omega (arith, high.1)
    ] in
    record {
      is_row = x.is_row;
      covers = w.covers ∙ to_first whole row v asked w.is_row (omega (arith, empty)) w.none x (λ i u y.
          elim (below_or_after 0 i) [
            | inl more ↦ omega (arith, past, later_child_starts whole row 0 v i u x y more)
            | inr same ↦ let e : i ≡ 0 = omega (arith, same.1) in let is_u : v ≡ u = same_child whole row 0 v u x (subst (λ k. ChildRow whole row k u) e y) in omega (arith, past, ap (end_at whole) is_u)
          ]);
      none = none_inside whole v asked x.is_row empty (λ j u y low _. omega (arith, low, starts, (in_child whole v j u x.is_row y).starts));
    }
  where
    not_inside : ChildRow whole row 0 v → start_at whole v < asked.start → ⊥
    not_inside x low = (let clash : true ≡ false = sym (is_held asked (range_at whole v) (inr (omega (arith, empty), low, past))) ∙ none_child whole row 0 v asked w.none x in cc)

-- what is known when the first child ends at or before the offset, and the row itself after it
pub record Split (whole : Tree) (row last e : ℕ) (asked : Bounds) : Type 0 where
  pub is_row : row < size whole
  pub empty : asked.start ≡ asked.end
  pub none : NoneHolds whole row asked
  pub is_end : e ≡ (row_at whole row).end
  pub has_child : suc row < e
  pub first_ends : end_at whole (suc row) ≤ asked.start
  pub past : asked.start < end_at whole row
  pub split : SplitsAt whole (row + 1) e (asked.start + 1) (last + 1)

-- that row is after the row itself
pub last_behind : (whole : Tree) (row last e : ℕ) (asked : Bounds) → Split whole row last e asked → row < last
last_behind whole row last e asked w =
    elim (below_or_after row last) [
      | inl less ↦ less
      | inr same ↦ absurd (omega (arith, same.1, w.split.begun, w.split.behind (suc row) (omega (arith, same.1)) w.has_child, w.first_ends))
    ]

around_in : (whole : Tree) (row last e child : ℕ) (asked : Bounds) → Split whole row last e asked → IsChildOver whole row last child → Nested whole row child
around_in whole row last e child asked w u = nested whole row child w.is_row (omega (arith, u.behind)) (omega (arith, u.from, w.split.within, w.is_end))

-- subtrees that end with one row end with one byte
pub same_end : (whole : Tree) (a b : ℕ) → a < size whole → b < size whole → (row_at whole a).end ≡ (row_at whole b).end → end_at whole a ≡ end_at whole b
same_end whole a b h k e =
    elim (below_or_after (row_at whole a).end (size whole)) [
      | inl more ↦ sym (behind_starts whole a (row_at whole a).end h refl more) ∙ behind_starts whole b (row_at whole a).end k e more
      | inr done ↦ sym (last_end_at whole a (row_at whole a).end h (end_of_row whole a h) (omega (arith, done.1))) ∙ last_end_at whole b (row_at whole b).end k (end_of_row whole b k) (omega (arith, done.1, e))
    ]

-- a child that holds the last row that starts at or before the range ends after it
ends_past : (whole : Tree) (row last e child : ℕ) (asked : Bounds) → Split whole row last e asked → IsChildOver whole row last child → asked.start < end_at whole child
ends_past whole row last e child asked w u =
    let inside = around_in whole row last e child asked w u in
    elim (below_or_after (row_at whole child).end (row_at whole row).end) [
      | inl less ↦
          let is_row : (row_at whole child).end < size whole = omega (arith, less, row_end_fits whole row w.is_row) in
          omega (arith, behind_starts whole child (row_at whole child).end inside.is_row refl is_row, w.split.behind (row_at whole child).end (omega (arith, u.reaches)) (omega (arith, less, w.is_end)))
      | inr same ↦ omega (arith, w.past, same_end whole child row inside.is_row w.is_row (omega (arith, same.1, inside.rows)))
    ]

before_position : (whole : Tree) (row last e child p j : ℕ) (asked : Bounds) → Split whole row last e asked → IsChildOver whole row last child → ChildRow whole row j child → suc p ≡ child → covering_of (cursor_at whole row) asked ≡ cursor_at whole p
before_position whole row last e child p zero asked w u x is_p =
    let first = first_child_row whole row w.is_row (omega (arith, w.has_child, w.is_end)) in
    let same : suc row ≡ child = same_child whole row 0 (suc row) child first x in
    absurd (omega (arith, ends_past whole row last e child asked w u, w.first_ends, ap (end_at whole) same))
before_position whole row last e child p (suc i) asked w u x is_p =
    let past = ends_past whole row last e child asked w u in
    let b = child_row whole row i w.is_row (omega (arith, x.counted)) in
    let y = b.1 in
    elim (next_top y.at) [
      | inr last_one ↦ absurd (omega (arith, last_one.1, x.counted))
      | inl next ↦
          let is_end : (row_at whole b.0).end ≡ suc p = omega (arith, end_of_row whole b.0 y.is_row, child_size whole row i b.0 y, y.row_is, x.row_is, At-same_row next.0 x.at, is_p) in
          let is_last : last < size whole = omega (arith, w.split.within, w.is_end, row_end_fits whole row w.is_row) in
          let ends : end_at whole b.0 ≤ asked.start = omega (
            arith,
            behind_starts whole b.0 child y.is_row (sym is_p ∙ sym is_end) x.is_row,
            starts_rise whole child last u.from is_last,
            w.split.before last (omega (arith, u.behind, u.from)) (omega arith),
          ) in
          to_last whole row i b.0 asked w.is_row (omega (arith, w.empty)) w.none y ends (λ k z zc more.
          elim (below_or_after (suc i) k) [
            | inl behind ↦ omega (arith, past, later_child_starts whole row (suc i) child k z x zc behind)
            | inr same ↦ let is_k : k ≡ suc i = omega (arith, more, same.1) in let is_z : child ≡ z = same_child whole row (suc i) child z x (subst (λ m. ChildRow whole row m z) is_k zc) in omega (arith, past, ap (end_at whole) is_z)
          ])
          ∙ last_covers whole b.0 p asked y.is_row is_end w.empty ends
    ]

-- the row before a child that holds the last row that starts at or before the range covers it
pub before_child : (whole : Tree) (row last e child p : ℕ) (asked : Bounds) → Split whole row last e asked → IsChildOver whole row last child → suc p ≡ child → covering_of (cursor_at whole row) asked ≡ cursor_at whole p
before_child whole row last e child p asked w u is_p =
    let up = parent_within whole row child w.is_row u.behind (omega (arith, u.from, w.split.within, w.is_end)) in
    let v = up.0 in
    let x : ChildRow whole row v.w.position child = subst (λ q. ChildRow whole q v.w.position child) (sym v.up_is ∙ u.parent_is) (child_of_parent whole child v) in
    before_position whole row last e child p v.w.position asked w u x is_p
