-- What covers a range, by rows.
use Rattle.std.proofs.Common.{◌≡◌, ◌⊎◌, inl, inr, ℕ, zero, suc, ◌+◌, ◌<◌, ◌≤◌, ◌∷◌, ◌++◌, length, get_or, refl, sym, ap, ◌∙◌, subst, arith, append_assoc, true, false, []}
use Rattle.std.specs.Prelude.{Some}
use Rattle.text_size.specs.TextRange.{Bounds}
use Rattle.tree_model.specs.Tree.{Tree, node, token, Forest, nil, cons, text, size, forest_of_children, child_at, child_count, bytes_before, Place, subtree}
use Rattle.tree_model.specs.Rows.{tree_at, start_at, end_at, place_at}
use Rattle.tree_rows.specs.Rows.{row_at, parent_at}
use Rattle.tree_rows.specs.RowSearch.{SplitsAt, NoneHolds, IsHolding}
use Rattle.tree_model.specs.Cursor.{cursor_at, at_place}
use Rattle.tree_model.specs.Covering.{child_ranges, holds, child_towards, covering_place, covering_of}
use Rattle.tree_model.proofs.At.{At, here, lift, At-fits, some_row, subtree-At, forest_size-cons, below_or_after, At-same_row}
use Rattle.tree_model.proofs.TableLemmas.{at_row}
use Rattle.tree_rows.proofs.TableLemmas.{row_end_fits}
use Rattle.tree_model.proofs.StepLemmas.{place_from_At}
use Rattle.tree_rows.proofs.At.{end_from_At}
use Rattle.tree_rows.proofs.StepLemmas.{end_of_row, Hangs, hangs}
use Rattle.tree_model.proofs.Starts.{At-ordered}
use Rattle.tree_rows.proofs.Starts.{Nested, nested, later_starts}
use Rattle.tree_model.proofs.CoveringPlaces.{Within, place_towards, length-child_ranges, get_or-child_ranges, towards_holder, towards_none, towards_nothing, towards_last, towards_first, holds_means, is_held, not_held, not_both, held_around}
use Rattle.tree_model.proofs.CoveringRows.{At-counted, child_in, children_at, counted, range_at, ranges_at, stays, top_order}

-- row v is child number j of row n
pub record ChildRow (whole : Tree) (n j v : ℕ) : Type 0 where
  pub within : ℕ
  pub child : Tree
  pub offset : ℕ
  pub at : At (children_at whole n) within (j ∷ []) child offset
  pub row_is : v ≡ suc n + within
  pub is_row : v < size whole
  pub inside : (row_at whole v).end ≤ (row_at whole n).end
  pub counted : j < child_count (children_at whole n)
  pub place_is : place_at whole v ≡ place_at whole n ++ j ∷ []
  pub tree_is : tree_at whole v ≡ child_at (children_at whole n) j
  pub start_is : start_at whole v ≡ start_at whole n + bytes_before (children_at whole n) j

child_of_node : (whole : Tree) (n j m : ℕ) (t : Tree) → n < size whole → tree_at whole n ≡ t → At (cons whole nil) n (0 ∷ place_at whole n) t (start_at whole n)
    → At (forest_of_children t) m (j ∷ []) (child_at (forest_of_children t) j) (bytes_before (forest_of_children t) j) → j < child_count (forest_of_children t)
    → ChildRow whole n j (suc n + m)
child_of_node whole n j m (token k x) h e a w lt = absurd (omega (arith, lt))
child_of_node whole n j m (node k c) h e a w lt =
    let there : At (cons whole nil) (suc n + m) ((0 ∷ place_at whole n) ++ j ∷ []) (child_at c j) (start_at whole n + bytes_before c j) = lift a w refl refl in
    let is_row : suc n + m < size whole = omega (arith, At-fits there, some_row (child_at c j), forest_size-cons whole nil) in
    let place : place_at whole n ++ j ∷ [] ≡ place_at whole (suc n + m) = place_from_At there in
    let own = at_row whole (suc n + m) is_row in
    record {
      within = m;
      child = child_at c j;
      offset = bytes_before c j;
      at = subst (λ u. At (forest_of_children u) m (j ∷ []) (child_at c j) (bytes_before c j)) (sym e) w;
      row_is = refl;
      is_row = is_row;
      inside = omega (arith, end_from_At there, end_of_row whole n h, ap size e, At-fits w);
      counted = subst (λ u. j < child_count (forest_of_children u)) (sym e) lt;
      place_is = sym place;
      tree_is = ap (tree_of whole) (sym place) ∙ subtree-At there ∙ ap (λ u. child_at (forest_of_children u) j) (sym e);
      start_is = omega (arith, At-ordered there own (omega arith), At-ordered own there (omega arith), ap (λ u. bytes_before (forest_of_children u) j) e);
    }
  where
    tree_of : Tree → Place → Tree
    tree_of w p = subtree w p

pub child_row : (whole : Tree) (n j : ℕ) → n < size whole → j < child_count (children_at whole n) → (v : ℕ) × ChildRow whole n j v
child_row whole n j h lt =
    let w = child_in (children_at whole n) j lt in
    (suc n + w.0, child_of_node whole n j w.0 (tree_at whole n) h refl (at_row whole n h) w.1 lt)

-- later children follow
pub in_order : (whole : Tree) (n j v i u : ℕ) → ChildRow whole n j v → ChildRow whole n i u → j < i → (row_at whole v).end ≤ u
in_order whole n j v i u x y h =
    let size_is : size (tree_at whole v) ≡ size x.child = ap size (x.tree_is ∙ subtree_child x.at) in
    omega (arith, end_of_row whole v x.is_row, size_is, x.row_is, y.row_is, top_order x.at y.at h)
  where
    subtree_child : {f : Forest} {m k : ℕ} {t : Tree} {b : ℕ} → At f m (k ∷ []) t b → child_at f k ≡ t
    subtree_child a = subtree-At a

pub child_range : (whole : Tree) (n j v : ℕ) (d : Bounds) → ChildRow whole n j v → get_or (ranges_at whole n) j d ≡ range_at whole v
child_range whole n j v d x =
    get_or-child_ranges (children_at whole n) (start_at whole n) j d x.counted
    ∙ ap (λ s. let r : Bounds = record { start = s; end = s + length (text (child_at (children_at whole n) j)) } in r) (sym x.start_is)
    ∙ ap (λ t. let r : Bounds = record { start = start_at whole v; end = start_at whole v + length (text t) } in r) (sym x.tree_is)

pub is_listed : (whole : Tree) (n j v : ℕ) → ChildRow whole n j v → j < length (ranges_at whole n)
is_listed whole n j v x = omega (arith, x.counted, length-child_ranges (children_at whole n) (start_at whole n))

-- what holds of each child row from number i on holds of the ranges
each_range : (P : Bounds → Type 0) (whole : Tree) (n j : ℕ) (d : Bounds) → n < size whole → ((v : ℕ) → ChildRow whole n j v → P (range_at whole v)) → j < length (ranges_at whole n) → P (get_or (ranges_at whole n) j d)
each_range P whole n j d h f lt =
    let w = child_row whole n j h (counted whole n j lt) in
    subst P (sym (child_range whole n j w.0 d w.1)) (f w.0 w.1)

-- the row n goes down to its child v
pub goes_down : (whole : Tree) (n j v : ℕ) (asked : Bounds) → ChildRow whole n j v → child_towards asked (ranges_at whole n) ≡ Some j → covering_of (cursor_at whole n) asked ≡ covering_of (cursor_at whole v) asked
goes_down whole n j v asked x e =
    ap (at_place (cursor_at whole n))
    (ap (λ p. place_at whole n ++ p) (place_towards asked (tree_at whole n) (start_at whole n) j x.counted e)
    ∙ sym (append_assoc (place_at whole n) (j ∷ []) (covering_place asked (child_at (children_at whole n) j) (start_at whole n + bytes_before (children_at whole n) j)))
    ∙ ap (λ p. p ++ covering_place asked (child_at (children_at whole n) j) (start_at whole n + bytes_before (children_at whole n) j)) (sym x.place_is)
    ∙ ap (λ t. place_at whole v ++ covering_place asked t (start_at whole n + bytes_before (children_at whole n) j)) (sym x.tree_is)
    ∙ ap (λ b. place_at whole v ++ covering_place asked (tree_at whole v) b) (sym x.start_is))

pub none_child : (whole : Tree) (n j v : ℕ) (asked : Bounds) → NoneHolds whole n asked → ChildRow whole n j v → holds asked (range_at whole v) ≡ false
none_child whole n j v asked none x = ap (holds asked) (sym (child_range whole n j v (range_at whole v) x)) ∙ none j (range_at whole v) (is_listed whole n j v x)

pub none_holds : (whole : Tree) (n : ℕ) (asked : Bounds) → n < size whole → ((j v : ℕ) → ChildRow whole n j v → Within asked (range_at whole v) → ⊥) → NoneHolds whole n asked
none_holds whole n asked h f = λ j d lt. each_range (λ r. holds asked r ≡ false) whole n j d h (λ v x. not_held asked (range_at whole v) (f j v x)) lt

pub later_child_starts : (whole : Tree) (n j v i u : ℕ) → ChildRow whole n j v → ChildRow whole n i u → j < i → end_at whole v ≤ start_at whole u
later_child_starts whole n j v i u x y h = later_starts whole v u x.is_row (in_order whole n j v i u x y h) y.is_row

-- to the child that holds the range
pub to_holder : (whole : Tree) (n j v : ℕ) (asked : Bounds) → n < size whole → ChildRow whole n j v → holds asked (range_at whole v) ≡ true → covering_of (cursor_at whole n) asked ≡ covering_of (cursor_at whole v) asked
to_holder whole n j v asked h x is =
    goes_down whole n j v asked x (towards_holder asked (ranges_at whole n) j (range_at whole v) (is_listed whole n j v x)
    (ap (holds asked) (child_range whole n j v (range_at whole v) x) ∙ is)
    (λ i d more less. each_range (λ r. holds asked r ≡ false) whole n i d h (λ u y. not_held asked (range_at whole u) (λ w. not_both asked (range_at whole v) (range_at whole u) (holds_means asked (range_at whole v) is) w (later_child_starts whole n j v i u x y more))) less))

-- row n stays where it has no children, or none of them holds a range that is not empty
pub leaf_stays : (whole : Tree) (n : ℕ) (asked : Bounds) → n < size whole → (row_at whole n).end ≤ suc n → covering_of (cursor_at whole n) asked ≡ cursor_at whole n
leaf_stays whole n asked h short = stays whole n asked (ap (child_towards asked) (no_ranges (tree_at whole n) (start_at whole n) (omega (arith, short, end_of_row whole n h))) ∙ towards_nothing asked)
  where
    no_ranges : (t : Tree) (b : ℕ) → size t ≤ 1 → child_ranges (forest_of_children t) b ≡ []
    no_ranges (token k x) b h = refl
    no_ranges (node k nil) b h = refl
    no_ranges (node k (cons u r)) b h = absurd (omega (arith, h, forest_size-cons u r, some_row u))

pub wide_stays : (whole : Tree) (n : ℕ) (asked : Bounds) → n < size whole → asked.start < asked.end → NoneHolds whole n asked → covering_of (cursor_at whole n) asked ≡ cursor_at whole n
wide_stays whole n asked h wide none = stays whole n asked (towards_none asked (ranges_at whole n) wide none)

-- to the last child that ends at or before an empty range which none holds
pub to_last : (whole : Tree) (n j v : ℕ) (asked : Bounds) → n < size whole → asked.end ≤ asked.start → NoneHolds whole n asked → ChildRow whole n j v → end_at whole v ≤ asked.start
    → ((i u : ℕ) → ChildRow whole n i u → j < i → asked.start < end_at whole u) → covering_of (cursor_at whole n) asked ≡ covering_of (cursor_at whole v) asked
to_last whole n j v asked h empty none x ends later =
    goes_down whole n j v asked x (towards_last asked (ranges_at whole n) j (range_at whole v) empty none (is_listed whole n j v x)
    (omega (arith, ap (λ r. r.end) (child_range whole n j v (range_at whole v) x), ends))
    (λ i d more less. each_range (λ r. asked.start < r.end) whole n i d h (λ u y. later i u y more) less))

-- to the first child where all end after an empty range which none holds
pub to_first : (whole : Tree) (n v : ℕ) (asked : Bounds) → n < size whole → asked.end ≤ asked.start → NoneHolds whole n asked → ChildRow whole n 0 v
    → ((i u : ℕ) → ChildRow whole n i u → asked.start < end_at whole u) → covering_of (cursor_at whole n) asked ≡ covering_of (cursor_at whole v) asked
to_first whole n v asked h empty none x later =
    goes_down whole n 0 v asked x (towards_first asked (ranges_at whole n) empty none (is_listed whole n 0 v x)
    (λ i d less. each_range (λ r. asked.start < r.end) whole n i d h (λ u y. later i u y) less))

pub same_child : (whole : Tree) (n j v u : ℕ) → ChildRow whole n j v → ChildRow whole n j u → v ≡ u
same_child whole n j v u x y = omega (arith, x.row_is, y.row_is, At-same_row x.at y.at)

pub first_child_row : (whole : Tree) (n : ℕ) → n < size whole → suc n < (row_at whole n).end → ChildRow whole n 0 (suc n)
first_child_row whole n h long = in_tree (tree_at whole n) refl (omega (arith, long, end_of_row whole n h))
  where
    in_tree : (t : Tree) → tree_at whole n ≡ t → 1 < size t → ChildRow whole n 0 (suc n)
    in_tree (token k x) e long = absurd (omega arith)
    in_tree (node k nil) e long = absurd (omega arith)
    in_tree (node k (cons u r)) e long =
        let row : suc n + 0 ≡ suc n = omega arith in
        subst (ChildRow whole n 0) row (child_of_node whole n 0 0 (node k (cons u r)) h e (subst (λ t. At (cons whole nil) n (0 ∷ place_at whole n) t (start_at whole n)) e (at_row whole n h)) here (omega arith))

-- a row that is not the root's is a child of its parent's
pub child_of_parent : (whole : Tree) (m : ℕ) (v : Hangs whole m) → ChildRow whole v.q v.w.position m
child_of_parent whole m v =
    let at_child : At (children_at whole v.q) v.w.row_within (v.w.position ∷ []) (tree_at whole m) v.w.start_within = subst (λ t. At (forest_of_children t) v.w.row_within (v.w.position ∷ []) (tree_at whole m) v.w.start_within) (sym v.parent_is) v.w.at_child in
    let w = child_row whole v.q v.w.position v.in_range (At-counted at_child) in
    let same : w.0 ≡ m = omega (arith, w.1.row_is, At-same_row w.1.at at_child, v.w.row_is, v.q_is) in
    subst (ChildRow whole v.q v.w.position) same w.1

-- the parent of a row in a subtree whose root it is not is in the subtree
pub parent_within : (whole : Tree) (n m : ℕ) → n < size whole → n < m → m < (row_at whole n).end → (v : Hangs whole m) × (n ≤ v.q)
parent_within whole n m h more lt =
    elim (hangs whole m (nested whole n m h (omega (arith, more)) lt).is_row) [
      | inl root ↦ absurd (omega (arith, root.1 n more, lt))
      | inr v ↦ elim (below_or_after v.q n) [
        | inl less ↦ absurd (omega (arith, v.between n less more, lt))
        | inr above ↦ (v, omega (arith, above.1))
      ]
    ]

path_by : (steps : ℕ) (whole : Tree) (n m : ℕ) (asked : Bounds) → n < size whole → n ≤ m → m < (row_at whole n).end → m ≤ n + steps → (m ≡ n) ⊎ Within asked (range_at whole m)
    → covering_of (cursor_at whole n) asked ≡ covering_of (cursor_at whole m) asked
path_by zero whole n m asked h le lt close is = ap (λ i. covering_of (cursor_at whole i) asked) (omega (arith, le, close))
path_by (suc steps) whole n m asked h le lt close (inl e) = ap (λ i. covering_of (cursor_at whole i) asked) (sym e)
path_by (suc steps) whole n m asked h le lt close (inr w) =
    elim (below_or_after n m) [
      | inr same ↦ ap (λ i. covering_of (cursor_at whole i) asked) (omega (arith, le, same.1))
      | inl more ↦
          let up = parent_within whole n m h more lt in
          let v = up.0 in
          let inside = nested whole v.q m v.in_range (omega (arith, v.earlier)) (omega (arith, v.reaches, some_row (tree_at whole m))) in
          path_by steps whole n v.q asked h up.1 (omega (arith, v.earlier, lt)) (omega (arith, v.earlier, close)) (inr (held_around asked (range_at whole m) (range_at whole v.q) w inside.starts inside.ends))
          ∙ to_holder whole v.q v.w.position m asked v.in_range (child_of_parent whole m v) (is_held asked (range_at whole m) w)
    ]

-- where the search for a row that holds the range begins: the last row in the subtree of row n that
-- starts before the bound
pub record Begun (whole : Tree) (n x e bound : ℕ) (asked : Bounds) : Type 0 where
  pub is_row : n < size whole
  pub is_end : e ≡ (row_at whole n).end
  pub split : SplitsAt whole (n + 1) e bound (x + 1)
  pub is_bound : ((asked.end ≤ asked.start) × (bound ≡ asked.start)) ⊎ ((asked.start < asked.end) × (bound ≡ asked.start + 1))

-- how far it came: nothing between row and x that has x below it holds the range
pub record Climbed (whole : Tree) (n x row : ℕ) (asked : Bounds) : Type 0 where
  pub low : n ≤ row
  pub high : row ≤ x
  pub reaches : x < (row_at whole row).end
  pub cleared : (y : ℕ) → row < y → y ≤ x → x < (row_at whole y).end → Within asked (range_at whole y) → ⊥

pub climb_begins : (whole : Tree) (n x e bound : ℕ) (asked : Bounds) → Begun whole n x e bound asked → Climbed whole n x x asked
climb_begins whole n x e bound asked w =
    let e_in : e ≤ size whole = omega (arith, w.is_end, row_end_fits whole n w.is_row) in
    let is_row : x < size whole = omega (arith, w.split.within, e_in) in
    record {
      low = omega (arith, w.split.begun);
      high = omega arith;
      reaches = omega (arith, end_of_row whole x is_row, some_row (tree_at whole x));
      cleared = λ y more le lt is. absurd (omega (arith, more, le));
    }

pub climbed_in : (whole : Tree) (n x e bound row : ℕ) (asked : Bounds) → Begun whole n x e bound asked → Climbed whole n x row asked → Nested whole n row
climbed_in whole n x e bound row asked w c = nested whole n row w.is_row c.low (omega (arith, c.high, w.split.within, w.is_end))

-- one step up
pub climb_on : (whole : Tree) (n x e bound row : ℕ) (asked : Bounds) → Begun whole n x e bound asked → Climbed whole n x row asked → n < row → holds asked (range_at whole row) ≡ false
    → Climbed whole n x (parent_at whole row) asked × ((parent_at whole row) < row)
climb_on whole n x e bound row asked w c more fails =
    let up = parent_within whole n row w.is_row more (omega (arith, c.high, w.split.within, w.is_end)) in
    let v = up.0 in
    let is : parent_at whole row ≡ v.q = v.up_is in
    let inside = nested whole v.q row v.in_range (omega (arith, v.earlier)) (omega (arith, v.reaches, some_row (tree_at whole row))) in
    let climbed : Climbed whole n x v.q asked = record {
      low = up.1;
      high = omega (arith, v.earlier, c.high);
      reaches = omega (arith, c.reaches, inside.rows);
      cleared = λ y after_q le lt is_within.
          elim (below_or_after y row) [
            | inl before ↦ omega (arith, v.between y after_q before, lt, c.high)
            | inr behind ↦ elim (below_or_after row y) [
              | inl later ↦ c.cleared y later le lt is_within
              | inr same ↦ let e' : y ≡ row = omega (arith, behind.1, same.1) in
                  (let no_way : true ≡ false = sym (is_held asked (range_at whole y) is_within) ∙ ap (λ i. holds asked (range_at whole i)) e' ∙ fails in cc)
            ]
          ];
    } in
    (subst (λ q. Climbed whole n x q asked) (sym is) climbed, omega (arith, is, v.earlier))

pub climb_ends : (whole : Tree) (n x e bound row : ℕ) (asked : Bounds) → Begun whole n x e bound asked → Climbed whole n x row asked → (row ≡ n) ⊎ (holds asked (range_at whole row) ≡ true) → IsHolding whole n asked row
climb_ends whole n x e bound row asked w c found =
    let inside = climbed_in whole n x e bound row asked w c in
    let at : (row ≡ n) ⊎ Within asked (range_at whole row) = elim found [ inl same ↦ inl same | inr is ↦ inr (holds_means asked (range_at whole row) is) ] in
    record {
      is_row = inside.is_row;
      covers = path_by row whole n row asked w.is_row c.low (omega (arith, c.high, w.split.within, w.is_end)) (omega arith) at;
      none = none_holds whole row asked inside.is_row (λ j v y is.
          let below_e : v < e = omega (arith, y.inside, inside.rows, w.is_end, end_of_row whole v y.is_row, some_row (tree_at whole v)) in
          let behind_n : n < v = omega (arith, y.row_is, c.low) in
          let low : start_at whole v < bound = starts_low v is in
          elim (below_or_after x v) [
            | inl past ↦ omega (arith, low, w.split.behind v (omega (arith, past)) below_e)
            | inr le ↦ elim (below_or_after x (row_at whole v).end) [
              | inl reaches ↦ c.cleared v (omega (arith, y.row_is)) (omega (arith, le.1)) reaches is
              | inr short ↦
                  let is_x : x < size whole = omega (arith, w.split.within, w.is_end, row_end_fits whole n w.is_row) in
                  omega (arith, later_starts whole v x y.is_row (omega (arith, short.1)) is_x, w.split.before x (omega (arith, behind_n, le.1)) (omega arith), ends_high v is)
            ]
          ]);
    }
  where
    starts_low : (v : ℕ) → Within asked (range_at whole v) → start_at whole v < bound
    starts_low v (inl i) = elim w.is_bound [ inl b ↦ absurd (omega (arith, b.0, i.0)) | inr b ↦ omega (arith, b.1, i.1) ]
    starts_low v (inr i) = elim w.is_bound [ inl b ↦ omega (arith, b.1, i.1) | inr b ↦ absurd (omega (arith, b.0, i.0)) ]

    ends_high : (v : ℕ) → Within asked (range_at whole v) → bound ≤ end_at whole v
    ends_high v (inl i) = elim w.is_bound [ inl b ↦ absurd (omega (arith, b.0, i.0)) | inr b ↦ omega (arith, b.1, i.0, i.2) ]
    ends_high v (inr i) = elim w.is_bound [ inl b ↦ omega (arith, b.1, i.2) | inr b ↦ absurd (omega (arith, b.0, i.0)) ]
