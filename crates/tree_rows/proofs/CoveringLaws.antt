-- What covers a range is a place, and holds the range.
use Rattle.std.proofs.Common.{◌≡◌, ◌⊎◌, inl, inr, ℕ, zero, suc, ◌+◌, ◌<◌, ◌≤◌, List, [], ◌∷◌, length, get_or, refl, sym, ap, ◌∙◌, subst, arith, Bool, true, false}
use Rattle.std.specs.Prelude.{Option, Some, None, option_map, Contains, nat_lt, nat_le, if◌then◌else◌}
use Rattle.std.specs.Option.{option_or}
use Rattle.std.proofs.lemmas.Bool.Decides.{nat_tests}
use Rattle.std.proofs.lemmas.List.Elements.{Contains-get_or}
use Rattle.text_size.specs.TextRange.{Bounds}
use Rattle.tree_model.specs.Tree.{Tree, size, places, IsPlace, parent_place}
use Rattle.tree_model.specs.Rows.{tree_at, start_at, end_at, place_at}
use Rattle.tree_rows.specs.Rows.{row_at}
use Rattle.tree_model.specs.Cursor.{Cursor, at_place, cursor_at, range_start, range_end, parent_of, ancestors_of, ancestors_from}
use Rattle.tree_model.specs.Covering.{holds, last_with, first_number, child_towards, covering_of, CoveringHolds}
use Rattle.tree_model.proofs.At.{At-same_row, below_or_after, next_top, some_row}
use Rattle.tree_model.proofs.StepLemmas.{parent_place-append}
use Rattle.tree_rows.proofs.StepLemmas.{end_of_row, hangs}
use Rattle.tree_model.proofs.AncestorLemmas.{ancestors_of-step}
use Rattle.tree_rows.proofs.Starts.{nested, behind_starts, first_starts}
use Rattle.tree_model.proofs.WalkLemmas.{length-places}
use Rattle.tree_model.proofs.CoveringPlaces.{Within, holds_means, is_held, length-child_ranges}
use Rattle.tree_model.proofs.CoveringRows.{children_at, range_at, ranges_at, stays}
use Rattle.tree_rows.proofs.CoveringRows.{ChildRow, child_row, child_range, is_listed, goes_down, first_child_row, same_child}
use Rattle.tree_model.proofs.CoveringEmpty.{size_of_children}
use Rattle.tree_rows.proofs.CoveringEmpty.{child_size, same_end}
use Rattle.tree_rows.proofs.PointerLaws.{row_of_place}

-- ---- which child is chosen, by the list of ranges

abbrev LastIs : (Bounds → Bool) → List Bounds → Option ℕ → Type 0
LastIs p rs None = (j : ℕ) (d : Bounds) → j < length rs → p (get_or rs j d) ≡ false
LastIs p rs (Some i) = (i < length rs) × ((d : Bounds) → p (get_or rs i d) ≡ true) × ((j : ℕ) (d : Bounds) → i < j → j < length rs → p (get_or rs j d) ≡ false)

none_by_cases : (p : Bounds → Bool) (r : Bounds) (rs : List Bounds) → p r ≡ false → LastIs p rs None → LastIs p (r ∷ rs) None
none_by_cases p r rs e h zero d lt = e
none_by_cases p r rs e h (suc j) d lt = h j d (omega (arith, lt))

later_than_first : (p : Bounds → Bool) (r : Bounds) (rs : List Bounds) → LastIs p rs None → (j : ℕ) (d : Bounds) → 0 < j → j < length (r ∷ rs) → p (get_or (r ∷ rs) j d) ≡ false
later_than_first p r rs h zero d more lt = absurd (omega arith)
later_than_first p r rs h (suc j) d more lt = h j d (omega (arith, lt))

later_than : (p : Bounds → Bool) (r : Bounds) (rs : List Bounds) (i : ℕ) → LastIs p rs (Some i) → (j : ℕ) (d : Bounds) → suc i < j → j < length (r ∷ rs) → p (get_or (r ∷ rs) j d) ≡ false
later_than p r rs i h zero d more lt = absurd (omega arith)
later_than p r rs i h (suc j) d more lt = h.2 j d (omega (arith, more)) (omega (arith, lt))

at_head : (p : Bounds → Bool) (r : Bounds) (rs : List Bounds) → LastIs p rs None → (b : Bool) → p r ≡ b → LastIs p (r ∷ rs) (if b then Some 0 else None)
at_head p r rs h true e = (omega arith, λ d. e, later_than_first p r rs h)
at_head p r rs h false e = none_by_cases p r rs e h

with_head : (p : Bounds → Bool) (r : Bounds) (rs : List Bounds) (o : Option ℕ) → LastIs p rs o → LastIs p (r ∷ rs) (option_or (option_map suc o) (if p r then Some 0 else None))
with_head p r rs None h = at_head p r rs h (p r) refl
with_head p r rs (Some i) h = (omega (arith, h.0), h.1, later_than p r rs i h)

last_is : (p : Bounds → Bool) (rs : List Bounds) → LastIs p rs (last_with p rs)
last_is p [] = λ j d lt. absurd (omega arith)
last_is p (r ∷ rs) = with_head p r rs (last_with p rs) (last_is p rs)

-- how an empty range that no child holds comes to its child
record ByEmpty (asked : Bounds) (rs : List Bounds) (j : ℕ) : Type 0 where
  empty : asked.end ≤ asked.start
  none : LastIs (holds asked) rs None
  by : (((d : Bounds) → (get_or rs j d).end ≤ asked.start) × ((k : ℕ) (d : Bounds) → j < k → k < length rs → asked.start < (get_or rs k d).end))
      ⊎ ((j ≡ 0) × ((k : ℕ) (d : Bounds) → k < length rs → asked.start < (get_or rs k d).end))

abbrev Chosen : Bounds → List Bounds → Option ℕ → Type 0
Chosen asked rs None = Unit {0}
Chosen asked rs (Some j) = (j < length rs) × (((d : Bounds) → holds asked (get_or rs j d) ≡ true) ⊎ ByEmpty asked rs j)

ends_by : (a b : ℕ) → nat_le a b ≡ true → a ≤ b
ends_by a b e = grind (arith, nat_tests)

ends_behind : (a b : ℕ) → nat_le a b ≡ false → b < a
ends_behind a b e = grind (arith, nat_tests)

not_wide : (a b : ℕ) → nat_lt a b ≡ false → b ≤ a
not_wide a b e = grind (arith, nat_tests)

by_last : (asked : Bounds) (rs : List Bounds) (o : Option ℕ) → asked.end ≤ asked.start → LastIs (holds asked) rs None → LastIs (λ r. nat_le r.end asked.start) rs o → Chosen asked rs (option_or o (first_number rs))
by_last asked rs (Some j) empty none h = (
  h.0,
  inr (record {
    empty = empty;
    none = none;
    by = inl (λ d. ends_by _ _ (h.1 d), λ k d more lt. ends_behind _ _ (h.2 k d more lt));
  }),
)
by_last asked [] None empty none h = tt
by_last asked (r ∷ rs) None empty none h = (
  omega arith,
  inr (record {
    empty = empty;
    none = none;
    by = inr (refl, λ k d lt. ends_behind _ _ (h k d lt));
  }),
)

by_width : (asked : Bounds) (rs : List Bounds) (b : Bool) → nat_lt asked.start asked.end ≡ b → LastIs (holds asked) rs None → Chosen asked rs (if b then None else option_or (last_with (λ r. nat_le r.end asked.start) rs) (first_number rs))
by_width asked rs true e none = tt
by_width asked rs false e none = by_last asked rs (last_with (λ r. nat_le r.end asked.start) rs) (not_wide asked.start asked.end e) none (last_is (λ r. nat_le r.end asked.start) rs)

by_holder : (asked : Bounds) (rs : List Bounds) (o : Option ℕ) → LastIs (holds asked) rs o → Chosen asked rs (option_or o (if nat_lt asked.start asked.end then None else option_or (last_with (λ r. nat_le r.end asked.start) rs) (first_number rs)))
by_holder asked rs (Some j) h = (h.0, inl h.1)
by_holder asked rs None h = by_width asked rs (nat_lt asked.start asked.end) refl h

chosen : (asked : Bounds) (rs : List Bounds) → Chosen asked rs (child_towards asked rs)
chosen asked rs = by_holder asked rs (last_with (holds asked) rs) (last_is (holds asked) rs)

-- ---- the chosen child holds the range, where its parent does

record Around (whole : Tree) (n : ℕ) (asked : Bounds) : Type 0 where
  begun : start_at whole n ≤ asked.start
  ended : asked.end ≤ end_at whole n

by_last_child : (whole : Tree) (n j v : ℕ) (asked : Bounds) → n < size whole → ChildRow whole n j v → asked.start ≤ asked.end → Around whole n asked → LastIs (holds asked) (ranges_at whole n) None → asked.end ≤ asked.start
    → end_at whole v ≤ asked.start → ((k u : ℕ) → ChildRow whole n k u → j < k → asked.start < end_at whole u) → asked.end ≤ end_at whole v
by_last_child whole n j v asked h x ordered w none empty ends later =
    elim (next_top x.at) [
      | inr last ↦
          let sizes = size_of_children (tree_at whole n) (omega (arith, x.inside, x.row_is, end_of_row whole n h, end_of_row whole v x.is_row, some_row (tree_at whole v))) in
          let same : (row_at whole v).end ≡ (row_at whole n).end = omega (arith, end_of_row whole v x.is_row, end_of_row whole n h, child_size whole n j v x, x.row_is, last.0, sizes.0) in
          omega (arith, same_end whole v n x.is_row h same, w.ended)
      | inl next ↦
          let u = child_row whole n (suc j) h next.1 in
          let u_is : u.0 ≡ (row_at whole v).end = omega (arith, u.1.row_is, At-same_row u.1.at next.0, end_of_row whole v x.is_row, child_size whole n j v x, x.row_is) in
          let starts : start_at whole u.0 ≡ end_at whole v = behind_starts whole v u.0 x.is_row u_is u.1.is_row in
          elim (below_or_after (end_at whole v) asked.start) [
            | inr reaches ↦ omega (arith, reaches.1, empty)
            | inl short ↦ absurd (inside u.0 (suc j) u.1 (omega (arith, starts, short)) (later (suc j) u.0 u.1 (omega arith)))
          ]
    ]
  where
    inside : (u k : ℕ) → ChildRow whole n k u → start_at whole u < asked.start → asked.start < end_at whole u → ⊥
    inside u k y low high =
        (let clash : true ≡ false = sym (is_held asked (range_at whole u) (inr (empty, low, high))) ∙ ap (holds asked) (sym (child_range whole n k u (range_at whole u) y)) ∙ none k (range_at whole u) (is_listed whole n k u y) in cc)

chosen_holds : (whole : Tree) (n j v : ℕ) (asked : Bounds) → n < size whole → ChildRow whole n j v → asked.start ≤ asked.end → Around whole n asked → ((d : Bounds) → holds asked (get_or (ranges_at whole n) j d) ≡ true) ⊎ ByEmpty asked (ranges_at whole n) j → Around whole v asked
chosen_holds whole n j v asked h x ordered w (inl is) =
    by_within (holds_means asked (range_at whole v) (ap (holds asked) (sym (child_range whole n j v (range_at whole v) x)) ∙ is (range_at whole v)))
  where
    by_within : Within asked (range_at whole v) → Around whole v asked
    by_within (inl wide) = record { begun = wide.1; ended = wide.2 }
    by_within (inr empty) = record { begun = omega (arith, empty.1); ended = omega (arith, empty.0, empty.2) }
chosen_holds whole n j v asked h x ordered w (inr way) = by_way way.by
  where
    end_is : (k u : ℕ) → ChildRow whole n k u → (get_or (ranges_at whole n) k (range_at whole u)).end ≡ end_at whole u
    end_is k u y = ap (λ r. r.end) (child_range whole n k u (range_at whole u) y)

    by_way : (((d : Bounds) → (get_or (ranges_at whole n) j d).end ≤ asked.start) × ((k : ℕ) (d : Bounds) → j < k → k < length (ranges_at whole n) → asked.start < (get_or (ranges_at whole n) k d).end))
        ⊎ ((j ≡ 0) × ((k : ℕ) (d : Bounds) → k < length (ranges_at whole n) → asked.start < (get_or (ranges_at whole n) k d).end)) → Around whole v asked
    by_way (inl last) =
        let ends : end_at whole v ≤ asked.start = omega (arith, end_is j v x, last.0 (range_at whole v)) in
        record {
          begun = omega (arith, ends);
          ended = by_last_child whole n j v asked h x ordered w way.none way.empty ends (λ k u y more. omega (arith, end_is k u y, last.1 k (range_at whole u) more (is_listed whole n k u y)));
        }
    by_way (inr first) =
        let long : suc n < (row_at whole n).end = omega (arith, x.inside, x.row_is, end_of_row whole v x.is_row, some_row (tree_at whole v)) in
        let same : suc n ≡ v = same_child whole n 0 (suc n) v (first_child_row whole n h long) (subst (λ k. ChildRow whole n k v) first.0 x) in
        record {
          begun = omega (arith, first_starts whole n v h (sym same) (omega (arith, same, long)), w.begun);
          ended = omega (arith, end_is j v x, first.1 j (range_at whole v) (is_listed whole n j v x), way.empty);
        }

-- ---- all the way down

record Reached (whole : Tree) (n : ℕ) (asked : Bounds) : Type 0 where
  row : ℕ
  is_row : row < size whole
  covers : covering_of (cursor_at whole n) asked ≡ cursor_at whole row
  around : Around whole n asked → Around whole row asked

by_choice : (whole : Tree) (n : ℕ) (asked : Bounds) → n < size whole → asked.start ≤ asked.end → ((v : ℕ) → n < v → v < size whole → Reached whole v asked) → (o : Option ℕ) → child_towards asked (ranges_at whole n) ≡ o → Chosen asked (ranges_at whole n) o → Reached whole n asked
by_choice whole n asked h ordered go None e way = record { row = n; is_row = h; covers = stays whole n asked e; around = λ w. w }
by_choice whole n asked h ordered go (Some j) e way =
    let v = child_row whole n j h (omega (arith, way.0, length-child_ranges (children_at whole n) (start_at whole n))) in
    let below = go v.0 (omega (arith, v.1.row_is)) v.1.is_row in
    record {
      row = below.row;
      is_row = below.is_row;
      covers = goes_down whole n j v.0 asked v.1 e ∙ below.covers;
      around = λ w. below.around (chosen_holds whole n j v.0 asked h v.1 ordered w way.1);
    }

reach : (steps : ℕ) (whole : Tree) (n : ℕ) (asked : Bounds) → n < size whole → size whole ≤ n + steps → asked.start ≤ asked.end → Reached whole n asked
reach zero whole n asked h close ordered = absurd (omega (arith, h, close))
reach (suc steps) whole n asked h close ordered =
    by_choice whole n asked h ordered (λ v more lt. reach steps whole v asked lt (omega (arith, close, more)) ordered) (child_towards asked (ranges_at whole n)) refl (chosen asked (ranges_at whole n))

-- ---- all the way up

in_tail : (x a : Cursor) (xs : List Cursor) (k : ℕ) → k < length (x ∷ xs) → get_or (x ∷ xs) k a ≡ a → (x ≡ a) ⊎ Contains xs a
in_tail x a xs zero lt e = inl e
in_tail x a xs (suc k) lt e = inr (k, omega (arith, lt), e)

-- the range of a row lies in those of its ancestors
above_step : (whole : Tree) (n : ℕ) (a : Cursor) → n < size whole → ((q : ℕ) → q < n → q < size whole → Contains (ancestors_of (cursor_at whole q)) a → (range_start a ≤ start_at whole q) × (end_at whole q ≤ range_end a))
    → (cursor_at whole n ≡ a) ⊎ Contains (ancestors_from (parent_of (cursor_at whole n))) a → (range_start a ≤ start_at whole n) × (end_at whole n ≤ range_end a)
above_step whole n a h go (inl e) = (omega (arith, ap range_start e), omega (arith, ap range_end e))
above_step whole n a h go (inr up) =
    elim (hangs whole n h) [
      | inl root ↦ absurd (let none = subst (λ l. Contains l a) (ap (λ p. ancestors_from (option_map (at_place (cursor_at whole n)) (parent_place p))) root.0) up in omega (arith, none.1))
      | inr v ↦
          let parent : parent_of (cursor_at whole n) ≡ Some (cursor_at whole v.q) = ap (λ o. option_map (at_place (cursor_at whole n)) o) (ap parent_place v.place_is ∙ parent_place-append (place_at whole v.q) v.w.position) in
          let inside = nested whole v.q n v.in_range (omega (arith, v.earlier)) (omega (arith, v.reaches, some_row (tree_at whole n))) in
          let w = go v.q v.earlier v.in_range (subst (λ o. Contains (ancestors_from o) a) parent up) in
          (omega (arith, w.0, inside.starts), omega (arith, w.1, inside.ends))
    ]

above : (steps : ℕ) (whole : Tree) (n : ℕ) (a : Cursor) → n < size whole → n < steps → Contains (ancestors_of (cursor_at whole n)) a → (range_start a ≤ start_at whole n) × (end_at whole n ≤ range_end a)
above zero whole n a h close up = absurd (omega arith)
above (suc steps) whole n a h close up =
    let listed = subst (λ l. Contains l a) (ancestors_of-step (cursor_at whole n)) up in
    above_step whole n a h (λ q less lt is. above steps whole q a lt (omega (arith, less, close)) is) (in_tail (cursor_at whole n) a (ancestors_from (parent_of (cursor_at whole n))) listed.0 listed.1 listed.2)

pub covering_holds : CoveringHolds
covering_holds c asked is_place ordered =
    let r = row_of_place c.tree c.place is_place in
    let is : cursor_at c.tree r.0 ≡ c = ap (at_place c) r.2 in
    let w = reach (size c.tree) c.tree r.0 asked r.1 (omega arith) ordered in
    let covers : covering_of c asked ≡ cursor_at c.tree w.row = ap (λ d. covering_of d asked) (sym is) ∙ w.covers in (
      subst (λ d. IsPlace c.tree d.place) (sym covers) (Contains-get_or (places c.tree) w.row [] (omega (arith, w.is_row, length-places c.tree))),
      λ begun ended a is_above.
          let around = w.around (record { begun = omega (arith, begun, ap range_start is); ended = omega (arith, ended, ap range_end is) }) in
          let up = above (suc w.row) c.tree w.row a w.is_row (omega arith) (subst (λ d. Contains (ancestors_of d) a) covers is_above) in
          (omega (arith, up.0, around.begun), omega (arith, up.1, around.ended)),
    )
