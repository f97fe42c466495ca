-- Children and siblings, one step at a time: the lists that the iterators give.
use Rattle.std.proofs.Common.{◌≡◌, ℕ, zero, suc, ◌<◌, ◌≤◌, inl, inr, List, ◌∷◌, ◌++◌, reverse, refl, sym, ap, ◌∙◌, arith, []}
use Rattle.std.specs.Prelude.{Option, None, Some, option_map, nat_lt, if◌then◌else◌}
use native.Mathlib.Decide.{dec_lt}
use Rattle.tree_model.specs.declared.direction.Direction.{Direction}
use Rattle.tree_model.specs.declared.direction.Direction.TheVariants.{Next, Prev}
use Rattle.tree_model.specs.Tree.{Tree, size, child_count, forest_of_children, place_above, last_position, parent_place, sibling_count, first_child_place, last_child_place, next_sibling_place, prev_sibling_place, sibling_place_in}
use Rattle.tree_model.specs.Rows.{place_at, tree_at}
use Rattle.tree_rows.specs.Rows.{row_at, parent_at}
use Rattle.tree_model.specs.Cursor.{Cursor, at_place, cursor_at, children_of, following_of, preceding_of, siblings_in}
use Rattle.tree_rows.specs.Walks.{siblings_from, siblings_left, HaveParentEnd}
use Rattle.tree_model.proofs.At.{place_above-append}
use Rattle.tree_model.proofs.StepLemmas.{parent_place-append, if_above, if_not_above}
use Rattle.tree_rows.proofs.StepLemmas.{hangs, same_parent, parent_by_row, first_child_found, no_first_child_found, next_sibling_found, no_next_sibling_found}
use Rattle.tree_model.proofs.ChildLists.{children_of-reversed, children_of-step, following_of-step, onward, preceding_of-step}

-- what a step by rows finds, in a direction
onward_from : (d : Direction) (tree : Tree) (f : Cursor → List Cursor) → ((c : Cursor) → siblings_in d c ≡ c ∷ f c) → (c : Cursor) → c.tree ≡ tree → (r : Option ℕ)
    → onward f (option_map (at_place c) (option_map (place_at tree) r)) ≡ siblings_from d tree r
onward_from d tree f e c same None = refl
onward_from d tree f e c same (Some m) = sym (e (at_place c (place_at tree m))) ∙ ap (λ t. siblings_in d (record { tree = t; place = place_at tree m })) same

pub following_is : (tree : Tree) (n : ℕ) (r : Option ℕ) → option_map (place_at tree) r ≡ next_sibling_place tree (place_at tree n) → following_of (cursor_at tree n) ≡ siblings_from Next tree r
following_is tree n r e =
    following_of-step (cursor_at tree n) ∙ ap (λ o. onward following_of (option_map (at_place (cursor_at tree n)) o)) (sym e)
    ∙ onward_from Next tree following_of (λ c. refl) (cursor_at tree n) refl r

pub children_are : (tree : Tree) (n : ℕ) (r : Option ℕ) → option_map (place_at tree) r ≡ first_child_place tree (place_at tree n) → children_of (cursor_at tree n) ≡ siblings_from Next tree r
children_are tree n r e =
    children_of-step (cursor_at tree n) ∙ ap (λ o. onward following_of (option_map (at_place (cursor_at tree n)) o)) (sym e)
    ∙ onward_from Next tree following_of (λ c. refl) (cursor_at tree n) refl r

pub preceding_is : (tree : Tree) (n : ℕ) (r : Option ℕ) → option_map (place_at tree) r ≡ prev_sibling_place (place_at tree n) → preceding_of (cursor_at tree n) ≡ siblings_from Prev tree r
preceding_is tree n r e =
    preceding_of-step (cursor_at tree n) ∙ ap (λ o. onward preceding_of (option_map (at_place (cursor_at tree n)) o)) (sym e)
    ∙ onward_from Prev tree preceding_of (λ c. refl) (cursor_at tree n) refl r

pub reversed_children_are : (tree : Tree) (n : ℕ) (r : Option ℕ) → option_map (place_at tree) r ≡ last_child_place tree (place_at tree n) → reverse (children_of (cursor_at tree n)) ≡ siblings_from Prev tree r
reversed_children_are tree n r e =
    children_of-reversed (cursor_at tree n) ∙ ap (λ o. onward preceding_of (option_map (at_place (cursor_at tree n)) o)) (sym e)
    ∙ onward_from Prev tree preceding_of (λ c. refl) (cursor_at tree n) refl r

pub siblings_in-step : (d : Direction) (tree : Tree) (n : ℕ) (r : Option ℕ) → option_map (place_at tree) r ≡ sibling_place_in d tree (place_at tree n)
    → siblings_in d (cursor_at tree n) ≡ cursor_at tree n ∷ siblings_from d tree r
siblings_in-step Next tree n r e = ap (λ l. cursor_at tree n ∷ l) (following_is tree n r e)
siblings_in-step Prev tree n r e = ap (λ l. cursor_at tree n ∷ l) (preceding_is tree n r e)

-- a child of row q has q's end as the end of its parent's rows
kept : (whole : Tree) (q n i stop : ℕ) → q < size whole → n < size whole → place_at whole n ≡ place_at whole q ++ i ∷ [] → (row_at whole q).end ≡ stop → HaveParentEnd whole n stop
kept whole q n i stop k h place_is is_stop _ = elim (hangs whole n h) [
  | inl root ↦ (let no : Some (place_at whole q) ≡ None = sym (parent_place-append (place_at whole q) i) ∙ ap parent_place (sym place_is ∙ root.0) in cc)
  | inr v ↦
      let same : q ≡ v.q = same_parent whole n q k (sym (parent_place-append (place_at whole q) i) ∙ ap parent_place (sym place_is)) v in
      (omega (arith, v.earlier), h, ap (λ j. (row_at whole j).end) (v.up_is ∙ sym same) ∙ is_stop)
]

left_none : (whole : Tree) (n stop : ℕ) → stop ≤ n → siblings_left whole n stop ≡ []
left_none whole n stop h = if_not_above n stop (siblings_in Next (cursor_at whole n)) [] h

left_some : (whole : Tree) (n stop : ℕ) → n < stop → siblings_left whole n stop ≡ cursor_at whole n ∷ following_of (cursor_at whole n)
left_some whole n stop h = if_above n stop (siblings_in Next (cursor_at whole n)) [] h

no_parent_end : (whole : Tree) (n stop : ℕ) → stop ≤ n → HaveParentEnd whole n stop
no_parent_end whole n stop h lt = absurd (omega (arith, h, lt))

pub children_begin : (whole : Tree) (n m stop : ℕ) → n < size whole → m ≡ suc n → stop ≡ (row_at whole n).end
    → (siblings_left whole m stop ≡ children_of (cursor_at whole n)) × HaveParentEnd whole m stop
children_begin whole n m stop h is_m is_stop = elim (dec_lt m stop) [
  | yes lt ↦
      let w = first_child_found whole n m h is_m (omega (arith, lt, is_stop)) in
      let place_is : place_at whole m ≡ place_at whole n ++ 0 ∷ [] = placed (child_count (forest_of_children (tree_at whole n))) w.1 in (
        left_some whole m stop lt ∙ ap (λ o. onward following_of (option_map (at_place (cursor_at whole n)) o)) w.1 ∙ sym (children_of-step (cursor_at whole n)),
        kept whole n m 0 stop h w.0 place_is (sym is_stop),
      )
  | no past ↦ (
    left_none whole m stop (omega (arith, past))
        ∙ ap (λ o. onward following_of (option_map (at_place (cursor_at whole n)) o)) (no_first_child_found whole n h (omega (arith, past, is_m, is_stop)))
        ∙ sym (children_of-step (cursor_at whole n)),
    no_parent_end whole m stop (omega (arith, past)),
  )
]
  where
    placed : (count : ℕ) → Some (place_at whole m) ≡ (if nat_lt 0 count then Some (place_at whole n ++ 0 ∷ []) else None) → place_at whole m ≡ place_at whole n ++ 0 ∷ []
    placed zero e = (let no : Some (place_at whole m) ≡ None = e ∙ if_not_above 0 0 (Some (place_at whole n ++ 0 ∷ [])) None (omega arith) in cc)
    placed (suc count) e = (let same : Some (place_at whole m) ≡ Some (place_at whole n ++ 0 ∷ []) = e ∙ if_above 0 (suc count) (Some (place_at whole n ++ 0 ∷ [])) None (omega arith) in cc)

pub siblings_left-step : (whole : Tree) (n e stop : ℕ) → HaveParentEnd whole n stop → n < stop → e ≡ (row_at whole n).end
    → (siblings_left whole n stop ≡ cursor_at whole n ∷ siblings_left whole e stop) × HaveParentEnd whole e stop
siblings_left-step whole n e stop w lt is_e =
    let here = w lt in
    let up = parent_by_row whole n (parent_at whole n) here.1 (λ z. absurd (omega (arith, z, here.0))) refl in
    elim (dec_lt e stop) [
      | yes more ↦
          let next = next_sibling_found whole n (parent_at whole n) e here.1 up.in_range up.place is_e (omega (arith, more, here.2)) in
          let place_is = placed (sibling_count whole (place_at whole n)) next.1 in (
            left_some whole n stop lt
                ∙ ap (λ l. cursor_at whole n ∷ l) (following_of-step (cursor_at whole n) ∙ ap (λ o. onward following_of (option_map (at_place (cursor_at whole n)) o)) (sym next.1) ∙ sym (left_some whole e stop more)),
            elim (hangs whole n here.1) [
              | inl root ↦ absurd (no_parent (parent_at whole n) root.0 up.place)
              | inr v ↦
                  let above_is : place_above (place_at whole n) ≡ place_at whole v.q = ap place_above v.place_is ∙ place_above-append (place_at whole v.q) v.w.position in
                  kept whole v.q e (suc (last_position (place_at whole n))) stop v.in_range next.0 (place_is ∙ ap (λ p. p ++ suc (last_position (place_at whole n)) ∷ []) above_is)
                  (ap (λ j. (row_at whole j).end) (sym v.up_is) ∙ here.2)
            ],
          )
      | no past ↦
          let none = no_next_sibling_found whole n (parent_at whole n) e here.1 up.in_range up.place is_e (omega (arith, past, here.2)) in (
            left_some whole n stop lt
                ∙ ap (λ l. cursor_at whole n ∷ l) (following_of-step (cursor_at whole n) ∙ ap (λ o. onward following_of (option_map (at_place (cursor_at whole n)) o)) (sym none) ∙ sym (left_none whole e stop (omega (arith, past)))),
            no_parent_end whole e stop (omega (arith, past)),
          )
    ]
  where
    placed : (count : ℕ) → Some (place_at whole e) ≡ (if nat_lt (suc (last_position (place_at whole n))) count then Some (place_above (place_at whole n) ++ suc (last_position (place_at whole n)) ∷ []) else None)
        → place_at whole e ≡ place_above (place_at whole n) ++ suc (last_position (place_at whole n)) ∷ []
    placed count same = elim (dec_lt (suc (last_position (place_at whole n))) count) [
      | yes lt ↦ (let is : Some (place_at whole e) ≡ Some (place_above (place_at whole n) ++ suc (last_position (place_at whole n)) ∷ []) = same ∙ if_above (suc (last_position (place_at whole n))) count (Some (place_above (place_at whole n) ++ suc (last_position (place_at whole n)) ∷ [])) None lt in cc)
      | no past ↦ (let no : Some (place_at whole e) ≡ None = same ∙ if_not_above (suc (last_position (place_at whole n))) count (Some (place_above (place_at whole n) ++ suc (last_position (place_at whole n)) ∷ [])) None (omega (arith, past)) in cc)
    ]

    no_parent : (q : ℕ) → place_at whole n ≡ [] → Some (place_at whole q) ≡ parent_place (place_at whole n) → ⊥
    no_parent q root parent = (let no : Some (place_at whole q) ≡ None = parent ∙ ap parent_place root in cc)
