-- One step of the walk, by rows.
use Rattle.std.proofs.Common.{◌≡◌, ℕ, zero, ◌+◌, ◌-◌, ◌<◌, ◌≤◌, inl, inr, [], ◌∷◌, ◌++◌, length, map, get_or, drop, refl, sym, ap, subst, ◌∙◌, arith, append-nil, length-append, true, false, Bool, add-one}
use Rattle.std.specs.Prelude.{Option, None, Some, IfSome, option_map}
use Rattle.std.proofs.Math.Seq.{drop-cons}
use Rattle.std.proofs.Math.ListN.{drop_of_length-le}
use Rattle.std.proofs.lemmas.List.{length-map, get_or-map}
use Rattle.tree_model.specs.Tree.{Tree, Forest, nil, cons, size, Place, parent_place, place_above, under, walk_from, walk}
use Rattle.tree_model.specs.Rows.{place_at, tree_at}
use Rattle.tree_rows.specs.Rows.{row_at}
use Rattle.tree_model.specs.Cursor.{Cursor, at_place, cursor_at, walk_of}
use Rattle.tree_rows.specs.Walks.{walk_left, OpenAt, IsWalk, MovesLevel}
use Rattle.tree_model.proofs.At.{At, here, below, after, lift, at_moved, below_or_after, At-fits, some_row, forest_size-cons, cong₂}
use Rattle.tree_model.proofs.TableLemmas.{at_row}
use Rattle.tree_model.proofs.WalkLemmas.{place_below}
use Rattle.tree_model.proofs.StepLemmas.{parent_place-append}
use Rattle.tree_rows.proofs.At.{end_from_At}
use Rattle.tree_rows.proofs.StepLemmas.{end_of_row, hangs, parent_found, same_parent}
use Rattle.tree_model.proofs.EventLemmas.{visited, walk_from-walk, length-walk}

-- the walk at one of its places
walk_read : (t : Tree) (k : ℕ) (b : Bool) (q : Place) → k < size t + size t → ((d : Bool × Place) → get_or (walk_from 0 (cons t nil)) k d ≡ (b, 0 ∷ q)) → get_or (walk t) k (true, []) ≡ (b, q)
walk_read t k b q lt h =
    let lt' : k < length (walk t) = omega (arith, lt, length-walk t) in
    let e : under 0 (get_or (walk t) k (true, [])) ≡ (b, 0 ∷ q) = sym (get_or-map (under 0) (walk t) k (true, []) (true, []) lt') ∙ ap (λ l. get_or l k (true, [])) (sym (walk_from-walk t)) ∙ h (true, []) in
    unwrapped (get_or (walk t) k (true, [])) e
  where
    unwrapped : (w : Bool × Place) → under 0 w ≡ (b, 0 ∷ q) → w ≡ (b, q)
    unwrapped w e =
        let e0 : w.0 ≡ b = ap (λ x. x.0) e in
        let e1 : (0 ∷ w.1) ≡ (0 ∷ q) = ap (λ x. x.1) e in
        let e2 : w.1 ≡ q = cc in
        cong₂ (λ a p. (a, p)) e0 e2

walk_drop : (whole : Tree) (start k : ℕ) (b : Bool) (q : Place) (m : ℕ) → k < size (tree_at whole start) + size (tree_at whole start) → get_or (walk (tree_at whole start)) k (true, []) ≡ (b, q) → place_at whole m ≡ place_at whole start ++ q
    → drop k (walk_of (cursor_at whole start)) ≡ (b, cursor_at whole m) ∷ drop (k + 1) (walk_of (cursor_at whole start))
walk_drop whole start k b q m lt is place_is =
    let g : Bool × Place → Bool × Cursor = λ w. (w.0, at_place (cursor_at whole start) (place_at whole start ++ w.1)) in
    let W = walk (tree_at whole start) in
    let ltW : k < length W = omega (arith, lt, length-walk (tree_at whole start)) in
    let ltM : k < length (map g W) = omega (arith, ltW, length-map W g) in
    drop-cons (map g W) k (true, cursor_at whole start) ltM
    ∙ cong₂ (λ x j. x ∷ drop j (map g W))
    (get_or-map g W k (true, []) (true, cursor_at whole start) ltW ∙ ap g is ∙ ap (λ p. (b, at_place (cursor_at whole start) p)) (sym place_is))
    (sym (add-one k))

-- a row of the subtree, in the subtree and in the whole
record Within (whole : Tree) (start m : ℕ) : Type 0 where
  q : Place
  k : ℕ
  place_is : place_at whole m ≡ place_at whole start ++ q
  k_is : k + length q ≡ (m - start) + (m - start)
  inside : m + size (tree_at whole m) ≤ start + size (tree_at whole start)
  depth : length (place_at whole m) ≡ length (place_at whole start) + length q
  fits : k + size (tree_at whole m) + size (tree_at whole m) ≤ size (tree_at whole start) + size (tree_at whole start)
  enter : drop k (walk_of (cursor_at whole start)) ≡ (true, cursor_at whole m) ∷ drop (k + 1) (walk_of (cursor_at whole start))
  leave : drop (k + size (tree_at whole m) + size (tree_at whole m) - 1) (walk_of (cursor_at whole start)) ≡ (false, cursor_at whole m) ∷ drop ((k + size (tree_at whole m) + size (tree_at whole m) - 1) + 1) (walk_of (cursor_at whole start))

-- a row of a subtree is a row of the whole
rise : {f : Forest} {t u : Tree} {j n m : ℕ} {above q : Place} {b c d : ℕ} → At (cons t nil) j (zero ∷ q) u b → At f n above t c → m ≡ n + j → d ≡ c + b → At f m (above ++ q) u d
rise {f} {n} {m} {above} {c} {d} (here {u = t}) a is_m is_d =
    let is_n : n ≡ m = omega (arith, is_m) in
    let is_c : c ≡ d = omega (arith, is_d) in
    subst (λ p. At f m p t d) (sym (append-nil above)) (at_moved a is_n is_c)
rise (below b) a is_m is_d = lift a b (omega (arith, is_m)) is_d

same_size : (whole : Tree) (start j m : ℕ) → start < size whole → m < size whole → j < size (tree_at whole start) → m ≡ start + j → size (tree_at (tree_at whole start) j) ≡ size (tree_at whole m)
same_size whole start j m h hm lt is_m =
    let a = rise (at_row (tree_at whole start) j lt) (at_row whole start h) is_m refl in
    omega (arith, end_from_At a, end_of_row whole m hm)

within : (whole : Tree) (start m : ℕ) → start < size whole → start ≤ m → m < start + size (tree_at whole start) → Within whole start m
within whole start m h from to =
    let t = tree_at whole start in
    let j = m - start in
    let is_m : m ≡ start + j = omega arith in
    let lt : j < size t = omega arith in
    let hm : m < size whole = omega (arith, At-fits (at_row whole start h), forest_size-cons whole nil) in
    let v = visited (at_row t j lt) in
    let same = same_size whole start j m h hm lt is_m in
    let place_is = place_below whole start j m t (at_row whole start h) lt is_m in
    let some = some_row (tree_at t j) in
    let fits : v.k + size (tree_at whole m) + size (tree_at whole m) ≤ size t + size t = omega (arith, v.within, same, forest_size-cons t nil) in
    let e : v.k + size (tree_at t j) + size (tree_at t j) - 1 ≡ v.k + size (tree_at whole m) + size (tree_at whole m) - 1 = omega (arith, same) in
    record {
      q = place_at t j;
      k = v.k;
      place_is = place_is;
      k_is = omega (arith, v.k_is);
      fits = fits;
      inside = omega (arith, At-fits (at_row t j lt), same, forest_size-cons t nil);
      depth = ap length place_is ∙ length-append (place_at whole start) (place_at t j);
      enter = walk_drop whole start v.k true (place_at t j) m (omega (arith, fits, some, same)) (walk_read t v.k true (place_at t j) (omega (arith, fits, some, same)) (λ d. v.entered 0 d)) place_is;
      leave = walk_drop whole start (v.k + size (tree_at whole m) + size (tree_at whole m) - 1) false (place_at t j) m (omega (arith, fits, some, same))
          (walk_read t (v.k + size (tree_at whole m) + size (tree_at whole m) - 1) false (place_at t j) (omega (arith, fits, some, same)) (λ d. ap (λ i. get_or (walk_from 0 (cons t nil)) i d) (sym e) ∙ v.left 0 d)) place_is;
    }

length-place_above : (i : ℕ) (p : Place) → length (place_above (i ∷ p)) + 1 ≡ length (i ∷ p)
length-place_above i [] = refl
length-place_above i (j ∷ p) = omega (arith, length-place_above j p)

parent_longer : (p q : Place) → Some p ≡ parent_place q → length q ≡ length p + 1
parent_longer p [] e = (let no : Some p ≡ None = e in cc)
parent_longer p (i ∷ q) e =
    let same : Some p ≡ Some (place_above (i ∷ q)) = e in
    let same' : p ≡ place_above (i ∷ q) = cc in
    omega (arith, length-place_above i q, ap length same')

-- a walk that has not begun enters its start
pub step_first : (whole : Tree) (start : ℕ) → start < size whole
    → (walk_left whole start start None ≡ (true, cursor_at whole start) ∷ walk_left whole start (start + 1) (Some start)) × IsWalk whole start (start + 1) (Some start)
step_first whole start h =
    let v = within whole start start h (omega arith) (omega (arith, some_row (tree_at whole start))) in
    let W = walk_of (cursor_at whole start) in
    let before : (start - start) + (start - start) - 0 ≡ v.k = omega (arith, v.k_is) in
    let later : v.k + 1 ≡ (start + 1 - start) + (start + 1 - start) - (length (place_at whole start) + 1 - length (place_at whole start)) = omega (arith, v.k_is) in (
      ap (λ i. drop i W) before ∙ v.enter ∙ ap (λ i. (true, cursor_at whole start) ∷ drop i W) later,
      record { start_is_row = h; begun = omega arith; within = omega (arith, some_row (tree_at whole start)); open_at = (omega arith, omega arith, omega (arith, some_row (tree_at whole start)), λ k a b. absurd (omega (arith, a, b))) },
    )

-- the next row is within the innermost open one
pub step_enter : (whole : Tree) (start next o : ℕ) → IsWalk whole start next (Some o) → next < (row_at whole o).end
    → (walk_left whole start next (Some o) ≡ (true, cursor_at whole next) ∷ walk_left whole start (next + 1) (Some next)) × IsWalk whole start (next + 1) (Some next)
step_enter whole start next o w lt =
    let h = w.start_is_row in
    let whole_fits : start + size (tree_at whole start) ≤ size whole = omega (arith, At-fits (at_row whole start h), forest_size-cons whole nil) in
    let from_o : start ≤ o = w.open_at.0 in
    let o_next : o < next = w.open_at.1 in
    let o_within : o < start + size (tree_at whole start) = omega (arith, w.within) in
    let vo = within whole start o h from_o o_within in
    let o_end : (row_at whole o).end ≡ o + size (tree_at whole o) = end_of_row whole o (omega arith) in
    let next_within : next < start + size (tree_at whole start) = omega (arith, vo.inside, o_end, lt) in
    let v = within whole start next h (omega arith) next_within in
    let longer = parent_longer (place_at whole o) (place_at whole next) (parent_found whole next o (omega arith) o_next lt w.open_at.3) in
    let W = walk_of (cursor_at whole start) in
    let before : (next - start) + (next - start) - (length (place_at whole o) + 1 - length (place_at whole start)) ≡ v.k = omega (arith, v.k_is, v.depth, longer) in
    let later : v.k + 1 ≡ (next + 1 - start) + (next + 1 - start) - (length (place_at whole next) + 1 - length (place_at whole start)) = omega (arith, v.k_is, v.depth) in (
      ap (λ i. drop i W) before ∙ v.enter ∙ ap (λ i. (true, cursor_at whole next) ∷ drop i W) later,
      record { start_is_row = h; begun = omega arith; within = omega arith; open_at = (omega arith, omega arith, omega (arith, some_row (tree_at whole next)), λ k a b. absurd (omega (arith, a, b))) },
    )

-- the start is left last
pub step_last : (whole : Tree) (start next : ℕ) → IsWalk whole start next (Some start) → (row_at whole start).end ≤ next
    → (walk_left whole start next (Some start) ≡ (false, cursor_at whole start) ∷ walk_left whole start next None) × IsWalk whole start next None
step_last whole start next w past =
    let h = w.start_is_row in
    let v = within whole start start h (omega arith) (omega (arith, some_row (tree_at whole start))) in
    let finished : next ≡ start + size (tree_at whole start) = omega (arith, end_of_row whole start h, past, w.within) in
    let W = walk_of (cursor_at whole start) in
    let before : (next - start) + (next - start) - (length (place_at whole start) + 1 - length (place_at whole start)) ≡ v.k + size (tree_at whole start) + size (tree_at whole start) - 1 = omega (arith, v.k_is, finished) in
    let later : (v.k + size (tree_at whole start) + size (tree_at whole start) - 1) + 1 ≡ (next - start) + (next - start) - 0 = omega (arith, v.k_is, finished, some_row (tree_at whole start)) in (
      ap (λ i. drop i W) before ∙ v.leave ∙ ap (λ i. (false, cursor_at whole start) ∷ drop i W) later,
      record { start_is_row = h; begun = w.begun; within = w.within; open_at = inr finished },
    )

-- the innermost open one is left
pub step_leave : (whole : Tree) (start next o p : ℕ) → IsWalk whole start next (Some o) → (row_at whole o).end ≤ next → start < o → p < size whole → Some (place_at whole p) ≡ parent_place (place_at whole o)
    → (walk_left whole start next (Some o) ≡ (false, cursor_at whole o) ∷ walk_left whole start next (Some p)) × IsWalk whole start next (Some p)
step_leave whole start next o p w past later k parent =
    let h = w.start_is_row in
    let whole_fits : start + size (tree_at whole start) ≤ size whole = omega (arith, At-fits (at_row whole start h), forest_size-cons whole nil) in
    let o_next : o < next = w.open_at.1 in
    let o_row : o < size whole = omega (arith, w.within) in
    let v = within whole start o h (omega arith) (omega (arith, w.within)) in
    let next_is : next ≡ o + size (tree_at whole o) = omega (arith, end_of_row whole o o_row, past, w.open_at.2) in
    let longer = parent_longer (place_at whole p) (place_at whole o) parent in
    let W = walk_of (cursor_at whole start) in
    let before : (next - start) + (next - start) - (length (place_at whole o) + 1 - length (place_at whole start)) ≡ v.k + size (tree_at whole o) + size (tree_at whole o) - 1 = omega (arith, v.k_is, v.depth, next_is) in
    let after : (v.k + size (tree_at whole o) + size (tree_at whole o) - 1) + 1 ≡ (next - start) + (next - start) - (length (place_at whole p) + 1 - length (place_at whole start)) = omega (arith, v.k_is, v.depth, next_is, longer, some_row (tree_at whole o)) in (
      ap (λ i. drop i W) before ∙ v.leave ∙ ap (λ i. (false, cursor_at whole o) ∷ drop i W) after,
      record { start_is_row = h; begun = w.begun; within = w.within; open_at = open_above whole start next o p w past later k parent o_row next_is },
    )
  where
    open_above : (whole : Tree) (start next o p : ℕ) → IsWalk whole start next (Some o) → (row_at whole o).end ≤ next → start < o → p < size whole → Some (place_at whole p) ≡ parent_place (place_at whole o) → o < size whole → next ≡ o + size (tree_at whole o) → OpenAt whole start next (Some p)
    open_above whole start next o p w past later k parent o_row next_is =
        elim (hangs whole o o_row) [
          | inl root ↦ (let no : Some (place_at whole p) ≡ None = parent ∙ ap parent_place root.0 in cc)
          | inr u ↦
              let same = same_parent whole o p k parent u in
              let p_end : (row_at whole p).end ≡ p + size (tree_at whole p) = end_of_row whole p k in
              let reaches : o + size (tree_at whole o) ≤ (row_at whole p).end = subst (λ x. o + size (tree_at whole o) ≤ (row_at whole x).end) (sym same) u.reaches in
              let p_o : p < o = omega (arith, same, u.earlier) in
              let from : start ≤ p = elim (below_or_after p start) [
                | inl less ↦ absurd (omega (arith, u.between start (omega (arith, same, less)) later, end_of_row whole start w.start_is_row, w.open_at.1, w.within))
                | inr more ↦ omega (arith, more.1)
              ] in (
                from,
                omega (arith, p_o, w.open_at.1),
                omega (arith, reaches, p_end, next_is),
                λ i after_p before_next. elim (below_or_after i o) [
                  | inl less ↦ omega (arith, u.between i (omega (arith, same, after_p)) less, w.open_at.1)
                  | inr more ↦ elim (below_or_after o i) [
                    | inl less ↦ w.open_at.3 i less before_next
                    | inr equal ↦ (let e : i ≡ o = omega (arith, more.1, equal.1) in subst (λ x. (row_at whole x).end ≤ next) (sym e) past)
                  ]
                ],
              )
        ]

walk_of-length : (whole : Tree) (start : ℕ) → length (walk_of (cursor_at whole start)) ≡ length (walk (tree_at whole start))
walk_of-length whole start =
    let g : Bool × Place → Bool × Cursor = λ w. (w.0, at_place (cursor_at whole start) (place_at whole start ++ w.1)) in
    length-map (walk (tree_at whole start)) g

pub step_done : (whole : Tree) (start next : ℕ) → IsWalk whole start next None → start < next → walk_left whole start next None ≡ []
step_done whole start next w later =
    let finished : next ≡ start + size (tree_at whole start) = elim w.open_at [ inl fresh ↦ absurd (omega (arith, fresh, later)) | inr ended ↦ ended ] in
    drop_of_length-le (walk_of (cursor_at whole start)) (omega (arith, finished, length-walk (tree_at whole start), walk_of-length whole start))

-- the same, with what the search for the parent answered
pub step_leave_to : (whole : Tree) (start next o : ℕ) (r : Option ℕ) → IsWalk whole start next (Some o) → (row_at whole o).end ≤ next → start < o → IfSome r (λ p. p < size whole) → option_map (place_at whole) r ≡ parent_place (place_at whole o)
    → (walk_left whole start next (Some o) ≡ (false, cursor_at whole o) ∷ walk_left whole start next r) × IsWalk whole start next r
step_leave_to whole start next o (Some p) w past later k parent = step_leave whole start next o p w past later k parent
step_leave_to whole start next o None w past later k parent =
    let whole_fits : start + size (tree_at whole start) ≤ size whole = omega (arith, At-fits (at_row whole start w.start_is_row), forest_size-cons whole nil) in
    let o_row : o < size whole = omega (arith, w.within, w.open_at.1) in
    elim (hangs whole o o_row) [
      | inl root ↦ absurd (omega (arith, root.1 start later, end_of_row whole start w.start_is_row, w.within, w.open_at.1))
      | inr u ↦ absurd (no_parent (place_at whole u.q) (place_at whole o) u.w.position parent u.place_is)
    ]
  where
    no_parent : (p q : Place) (i : ℕ) → None ≡ parent_place q → q ≡ p ++ i ∷ [] → ⊥
    no_parent p q i e is = (let no_such : None ≡ Some p = e ∙ ap parent_place is ∙ parent_place-append p i in cc)

pub open_row : (whole : Tree) (start next o : ℕ) → IsWalk whole start next (Some o) → o < size whole
open_row whole start next o w = omega (arith, w.within, w.open_at.1, At-fits (at_row whole start w.start_is_row), forest_size-cons whole nil)

pub next_row_within : (whole : Tree) (start next o : ℕ) → IsWalk whole start next (Some o) → next < (row_at whole o).end → next < size whole
next_row_within whole start next o w lt = omega (arith, lt, end_of_row whole o (open_row whole start next o w), At-fits (at_row whole o (open_row whole start next o w)), forest_size-cons whole nil)

-- ---- how many are open

depth_fits : {f : Forest} {n : ℕ} {p : Place} {t : Tree} {b : ℕ} → At f n p t b → length p ≤ n + 1
depth_fits here = omega arith
depth_fits (below a) = omega (arith, depth_fits a)
depth_fits (after is_m is_d a) = omega (arith, is_m, depth_fits a)

-- no row is deeper than its number
pub depth_row : (whole : Tree) (n : ℕ) → n < size whole → length (place_at whole n) ≤ n
depth_row whole n h = omega (arith, depth_fits (at_row whole n h))

pub level_first : (whole : Tree) (start : ℕ) → MovesLevel whole start None true start (Some start)
level_first whole start = (λ e. (omega arith, omega arith), λ e. (let no : true ≡ false = e in cc))

pub level_enter : (whole : Tree) (start next o : ℕ) → IsWalk whole start next (Some o) → next < (row_at whole o).end → MovesLevel whole start (Some o) true next (Some next)
level_enter whole start next o w lt =
    let h = w.start_is_row in
    let whole_fits : start + size (tree_at whole start) ≤ size whole = omega (arith, At-fits (at_row whole start h), forest_size-cons whole nil) in
    let o_within : o < start + size (tree_at whole start) = omega (arith, w.within, w.open_at.1) in
    let vo = within whole start o h w.open_at.0 o_within in
    let o_end : (row_at whole o).end ≡ o + size (tree_at whole o) = end_of_row whole o (omega arith) in
    let next_row : next < size whole = omega (arith, vo.inside, o_end, lt) in
    let longer = parent_longer (place_at whole o) (place_at whole next) (parent_found whole next o next_row w.open_at.1 lt w.open_at.3) in
    (λ e. (omega (arith, longer, vo.depth), omega (arith, longer, vo.depth)), λ e. (let no : true ≡ false = e in cc))

pub level_last : (whole : Tree) (start : ℕ) → MovesLevel whole start (Some start) false start None
level_last whole start = (λ e. (let no : false ≡ true = e in cc), λ e. omega arith)

pub level_leave : (whole : Tree) (start next o : ℕ) (r : Option ℕ) → IsWalk whole start next (Some o) → (row_at whole o).end ≤ next → start < o → IfSome r (λ p. p < size whole) → option_map (place_at whole) r ≡ parent_place (place_at whole o)
    → MovesLevel whole start (Some o) false o r
level_leave whole start next o (Some p) w past later k parent =
    let after = (step_leave whole start next o p w past later k parent).1 in
    let v = within whole start p w.start_is_row after.open_at.0 (omega (arith, after.open_at.1, after.within)) in
    (λ e. (let no : false ≡ true = e in cc), λ e. omega (arith, parent_longer (place_at whole p) (place_at whole o) parent, v.depth))
level_leave whole start next o None w past later k parent =
    (λ e. (let no : false ≡ true = e in cc), λ e. absurd (no_parent_of_inner whole start next o w later parent))
  where
    no_parent_of_inner : (whole : Tree) (start next o : ℕ) → IsWalk whole start next (Some o) → start < o → None ≡ parent_place (place_at whole o) → ⊥
    no_parent_of_inner whole start next o w later parent =
        elim (hangs whole o (open_row whole start next o w)) [
          | inl root ↦ absurd (omega (arith, root.1 start later, end_of_row whole start w.start_is_row, w.within, w.open_at.1))
          | inr u ↦ (let no : None ≡ Some (place_at whole u.q) = parent ∙ ap parent_place u.place_is ∙ parent_place-append (place_at whole u.q) u.w.position in cc)
        ]

-- a walk that has not begun has all of it left
pub walk_left-whole : (whole : Tree) (start : ℕ) → walk_left whole start start None ≡ walk_of (cursor_at whole start)
walk_left-whole whole start = let none : (start - start) + (start - start) - 0 ≡ 0 = omega arith in ap (λ i. drop i (walk_of (cursor_at whole start))) none

pub walk_begins : (whole : Tree) (start : ℕ) → start < size whole → IsWalk whole start start None
walk_begins whole start h = record { start_is_row = h; begun = omega arith; within = omega arith; open_at = inl refl }
