-- A walk that passes over what it has not entered yet of the innermost row.
use Rattle.std.proofs.Common.{◌≡◌, ℕ, zero, suc, ◌+◌, ◌<◌, ◌≤◌, inl, inr, length, sym, ap, subst, ◌∙◌, arith}
use Rattle.std.specs.Prelude.{Option, None, Some, unwrap_or}
use Rattle.tree_model.specs.Tree.{Tree, size, parent_place}
use Rattle.tree_model.specs.Rows.{place_at, tree_at}
use Rattle.tree_model.proofs.At.{some_row, below_or_after}
use Rattle.tree_rows.specs.Rows.{row_at}
use Rattle.tree_rows.specs.Walks.{walk_left, IsWalk}
use Rattle.tree_rows.proofs.StepLemmas.{end_of_row, parent_found, hangs}
use Rattle.tree_model.proofs.StepLemmas.{parent_place-append}
use Rattle.tree_rows.proofs.WalkSteps.{step_first, step_enter, step_leave, step_last, step_done, open_row, next_row_within}
use Rattle.lossless_tree.specs.Skip.{from_leave}

-- row p is n levels below row o in the subtree at row start, by the rows between
data Below (whole : Tree) (start o : ℕ) : ℕ → ℕ → Type 0 where
  itself : Below whole start o o 0
  deeper : (p r n : ℕ) → start ≤ p → p < r → p < size whole → Some (place_at whole p) ≡ parent_place (place_at whole r) → Below whole start o p n → Below whole start o r (suc n)

-- what is left once the steps inside of row o are passed over begins with the step that leaves it
abbrev Passed : Tree → ℕ → ℕ → ℕ → ℕ → ℕ → ℕ → Type 0
Passed whole start o m next p n =
    (from_leave (n + m) (walk_left whole start next (Some p)) ≡ from_leave m (walk_left whole start (o + size (tree_at whole o)) (Some o)))
    × IsWalk whole start (o + size (tree_at whole o)) (Some o)

leaves : (whole : Tree) (start next o p n m k : ℕ) → length (walk_left whole start next (Some p)) < suc k → IsWalk whole start next (Some p) → (row_at whole p).end ≤ next → Below whole start o p n
    → ((q l : ℕ) → length (walk_left whole start next (Some q)) < k → IsWalk whole start next (Some q) → Below whole start o q l → Passed whole start o m next q l)
    → Passed whole start o m next p n
leaves whole start next o p n m k fits w past itself again =
    let next_is : next ≡ o + size (tree_at whole o) = omega (arith, end_of_row whole o (open_row whole start next o w), past, w.open_at.2) in (
      ap (λ i. from_leave i (walk_left whole start next (Some o))) (let e : 0 + m ≡ m = omega arith in e) ∙ ap (λ x. from_leave m (walk_left whole start x (Some o))) next_is,
      subst (λ x. IsWalk whole start x (Some o)) next_is w,
    )
leaves whole start next o p n m k fits w past (deeper q r l from earlier row parent b) again =
    let s = step_leave whole start next r q w past (omega (arith, from, earlier)) row parent in
    let rest = again q l (omega (arith, ap length s.0, fits)) s.1 b in (
      ap (λ i. from_leave i (walk_left whole start next (Some r))) (let e : suc l + m ≡ suc (l + m) = omega arith in e) ∙ ap (from_leave (suc (l + m))) s.0 ∙ rest.0,
      rest.1,
    )

passed : (whole : Tree) (start next o p n m k : ℕ) → length (walk_left whole start next (Some p)) < k → IsWalk whole start next (Some p) → Below whole start o p n → Passed whole start o m next p n
passed whole start next o p n m zero fits w b = absurd (omega (arith, fits))
passed whole start next o p n m (suc k) fits w b =
    elim (below_or_after next (row_at whole p).end) [
      | inl inside ↦
          let s = step_enter whole start next p w inside in
          let parent = parent_found whole next p (next_row_within whole start next p w inside) w.open_at.1 inside w.open_at.3 in
          let rest = passed whole start (next + 1) o next (suc n) m k (omega (arith, ap length s.0, fits)) s.1
          (deeper p next n w.open_at.0 w.open_at.1 (open_row whole start next p w) parent b) in (
            ap (from_leave (n + m)) s.0 ∙ ap (λ i. from_leave i (walk_left whole start (next + 1) (Some next))) (let e : suc (n + m) ≡ suc n + m = omega arith in e) ∙ rest.0,
            rest.1,
          )
      | inr past ↦ leaves whole start next o p n m k fits w (omega (arith, past.1)) b (λ q l. passed whole start next o q l m k)
    ]

inside : (whole : Tree) (start next o m : ℕ) → IsWalk whole start next (Some o) → Passed whole start o m next o 0
inside whole start next o m w = passed whole start next o o 0 m (length (walk_left whole start next (Some o)) + 1) (omega arith) w itself

-- behind the rows inside of a row, the next step leaves it
stays : (whole : Tree) (start next o : ℕ) → IsWalk whole start next (Some o) → (row_at whole o).end ≤ next → from_leave 0 (walk_left whole start next (Some o)) ≡ walk_left whole start next (Some o)
stays whole start next o w past =
    elim (below_or_after start o) [
      | inl later ↦ elim (hangs whole o (open_row whole start next o w)) [
        | inl root ↦ absurd (omega (arith, root.1 start later, end_of_row whole start w.start_is_row, w.within, w.open_at.1))
        | inr u ↦
            let parent : Some (place_at whole u.q) ≡ parent_place (place_at whole o) = sym (ap parent_place u.place_is ∙ parent_place-append (place_at whole u.q) u.w.position) in
            let s = step_leave whole start next o u.q w past later u.in_range parent in
            ap (from_leave 0) s.0 ∙ sym s.0
      ]
      | inr same ↦
          let is : start ≡ o = omega (arith, same.1, w.open_at.0) in
          subst (λ x. from_leave 0 (walk_left whole start next (Some x)) ≡ walk_left whole start next (Some x)) is
          (let s = step_last whole start next (subst (λ x. IsWalk whole start next (Some x)) (sym is) w) (subst (λ x. (row_at whole x).end ≤ next) (sym is) past) in
          ap (from_leave 0) s.0 ∙ sym s.0)
    ]

-- the walk that goes on behind the rows of its innermost row has what is left from the step on that
-- leaves it
pub skips : (whole : Tree) (start next : ℕ) (o : Option ℕ) (r : ℕ) → r ≡ unwrap_or o start → IsWalk whole start next o
    → (r < size whole)
    × (walk_left whole start (r + size (tree_at whole r)) o ≡ from_leave 0 (walk_left whole start next o))
    × IsWalk whole start (r + size (tree_at whole r)) o
skips whole start next (Some o) r e w =
    let is : o ≡ r = sym e in
    let p = inside whole start next o 0 w in
    let ends : (row_at whole o).end ≤ o + size (tree_at whole o) = omega (arith, end_of_row whole o (open_row whole start next o w)) in
    subst (λ x. (x < size whole) × (walk_left whole start (x + size (tree_at whole x)) (Some o) ≡ from_leave 0 (walk_left whole start next (Some o))) × IsWalk whole start (x + size (tree_at whole x)) (Some o)) is
    (open_row whole start next o w, sym (p.0 ∙ stays whole start (o + size (tree_at whole o)) o p.1 ends), p.1)
skips whole start next None r e w =
    let is : start ≡ r = sym e in
    subst (λ x. (x < size whole) × (walk_left whole start (x + size (tree_at whole x)) None ≡ from_leave 0 (walk_left whole start next None)) × IsWalk whole start (x + size (tree_at whole x)) None) is
    (w.start_is_row, none.0, none.1)
  where
    over : ℕ
    over = start + size (tree_at whole start)

    none : (walk_left whole start over None ≡ from_leave 0 (walk_left whole start next None)) × IsWalk whole start over None
    none = elim w.open_at [
      | inl fresh ↦
          let f = step_first whole start w.start_is_row in
          let p = inside whole start (start + 1) start 1 f.1 in
          let s = step_last whole start over p.1 (omega (arith, end_of_row whole start w.start_is_row)) in
          let first : walk_left whole start next None ≡ walk_left whole start start None = ap (λ x. walk_left whole start x None) fresh in
          let done = step_done whole start over s.1 (omega (arith, some_row (tree_at whole start))) in
          (done ∙ sym (ap (from_leave 0) first ∙ ap (from_leave 0) f.0 ∙ p.0 ∙ ap (from_leave 1) s.0 ∙ ap (from_leave 0) done), s.1)
      | inr ended ↦
          let here : IsWalk whole start over None = subst (λ x. IsWalk whole start x None) ended w in
          let done = step_done whole start over here (omega (arith, some_row (tree_at whole start))) in
          (done ∙ sym (ap (λ x. from_leave 0 (walk_left whole start x None)) ended ∙ ap (from_leave 0) done), here)
    ]
