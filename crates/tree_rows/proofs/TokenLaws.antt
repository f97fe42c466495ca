-- At most two tokens are at an offset.
use Rattle.std.proofs.Common.{◌≡◌, inl, inr, ℕ, zero, suc, ◌+◌, ◌-◌, ◌<◌, ◌≤◌, ◌++◌, length, refl, ap, subst, arith, length-append}
use Rattle.std.specs.Prelude.{Option, Some, None}
use Rattle.std.specs.Option.{option_to_list}
use Rattle.std.proofs.lemmas.List.{length-map}
use Rattle.tree_model.specs.Tree.{Tree, size}
use Rattle.tree_model.specs.Rows.{start_at, end_at}
use Rattle.tree_rows.specs.Rows.{row_at}
use Rattle.tree_rows.specs.RowSearch.{SplitsAt, Reaching}
use Rattle.tree_model.specs.Cursor.{at_place, cursor_at}
use Rattle.tree_model.specs.TokenSearch.{tokens_at, AtMostTwo}
use Rattle.tree_model.proofs.At.{below_or_after}
use Rattle.tree_rows.proofs.TableLemmas.{row_end_fits}
use Rattle.tree_rows.proofs.StepLemmas.{end_of_row}
use Rattle.tree_model.proofs.Starts.{starts_rise}
use Rattle.tree_rows.proofs.TokenSearch.{tokens_found}
use Rattle.tree_rows.proofs.PointerLaws.{row_of_place}

-- rows from one on part where they start at an offset
part_at : (steps : ℕ) (whole : Tree) (from to offset : ℕ) → from + steps ≡ to → to ≤ size whole → (i : ℕ) × SplitsAt whole from to offset i
part_at zero whole from to offset e fits =
    (from, record { begun = omega arith; within = omega (arith, e); before = λ k le lt. absurd (omega (arith, le, lt)); behind = λ k le lt. absurd (omega (arith, le, lt, e)) })
part_at (suc steps) whole from to offset e fits =
    elim (below_or_after (start_at whole from) offset) [
      | inr past ↦ (from, record { begun = omega arith; within = omega (arith, e); before = λ k le lt. absurd (omega (arith, le, lt)); behind = λ k le lt. omega (arith, past.1, starts_rise whole from k le (omega (arith, lt, fits))) })
      | inl short ↦ let w = part_at steps whole (suc from) to offset (omega (arith, e)) fits in (
        w.0,
        record {
          begun = omega (arith, w.1.begun);
          within = w.1.within;
          before = λ k le lt. elim (below_or_after from k) [ inl more ↦ w.1.before k (omega (arith, more)) lt | inr same ↦ let is : k ≡ from = omega (arith, le, same.1) in omega (arith, short, ap (start_at whole) is) ];
          behind = w.1.behind;
        },
      )
    ]

reaching : (whole : Tree) (from to offset : ℕ) → (r : Option ℕ) × Reaching whole from to offset r
reaching whole from zero offset = (None, λ lt k is. absurd (omega (arith, is)))
reaching whole from (suc k) offset =
    elim (below_or_after from (suc k)) [
      | inr none ↦ (None, λ lt j is. absurd (omega (arith, lt, none.1)))
      | inl some ↦ elim (below_or_after (end_at whole k) offset) [
        | inl short ↦ (None, λ lt j is. let e : j ≡ k = omega (arith, is) in omega (arith, short, ap (end_at whole) e))
        | inr far ↦ (Some k, (some, refl, omega (arith, far.1)))
      ]
    ]

one_at_most : (r : Option ℕ) → length (option_to_list r) ≤ 1
one_at_most None = omega arith
one_at_most (Some k) = omega arith

two_at_row : (whole : Tree) (n offset : ℕ) → n < size whole → length (tokens_at (cursor_at whole n) offset) ≤ 2
two_at_row whole n offset h =
    let e = (row_at whole n).end in
    let fits : e ≤ size whole = row_end_fits whole n h in
    let first = part_at (e - n) whole n e offset (omega (arith, end_of_row whole n h)) fits in
    let second = part_at (e - first.0) whole first.0 e (offset + 1) (omega (arith, first.1.within)) fits in
    let left = reaching whole n first.0 offset in
    let right = reaching whole first.0 second.0 (offset + 1) in
    let found = tokens_found whole n e offset first.0 second.0 left.0 right.0 h refl first.1 second.1 left.1 right.1 in
    omega (arith, ap length found.tokens, length-map (option_to_list left.0 ++ option_to_list right.0) (cursor_at whole), length-append (option_to_list left.0) (option_to_list right.0), one_at_most left.0, one_at_most right.0)

pub at_most_two : AtMostTwo
at_most_two c offset is_place =
    let r = row_of_place c.tree c.place is_place in
    let is : cursor_at c.tree r.0 ≡ c = ap (at_place c) r.2 in
    subst (λ d. length (tokens_at d offset) ≤ 2) is (two_at_row c.tree r.0 offset r.1)
