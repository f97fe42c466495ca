use Rattle.std.proofs.Common.{◌≡◌, ℕ, ◌+◌, ◌-◌, ◌<◌, ◌≤◌, suc, ◌∙◌, ap, sym, subst, arith}
use Rattle.tree_model.specs.Tree.{Tree, size}
use Rattle.tree_model.specs.Rows.{tree_at, end_at}
use Rattle.tree_rows.specs.RowSearch.{SplitsAt}
use Rattle.tree_model.specs.Cursor.{cursor_at}
use Rattle.tree_model.proofs.At.{some_row}
use Rattle.tree_rows.proofs.StepLemmas.{end_of_row}
use Rattle.tree_rows.proofs.TableLemmas.{row_end_fits}
use Rattle.tree_rows.proofs.CoveringRows.{leaf_stays}
use Rattle.tree_rows.proofs.CoveringEmpty.{Split, last_covers, before_child}
use Rattle.tree_rows.proofs.table.Table.row_by_empty_range.Goals as goal
use Rattle.tree_rows.proofs.table.Table.row_by_empty_range.Goals.{After-row-end, After-first_row_from-last, then-end-row-via-then-end-row, then-end-row-via-else-end-row+then-end_at-offset}

-- the row's subtree has a row at least, and ends in the table
record Ends (tree : Tree) (row e : ℕ) : Type 0 where
  long : row < e
  fits : e ≤ size tree

ends : (c : After-row-end) → Ends c.args.self.now c.down_first_children-row.result c.row-end.result.end
ends c =
    let is_row = c.down_first_children-row.ensures.holding.is_row in
    let is_end = ap (λ r. r.end) c.row-end.ensures.value in
    record {
      long = omega (arith, is_end, end_of_row c.args.self.now c.down_first_children-row.result is_row, some_row (tree_at c.args.self.now c.down_first_children-row.result));
      fits = omega (arith, is_end, row_end_fits c.args.self.now c.down_first_children-row.result is_row);
    }

pub overflow_add-row : goal.overflow_add-row
overflow_add-row c = omega (arith, (ends (goal.at.overflow_add-row c).After-row-end).long, c.row-end.ensures.end_fits)

pub overflow_add-row-2 : goal.overflow_add-row-2
overflow_add-row-2 c = omega (arith, (ends (goal.at.overflow_add-row-2 c).After-row-end).long, c.row-end.ensures.end_fits)

pub overflow_sub-result : goal.overflow_sub-result
overflow_sub-result c = omega (arith, (ends (goal.at.overflow_sub-result c).After-row-end).long)

pub returns-then-end-row-clause-in_range : goal.returns-then-end-row-clause-in_range
returns-then-end-row-clause-in_range c =
    let e = ends (goal.at.returns-then-end-row-clause-in_range c).After-row-end in
    omega (arith, e.long, e.fits)

pub returns-then-end-row-clause-covers : goal.returns-then-end-row-clause-covers
returns-then-end-row-clause-covers c =
    let e = ends (goal.at.returns-then-end-row-clause-covers c).After-row-end in
    let held = c.down_first_children-row.ensures.holding in
    let is_end = ap (λ r. r.end) c.row-end.ensures.value in
    elim c.then-end-row.branch [
      | then-end-row-via-then-end-row w ↦
          sym (held.covers ∙ leaf_stays c.args.self.now c.down_first_children-row.result c.args.range held.is_row (omega (arith, is_end, w.if-end-row.true))
          ∙ ap (cursor_at c.args.self.now) (omega (arith, w.if-end-row.true)))
      | then-end-row-via-else-end-row+then-end_at-offset w ↦
          sym (held.covers ∙ last_covers c.args.self.now c.down_first_children-row.result (c.row-end.result.end - 1) c.args.range held.is_row (omega (arith, is_end, e.long)) c.requires.empty
          (omega (arith, w.end_at.ensures.value, w.if-end_at-offset.true, c.raw-offset.ensures, c.start.ensures.value)))
    ]

pub first_row_from-last-requires-clause-ordered : goal.first_row_from-last-requires-clause-ordered
first_row_from-last-requires-clause-ordered c = omega (arith, (ends (goal.at.first_row_from-last-requires-clause-ordered c).After-row-end).long)

pub first_row_from-last-requires-clause-in_range : goal.first_row_from-last-requires-clause-in_range
first_row_from-last-requires-clause-in_range c = (ends (goal.at.first_row_from-last-requires-clause-in_range c).After-row-end).fits

begun : (c : After-first_row_from-last) → Ends c.args.self.now c.down_first_children-row.result c.row-end.result.end → Split c.args.self.now c.down_first_children-row.result (c.first_row_from-last.result - 1) c.row-end.result.end c.args.range
begun c e =
    let is_end = ap (λ r. r.end) c.row-end.ensures.value in
    let long : c.down_first_children-row.result + 1 < c.row-end.result.end = omega (arith, e.long, c.if-end-row.false) in
    let offset_is : c.raw-offset.result ≡ c.args.range.start = c.raw-offset.ensures ∙ c.start.ensures.value in
    record {
      is_row = c.down_first_children-row.ensures.holding.is_row;
      empty = c.requires.empty;
      none = c.down_first_children-row.ensures.holding.none;
      is_end = is_end;
      has_child = omega (arith, long);
      first_ends = (let one : c.down_first_children-row.result + 1 ≡ suc c.down_first_children-row.result = omega arith in subst (λ k. end_at c.args.self.now k ≤ c.args.range.start) one (c.down_first_children-row.ensures.first_ends (omega (arith, long, is_end))));
      past = omega (arith, c.end_at.ensures.value, c.if-end_at-offset.false, offset_is);
      split = (let last : c.first_row_from-last.result ≡ (c.first_row_from-last.result - 1) + 1 = omega (arith, c.first_row_from-last.ensures.begun) in
          subst (SplitsAt c.args.self.now (c.down_first_children-row.result + 1) c.row-end.result.end (c.args.range.start + 1)) last
          (subst (λ o. SplitsAt c.args.self.now (c.down_first_children-row.result + 1) c.row-end.result.end (o + 1) c.first_row_from-last.result) offset_is c.first_row_from-last.ensures));
    }

pub returns-clause-in_range : goal.returns-clause-in_range
returns-clause-in_range c =
    let at = goal.at.returns-clause-in_range c in
    let e = ends at.After-row-end in
    omega (arith, c.child_over.ensures.from, c.first_row_from-last.ensures.within, e.fits, e.long)

pub returns-clause-covers : goal.returns-clause-covers
returns-clause-covers c =
    let at = goal.at.returns-clause-covers c in
    let s = begun at.After-first_row_from-last (ends at.After-row-end) in
    sym (c.down_first_children-row.ensures.holding.covers
    ∙ before_child c.args.self.now c.down_first_children-row.result (c.first_row_from-last.result - 1) c.row-end.result.end c.child_over.result (c.child_over.result - 1) c.args.range s c.child_over.ensures (omega (arith, c.child_over.ensures.behind)))
