use Rattle.std.proofs.Common.{◌≡◌, false, inl, inr, ◌+◌, ◌-◌, ◌∙◌, ap, sym, subst, arith}
use Rattle.tree_model.specs.Rows.{tree_at}
use Rattle.tree_rows.specs.RowSearch.{SplitsAt}
use Rattle.tree_model.proofs.At.{some_row}
use Rattle.tree_rows.proofs.StepLemmas.{end_of_row}
use Rattle.tree_rows.proofs.TableLemmas.{row_end_fits}
use Rattle.tree_model.proofs.CoveringPlaces.{strictly}
use Rattle.tree_model.proofs.CoveringRows.{range_at}
use Rattle.tree_rows.proofs.CoveringRows.{Begun, Climbed, climb_begins, climb_on, climb_ends, climbed_in}
use Rattle.tree_model.specs.Covering.{holds}
use Rattle.tree_rows.proofs.table.Table.holding_row.Goals as goal
use Rattle.tree_rows.proofs.table.Table.holding_row.Goals.{After-first_row_from-row, After-parent-row, then-is_empty, else-is_empty}

pub overflow_add-n : goal.overflow_add-n
overflow_add-n c = omega (arith, ap (λ r. r.end) c.row-end.ensures.value, c.row-end.ensures.end_fits, end_of_row c.args.self.now c.args.n c.requires, some_row (tree_at c.args.self.now c.args.n))

pub first_row_from-row-requires-clause-ordered : goal.first_row_from-row-requires-clause-ordered
first_row_from-row-requires-clause-ordered c = omega (arith, ap (λ r. r.end) c.row-end.ensures.value, end_of_row c.args.self.now c.args.n c.requires, some_row (tree_at c.args.self.now c.args.n))

pub first_row_from-row-requires-clause-in_range : goal.first_row_from-row-requires-clause-in_range
first_row_from-row-requires-clause-in_range c = omega (arith, ap (λ r. r.end) c.row-end.ensures.value, row_end_fits c.args.self.now c.args.n c.requires)

begun : (c : After-first_row_from-row) → Begun c.args.self.now c.args.n (c.first_row_from-row.result - 1) c.row-end.result.end c.if-is_empty.bound c.args.range
begun c = record {
  is_row = c.requires;
  is_end = ap (λ r. r.end) c.row-end.ensures.value;
  split = (let e : c.first_row_from-row.result ≡ (c.first_row_from-row.result - 1) + 1 = omega (arith, c.first_row_from-row.ensures.begun) in subst (SplitsAt c.args.self.now (c.args.n + 1) c.row-end.result.end c.if-is_empty.bound) e c.first_row_from-row.ensures);
  is_bound =
      elim c.if-is_empty.branch [
        | then-is_empty w ↦ inl (omega (arith, c.is_empty.ensures.0 w.if-is_empty.true), omega (arith, w.bound-is, c.raw-start.ensures, c.start.ensures.value))
        | else-is_empty w ↦ inr (strictly c.start.ensures.ordered c.is_empty.ensures.1 w.if-is_empty.false, omega (arith, w.bound-is, c.raw-start.ensures, c.start.ensures.value))
      ];
}

pub loop-row-init : goal.loop-row-init
loop-row-init c = climb_begins _ _ _ _ _ _ (begun (goal.at.loop-row-init c).After-first_row_from-row)

pub range_at-requires : goal.range_at-requires
range_at-requires c = (climbed_in _ _ _ _ _ _ _ (begun (goal.at.range_at-requires c).After-first_row_from-row) c.loop-row.invariant).is_row

pub parent-row-requires : goal.parent-row-requires
parent-row-requires c = (climbed_in _ _ _ _ _ _ _ (begun (goal.at.parent-row-requires c).After-first_row_from-row) c.loop-row.invariant).is_row

fails : (c : After-parent-row) → holds c.args.range (range_at c.args.self.now c.loop-row.row) ≡ false
fails c = sym (ap (holds c.args.range) c.range_at.ensures) ∙ sym c.holds.ensures ∙ c.if-not-holds.true

pub loop-row-smaller : goal.loop-row-smaller
loop-row-smaller c =
    omega (arith, c.parent-row.ensures, (climb_on _ _ _ _ _ _ _ (begun (goal.at.loop-row-smaller c).After-first_row_from-row) c.loop-row.invariant c.loop-row-test.true (fails (goal.at.loop-row-smaller c).After-parent-row)).1)

pub loop-row-preserved : goal.loop-row-preserved
loop-row-preserved c =
    subst (λ r. Climbed c.args.self.now c.args.n (c.first_row_from-row.result - 1) r c.args.range) (sym c.parent-row.ensures)
    (climb_on _ _ _ _ _ _ _ (begun (goal.at.loop-row-preserved c).After-first_row_from-row) c.loop-row.invariant c.loop-row-test.true (fails (goal.at.loop-row-preserved c).After-parent-row)).0

pub returns-else-not-holds-clause-holding : goal.returns-else-not-holds-clause-holding
returns-else-not-holds-clause-holding c = climb_ends _ _ _ _ _ _ _ (begun (goal.at.returns-else-not-holds-clause-holding c).After-first_row_from-row) c.loop-row.invariant (inr (sym (ap (holds c.args.range) c.range_at.ensures) ∙ sym c.holds.ensures ∙ c.if-not-holds.false))

pub returns-after-loop-row-clause-holding : goal.returns-after-loop-row-clause-holding
returns-after-loop-row-clause-holding c = climb_ends _ _ _ _ _ _ _ (begun (goal.at.returns-after-loop-row-clause-holding c).After-first_row_from-row) c.loop-row.invariant (inl (omega (arith, c.loop-row-test.false, c.loop-row.invariant.low)))
