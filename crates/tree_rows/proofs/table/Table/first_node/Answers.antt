use Rattle.std.proofs.Common.{◌<◌, ◌∙◌, ap, sym, arith, below_more, inl, inr, refl}
use Rattle.tree_model.specs.Tree.{size}
use Rattle.tree_model.specs.Cursor.{cursor_at}
use Rattle.tree_model.specs.Pointer.{PointsTo}
use Rattle.tree_model.proofs.PointerLemmas.{starts_past}
use Rattle.tree_rows.proofs.PointerLemmas.{Seen, points, token_misses, kind_misses, first_found, none_found}
use Rattle.tree_model.proofs.At.{below_or_after}
use Rattle.tree_rows.proofs.table.Table.first_node.Goals as goal
use Rattle.tree_rows.proofs.table.Table.first_node.Goals.{After-row-row, Then-end_at-end}
use Rattle.tree_rows.proofs.table.Table.first_node.Goals.{else-not-row-via-then-not-row+then-same_kind+else-end_at-end, else-not-row-via-then-not-row+else-same_kind, else-not-row-via-else-not-row}

seen : (c : After-row-row) → Seen c.args.self.now c.args.kind c.args.range c.loop-n.n c.row-row.result
seen c =
    let lt : c.loop-n.n < size c.args.self.now = omega (arith, c.loop-n-test.true, c.first_row_from-past.ensures.within, c.len-count.ensures) in
    record {
      is_row = lt;
      row_is = c.row-row.ensures.value;
      start_is = omega (arith, c.first_row_from-from.ensures.behind c.loop-n.n c.loop-n.auto.n (omega (arith, lt, c.len-count.ensures)), c.first_row_from-past.ensures.before c.loop-n.n c.loop-n.auto.n c.loop-n-test.true, c.raw-start.ensures, c.start.ensures.value);
    }

here : (c : Then-end_at-end) → Seen c.args.self.now c.args.kind c.args.range c.loop-n.n c.row-row.result → PointsTo (record { kind = c.args.kind; range = c.args.range }) (cursor_at c.args.self.now c.loop-n.n)
here c s = points s c.if-not-row.true (c.if-same_kind.ensures.0 refl) (omega (arith, c.end_at.ensures.value, c.if-end_at-end.true, c.raw-end.ensures, c.end.ensures.value))

pub returns-then-end_at-end-clause-first : goal.returns-then-end_at-end-clause-first
returns-then-end_at-end-clause-first c =
    let at = goal.at.returns-then-end_at-end-clause-first c in let s = seen at.After-row-row in
    first_found _ c.args.self.now c.loop-n.n s.is_row (here at.Then-end_at-end s) c.loop-n.invariant

pub returns-then-end_at-end-clause-node : goal.returns-then-end_at-end-clause-node
returns-then-end_at-end-clause-node c =
    let at = goal.at.returns-then-end_at-end-clause-node c in let s = seen at.After-row-row in
    (s.is_row, (here at.Then-end_at-end s).is_node)

pub loop-n-preserved : goal.loop-n-preserved
loop-n-preserved c =
    let s = seen (goal.at.loop-n-preserved c).After-row-row in
    below_more _ _ c.loop-n.invariant (λ at.
    elim c.else-not-row.branch [
      | else-not-row-via-then-not-row+then-same_kind+else-end_at-end w ↦ w.if-end_at-end.false (w.end_at.ensures.value ∙ ap (λ r. r.end) at.range ∙ sym (c.raw-end.ensures ∙ c.end.ensures.value))
      | else-not-row-via-then-not-row+else-same_kind w ↦ kind_misses s w.same_kind.ensures w.if-same_kind.false at
      | else-not-row-via-else-not-row w ↦ token_misses s w.if-not-row.false at
    ])

pub returns-clause-first : goal.returns-clause-first
returns-clause-first c = none_found _ c.args.self.now (λ j lt.
    elim (below_or_after j c.loop-n.n) [
      | inl before ↦ c.loop-n.invariant j before
      | inr behind ↦ starts_past j (omega (arith, c.first_row_from-past.ensures.behind j (omega (arith, behind.1, c.loop-n-test.false)) (omega (arith, lt, c.len-count.ensures)), c.raw-start.ensures, c.start.ensures.value))
    ])
