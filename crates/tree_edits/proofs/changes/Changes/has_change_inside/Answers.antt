use Rattle.std.proofs.Common.{◌<◌, ◌∙◌, ap, arith, inl, inr}
use Rattle.std.proofs.lemmas.Bool.{cases_eq}
use Rattle.tree_model.specs.Tree.{size}
use Rattle.tree_model.proofs.EditLemmas.{within_rows}
use Rattle.tree_edits.specs.Session.{change_of}
use Rattle.tree_edits.proofs.RowLemmas.{seen}
use Rattle.tree_edits.proofs.changes.Changes.has_change_inside.Goals as goal

pub is_changed-requires : goal.is_changed-requires
is_changed-requires c =
    let row : c.args.row < size c.deref.result.now = omega (arith, c.requires, ap size (c.deref.ensures ∙ ap (λ s. s.tree) c.self.view_is)) in
    omega (arith, c.loop-inner-test.true, c.rows_below-first.ensures.behind, within_rows c.deref.result.now c.args.row row, c.self.invariant.long, ap size c.deref.ensures)

pub loop-inner-preserved : goal.loop-inner-preserved
loop-inner-preserved c = λ k from to. elim (cases_eq k c.loop-inner.inner) [
  | inl same ↦
      ap (change_of c.args.self.now) same ∙ seen c.self.inside.table.value c.self.inside.rows.marks.items c.self.inside.rows.changes.items c.args.self.now c.loop-inner.inner c.self.view_is
      ∙ c.is_changed.ensures.0 c.if-is_changed.false
  | inr other ↦ c.loop-inner.invariant k from (omega (arith, to, other))
]
