use Rattle.std.proofs.Common.{◌<◌, ap, arith, length}
use Rattle.std.specs.Prelude.{◌^◌}
use Rattle.tree_model.specs.Rows.{start_at, end_at}
use Rattle.tree_model.specs.Tree.{text}
use Rattle.tree_model.specs.Edit.{splice}
use Rattle.tree_rows.proofs.TableLemmas.{shown}
use Rattle.tree_model.proofs.EditLemmas.{Cuts, length-spliced, within_text}
use Rattle.tree_rows.proofs.EditLemmas.{cuts}
use Rattle.tree_model.proofs.ReplaceErrors.{memory_exactly}
use Rattle.tree_rows.proofs.table.Table.spliced_text.Goals as goal
use Rattle.tree_rows.proofs.table.Table.spliced_text.Goals.{After-end_at-end, After-with_capacity}

cut : (c : After-end_at-end) → Cuts c.as_str-text.result.now c.args.self.now c.start_at-start.result c.end_at-end.result
cut c = cuts _ _ _ c.args.self.now c.args.n _ _ (shown _ _ _ c.self.view_is c.self.invariant) c.requires c.as_str-text.ensures.value c.start_at-start.ensures c.end_at-end.ensures.value

pub overflow_sub-kept-2 : goal.overflow_sub-kept-2
overflow_sub-kept-2 c = omega (arith, (cut (goal.at.overflow_sub-kept-2 c).After-end_at-end).within)

pub range-requires-clause-end_boundary : goal.range-requires-clause-end_boundary
range-requires-clause-end_boundary c = (cut (goal.at.range-requires-clause-end_boundary c).After-end_at-end).start_boundary

pub range_from-requires : goal.range_from-requires
range_from-requires c = λ _. (cut (goal.at.range_from-requires c).After-end_at-end).end_boundary

fits : (c : After-with_capacity) (w : Cuts c.as_str-text.result.now c.args.self.now c.start_at-start.result c.end_at-end.result)
    → length (splice (text c.args.self.now) (start_at c.args.self.now c.args.n) (end_at c.args.self.now c.args.n) c.args.new.now) < 2 ^ 32
fits c w =
    omega (arith, c.if-new-kept.false, w.within, w.ordered, w.short, ap length w.whole_text, length-spliced c.args.self.now c.args.n c.args.new.now c.requires, within_text c.args.self.now c.args.n c.requires, c.start_at-start.ensures, c.end_at-end.ensures.value)

pub returns-in_err-spliced-clause-too_long : goal.returns-in_err-spliced-clause-too_long
returns-in_err-spliced-clause-too_long c =
    memory_exactly c.from_residual.result _ c.from_residual.ensures.1 (let at = goal.at.returns-in_err-spliced-clause-too_long c in fits at.After-with_capacity (cut at.After-end_at-end))

pub returns-in_err-push_str-2-clause-too_long : goal.returns-in_err-push_str-2-clause-too_long
returns-in_err-push_str-2-clause-too_long c =
    memory_exactly c.from_residual-in_err-push_str-2.result _ c.from_residual-in_err-push_str-2.ensures.1 (let at = goal.at.returns-in_err-push_str-2-clause-too_long c in fits at.After-with_capacity (cut at.After-end_at-end))
