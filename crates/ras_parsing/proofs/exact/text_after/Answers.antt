use Rattle.std.proofs.Common.{◌≡◌, ap, ◌∙◌, arith, refl}
use Rattle.text_size.specs.TextRange.{Bounds}
use Rattle.tree_model.specs.Tree.{text}
use Rattle.tree_model.specs.Cursor.{range_start}
use Rattle.ras_parsing.proofs.Around.{boundary_at}
use Rattle.ras_parsing.proofs.exact.text_after.Goals as goal

pub edited_text-requires-clause-start_boundary : goal.edited_text-requires-clause-start_boundary
edited_text-requires-clause-start_boundary c =
    let starts : c.start-start.result ≡ range_start c.args.node.now = c.start-start.ensures.value ∙ ap (λ (b : Bounds). b.start) c.text_range.ensures in
    let w = c.requires.around in
    boundary_at c.args.node.now c.args.delete.start c.start-start.result c.as_str.result.now (text c.args.node.now.tree) w.is_place c.as_str.ensures starts refl w.begun (omega (arith, w.ended, c.requires.edit.forwards)) c.requires.edit.start_boundary

pub edited_text-requires-clause-end_boundary : goal.edited_text-requires-clause-end_boundary
edited_text-requires-clause-end_boundary c =
    let starts : c.start-start.result ≡ range_start c.args.node.now = c.start-start.ensures.value ∙ ap (λ (b : Bounds). b.start) c.text_range.ensures in
    let w = c.requires.around in
    boundary_at c.args.node.now c.args.delete.end c.start-start.result c.as_str.result.now (text c.args.node.now.tree) w.is_place c.as_str.ensures starts refl (omega (arith, w.begun, c.requires.edit.forwards)) w.ended c.requires.edit.end_boundary
