use Rattle.std.proofs.Common.{◌+◌, ◌∙◌, ap, arith}
use Rattle.tree_model.specs.Tree.{size}
use Rattle.tree_model.specs.Rows.{tree_at}
use Rattle.tree_rows.proofs.ChildLists.{children_begin}
use Rattle.tree_rows.proofs.StepLemmas.{end_is_behind}
use Rattle.lossless_tree.proofs.cursor.children.SyntaxElementChildren.new.Goals as goal

pub invariant_of-result : goal.invariant_of-result
invariant_of-result c =
    (children_begin c.args.table.value c.args.row c.rows_below-next.result.0 c.rows_below-next.result.1 c.requires (omega (arith, c.rows_below-next.ensures.first))
    (end_is_behind c.args.table.value c.args.row c.rows_below-next.result.1 c.requires (c.rows_below-next.ensures.behind ∙ ap (λ t. c.args.row + size (tree_at t c.args.row)) c.deref.ensures))).1

pub returns : goal.returns
returns c =
    (children_begin c.args.table.value c.args.row c.rows_below-next.result.0 c.rows_below-next.result.1 c.requires (omega (arith, c.rows_below-next.ensures.first))
    (end_is_behind c.args.table.value c.args.row c.rows_below-next.result.1 c.requires (c.rows_below-next.ensures.behind ∙ ap (λ t. c.args.row + size (tree_at t c.args.row)) c.deref.ensures))).0
