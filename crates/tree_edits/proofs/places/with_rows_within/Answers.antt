use Rattle.std.proofs.Common.{◌+◌, ap, sym}
use Rattle.tree_model.specs.Rows.{tree_at}
use Rattle.tree_edits.proofs.KeptLemmas.{within_node, ok_count}
use Rattle.tree_edits.specs.Kept.{rows_in, rows_within}
use Rattle.tree_edits.proofs.places.with_rows_within.Goals as goal

pub returns-else-is_token_at : goal.returns-else-is_token_at
returns-else-is_token_at c =
    ok_count c.with_rows.result (c.args.rows + rows_in c.args.elements.now) (c.args.rows + rows_within (tree_at c.args.table.now c.args.row) c.args.elements.now)
    (ap (λ n. c.args.rows + n) (sym (within_node (tree_at c.args.table.now c.args.row) c.is_token_at.result c.args.elements.now c.is_token_at.ensures c.if-is_token_at.false))) c.with_rows.ensures
