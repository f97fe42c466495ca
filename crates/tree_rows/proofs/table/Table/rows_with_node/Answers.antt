use Rattle.std.proofs.Common.{◌-◌, ◌∙◌, arith}
use Rattle.tree_model.specs.Tree.{text}
use Rattle.tree_model.specs.Rows.{tree_at}
use Rattle.tree_rows.proofs.TableLemmas.{shown, rows_len}
use Rattle.tree_model.proofs.EditLemmas.{length-spliced, within_text, within_rows}
use Rattle.tree_rows.proofs.EditLemmas.{node_replaced}
use Rattle.tree_rows.proofs.table.Table.rows_with_node.Goals as goal

pub rows_before-requires-clause-count_fits : goal.rows_before-requires-clause-count_fits
rows_before-requires-clause-count_fits c =
    let w = shown _ _ _ c.piece.view_is c.piece.invariant in
    omega (arith, c.size_at-count.ensures, within_rows c.args.piece.now c.args.other c.requires.is_other, c.len-more.ensures.small, c.len-more.ensures.value, rows_len _ _ _ w)

pub push_node-requires-clause-rows_fit : goal.push_node-requires-clause-rows_fit
push_node-requires-clause-rows_fit c = omega (arith, c.in_ok-rows.ensures.fits, c.size_at-count.ensures, within_rows c.args.self.now c.args.n c.requires.is_row)

pub push_node-requires-clause-bytes_fit : goal.push_node-requires-clause-bytes_fit
push_node-requires-clause-bytes_fit c =
    omega (
      arith,
      c.requires.fits,
      length-spliced c.args.self.now c.args.n (text (tree_at c.args.piece.now c.args.other)) c.requires.is_row,
      within_text c.args.self.now c.args.n c.requires.is_row,
      c.start_at-start.ensures,
    )

pub push_behind-requires-clause-rows_fit : goal.push_behind-requires-clause-rows_fit
push_behind-requires-clause-rows_fit c = c.in_ok-rows.ensures.fits

pub returns : goal.returns
returns c =
    c.in_ok-kept.ensures
    ∙ node_replaced c.args.self.now c.args.n c.requires.is_row c.args.piece.now c.args.other c.in_ok-rows.rows c.push_node.new.rows c.push_behind.new.rows c.start_at-start.result c.size_at-count.result (c.end_at.result - c.start_at.result) c.parent.result
    c.requires.is_other c.requires.is_node c.start_at-start.ensures c.size_at-count.ensures (omega (arith, c.end_at.ensures.value, c.start_at.ensures)) c.parent.ensures
    c.in_ok-rows.ensures.rows c.in_ok-push_node.ensures c.in_ok-push_behind.ensures
