use Rattle.std.proofs.Common.{◌∙◌, ap, arith}
use Rattle.std.specs.Prelude.{string_bytes}
use Rattle.tree_model.specs.Rows.{tree_at}
use Rattle.tree_rows.specs.Rows.{joined, Represents}
use Rattle.tree_rows.specs.MovedRows.{moved_subtree}
use Rattle.tree_rows.proofs.TableLemmas.{shown, rows_len, table_of, tree_of_rows-rows_of}
use Rattle.tree_model.proofs.EditLemmas.{within_rows}
use Rattle.tree_rows.proofs.EditLemmas.{subtree_shown, text_fits}
use Rattle.tree_rows.proofs.table.Table.subtree.Goals as goal
use Rattle.tree_rows.proofs.table.Table.subtree.Goals.{In_ok-kept}

pub push_node-requires-clause-rows_fit : goal.push_node-requires-clause-rows_fit
push_node-requires-clause-rows_fit c =
    let w = shown _ _ _ c.self.view_is c.self.invariant in
    omega (arith, c.len-count.ensures.small, c.len-count.ensures.value, rows_len _ _ _ w, within_rows c.args.self.now c.args.n c.requires.is_row)

pub push_node-requires-clause-bytes_fit : goal.push_node-requires-clause-bytes_fit
push_node-requires-clause-bytes_fit c = omega (arith, text_fits _ _ c.args.self.now c.args.n (shown _ _ _ c.self.view_is c.self.invariant) c.requires.is_row)

shows : (c : In_ok-kept) → Represents c.in_ok-kept.kept (string_bytes c.in_ok-text.text) (tree_at c.args.self.now c.args.n)
shows c = subtree_shown c.args.self.now c.args.n _ c.in_ok-kept.kept _ (string_bytes c.in_ok-text.text) c.requires.is_row c.requires.is_node (shown _ _ _ c.self.view_is c.self.invariant)
    (c.in_ok-kept.ensures ∙ c.in_ok-push_node.ensures ∙ ap (λ k. joined k (moved_subtree c.args.self.now c.args.n 0 0 0)) c.in_ok-rows.ensures.empty) (c.in_ok-text.ensures.ok ∙ c.text_at.ensures)

pub from_parts-requires : goal.from_parts-requires
from_parts-requires c = table_of (tree_at c.args.self.now c.args.n) _ _ (shows (goal.at.from_parts-requires c).In_ok-kept)

pub returns : goal.returns
returns c = let w = shows (goal.at.returns c).In_ok-kept in c.from_parts.ensures ∙ tree_of_rows-rows_of (tree_at c.args.self.now c.args.n) c.in_ok-kept.kept _ w.rows_are w.text_is
