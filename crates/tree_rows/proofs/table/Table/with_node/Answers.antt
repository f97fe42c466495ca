use Rattle.std.proofs.Common.{◌≡◌, ◌<◌, ◌∙◌, ap, sym, arith, length}
use Rattle.std.specs.Prelude.{◌^◌, string_bytes}
use Rattle.tree_model.specs.Tree.{text}
use Rattle.tree_model.specs.Rows.{place_at, tree_at, start_at, end_at}
use Rattle.tree_rows.specs.Rows.{Represents}
use Rattle.tree_model.specs.Edit.{splice, replace}
use Rattle.tree_rows.proofs.TableLemmas.{shown, table_of}
use Rattle.tree_model.proofs.EditLemmas.{spliced_at, root_after_node}
use Rattle.tree_rows.proofs.EditLemmas.{replaced_shown, as_table, subtree_at_utf8}
use Rattle.tree_model.proofs.ReplaceErrors.{handed_on, memory_exactly, answered, ok_exactly}
use Rattle.tree_rows.proofs.table.Table.with_node.Goals as goal
use Rattle.tree_rows.proofs.table.Table.with_node.Goals.{After-spliced_text, In_ok-spliced, In_ok-rows}

same_length : (c : After-spliced_text) → length (text (replace c.args.self.now (place_at c.args.self.now c.args.n) (tree_at c.args.piece.now c.args.other))) ≡ length (splice (text c.args.self.now) (start_at c.args.self.now c.args.n) (end_at c.args.self.now c.args.n) c.text_at.result.now)
same_length c = ap length (spliced_at c.args.self.now c.args.n (tree_at c.args.piece.now c.args.other) c.requires.is_row ∙ ap (splice (text c.args.self.now) (start_at c.args.self.now c.args.n) (end_at c.args.self.now c.args.n)) (sym c.text_at.ensures))

fits : (c : In_ok-spliced) → length (text (replace c.args.self.now (place_at c.args.self.now c.args.n) (tree_at c.args.piece.now c.args.other))) < 2 ^ 32
fits c = answered c.spliced_text.result c.in_ok-spliced.spliced _ _ c.in_ok-spliced.was (ap length (spliced_at c.args.self.now c.args.n (tree_at c.args.piece.now c.args.other) c.requires.is_row ∙ ap (splice (text c.args.self.now) (start_at c.args.self.now c.args.n) (end_at c.args.self.now c.args.n)) (sym c.text_at.ensures))) c.spliced_text.ensures.too_long

shows : (c : In_ok-rows) → Represents c.in_ok-rows.rows (string_bytes c.in_ok-spliced.spliced) (replace c.args.self.now (place_at c.args.self.now c.args.n) (tree_at c.args.piece.now c.args.other))
shows c =
    let w : Represents c.self.inside.rows (string_bytes c.self.inside.text) c.args.self.now = shown _ _ _ c.self.view_is c.self.invariant in
    replaced_shown c.args.self.now c.args.n (tree_at c.args.piece.now c.args.other) c.self.inside.rows c.in_ok-rows.rows (string_bytes c.self.inside.text) (string_bytes c.in_ok-spliced.spliced) c.requires.is_row w c.in_ok-rows.ensures (c.in_ok-spliced.ensures.ok ∙ ap (splice (text c.args.self.now) (start_at c.args.self.now c.args.n) (end_at c.args.self.now c.args.n)) c.text_at.ensures)
    (omega (arith, answered c.spliced_text.result c.in_ok-spliced.spliced _ _ c.in_ok-spliced.was (ap length (spliced_at c.args.self.now c.args.n (tree_at c.args.piece.now c.args.other) c.requires.is_row ∙ ap (splice (text c.args.self.now) (start_at c.args.self.now c.args.n) (end_at c.args.self.now c.args.n)) (sym c.text_at.ensures))) c.spliced_text.ensures.too_long, ap length (spliced_at c.args.self.now c.args.n (tree_at c.args.piece.now c.args.other) c.requires.is_row))) (subtree_at_utf8 _ _ c.args.piece.now c.args.other (shown _ _ _ c.piece.view_is c.piece.invariant) c.requires.is_other) (root_after_node c.args.self.now (place_at c.args.self.now c.args.n) (tree_at c.args.piece.now c.args.other) w.root_is_node c.requires.is_node)

pub returns-in_err-spliced-clause-too_long : goal.returns-in_err-spliced-clause-too_long
returns-in_err-spliced-clause-too_long c =
    handed_on c.spliced_text.result c.in_err-spliced.field-0.0 c.from_residual.result _ _ c.in_err-spliced.was c.from_residual.ensures.1 (same_length (goal.at.returns-in_err-spliced-clause-too_long c).After-spliced_text) c.spliced_text.ensures.too_long

pub returns-in_err-rows-clause-too_long : goal.returns-in_err-rows-clause-too_long
returns-in_err-rows-clause-too_long c = memory_exactly c.from_residual-in_err-rows.result _ c.from_residual-in_err-rows.ensures.1 (fits (goal.at.returns-in_err-rows-clause-too_long c).In_ok-spliced)

pub from_parts-requires : goal.from_parts-requires
from_parts-requires c = table_of _ _ _ (shows (goal.at.from_parts-requires c).In_ok-rows)

pub returns-clause-ok : goal.returns-clause-ok
returns-clause-ok c = as_table _ c.from_parts.result _ _ (shows (goal.at.returns-clause-ok c).In_ok-rows) c.from_parts.ensures

pub returns-clause-too_long : goal.returns-clause-too_long
returns-clause-too_long c = ok_exactly c.from_parts.result _ (fits (goal.at.returns-clause-too_long c).In_ok-spliced)
