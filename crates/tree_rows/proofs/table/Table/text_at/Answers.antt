use Rattle.std.proofs.Common.{◌∙◌}
use Rattle.std.specs.Prelude.{string_bytes}
use Rattle.tree_model.specs.Tree.{text}
use Rattle.tree_model.specs.Rows.{tree_at}
use Rattle.tree_rows.specs.Rows.{Represents}
use Rattle.tree_model.proofs.TableLemmas.{Piece}
use Rattle.tree_rows.proofs.TableLemmas.{shown, piece_at}
use Rattle.tree_rows.proofs.table.Table.text_at.Goals as goal
use Rattle.tree_rows.proofs.table.Table.text_at.Goals.{After-self, After-as_str}

shows : (c : After-self) → Represents c.self.inside.rows (string_bytes c.self.inside.text) c.args.self.now
shows c = shown _ _ _ c.self.view_is c.self.invariant

cuts : (c : After-as_str) → Piece c.as_str.result.now c.row-start.result.start c.end_at-end.result (text (tree_at c.args.self.now c.args.n))
cuts c = piece_at _ _ _ c.args.self.now c.args.n _ c.row-start.result (shown _ _ _ c.self.view_is c.self.invariant) c.requires c.row-start.ensures.value c.end_at-end.ensures.value c.as_str.ensures.value

pub range-requires-clause-start_le_end : goal.range-requires-clause-start_le_end
range-requires-clause-start_le_end c = (cuts c).ordered

pub range-requires-clause-start_boundary : goal.range-requires-clause-start_boundary
range-requires-clause-start_boundary c = λ _. (cuts c).start_boundary

pub range-requires-clause-end_boundary : goal.range-requires-clause-end_boundary
range-requires-clause-end_boundary c = (cuts c).end_boundary

pub returns : goal.returns
returns c = c.range.ensures.value ∙ (cuts (goal.at.returns c).After-as_str).is
