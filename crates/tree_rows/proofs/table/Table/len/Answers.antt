use Rattle.std.proofs.Common.{◌∙◌}
use Rattle.std.specs.Prelude.{string_bytes}
use Rattle.tree_rows.proofs.TableLemmas.{shown, rows_len}
use Rattle.tree_rows.proofs.table.Table.len.Goals as goal

pub returns : goal.returns
returns c =
    let a = c.self.inside in
    c.len.ensures.value ∙ rows_len a.rows (string_bytes a.text) c.args.self.now (shown _ _ _ c.self.view_is c.self.invariant)
