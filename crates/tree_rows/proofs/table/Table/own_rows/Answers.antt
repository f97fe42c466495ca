use Rattle.std.proofs.Common.{◌∙◌, ap}
use Rattle.std.specs.Prelude.{string_bytes}
use Rattle.tree_rows.specs.Flat.{flat_rows}
use Rattle.tree_rows.specs.Rows.{tree_of_rows}
use Rattle.tree_rows.proofs.FlatLemmas.{flat_shown}
use Rattle.tree_rows.proofs.table.Table.own_rows.Goals as goal

pub returns-clause-rows : goal.returns-clause-rows
returns-clause-rows c =
    let a = c.self.inside in
    c.in_ok-rows.ensures ∙ flat_shown a.rows (string_bytes a.text) (tree_of_rows a.rows (string_bytes a.text)) c.self.invariant ∙ ap flat_rows c.self.view_is
