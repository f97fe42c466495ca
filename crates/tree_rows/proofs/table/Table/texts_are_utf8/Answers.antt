use Rattle.std.specs.Prelude.{string_bytes}
use Rattle.tree_rows.proofs.TableLemmas.{shown}
use Rattle.tree_rows.proofs.table.Table.texts_are_utf8.Goals as goal

pub returns : goal.returns
returns c =
    let a = c.self.inside in
    (shown a.rows (string_bytes a.text) c.args.self.now c.self.view_is c.self.invariant).texts_are_utf8
