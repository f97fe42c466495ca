use Rattle.std.proofs.Common.{arith}
use Rattle.std.specs.Prelude.{string_bytes}
use Rattle.tree_rows.proofs.TableLemmas.{shown, rows_len, read_row}
use Rattle.tree_rows.proofs.table.Table.row.Goals as goal

pub get-requires : goal.get-requires
get-requires c = omega (arith, c.requires, rows_len _ (string_bytes c.self.inside.text) c.args.self.now (shown _ _ _ c.self.view_is c.self.invariant))

pub returns-clause-value : goal.returns-clause-value
returns-clause-value c = read_row _ _ c.args.self.now c.args.n _ (shown _ _ _ c.self.view_is c.self.invariant) c.get.ensures.value
