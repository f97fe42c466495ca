use Rattle.std.proofs.Common.{arith}
use Rattle.std.specs.Prelude.{string_bytes}
use Rattle.tree_rows.proofs.TableLemmas.{shown, rows_len, read_parent}
use Rattle.tree_rows.proofs.table.Table.parent.Goals as goal

pub parent-requires : goal.parent-requires
parent-requires c = omega (arith, c.requires, rows_len _ (string_bytes c.self.inside.text) c.args.self.now (shown _ _ _ c.self.view_is c.self.invariant))

pub returns : goal.returns
returns c = read_parent _ _ c.args.self.now c.args.n _ (shown _ _ _ c.self.view_is c.self.invariant) c.requires c.parent.ensures
