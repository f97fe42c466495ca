use Rattle.std.proofs.Common.{ap, arith}
use Rattle.tree_rows.proofs.FlatLemmas.{whole_end, whole_parent, whole_row-seen}
use Rattle.tree_rows.proofs.table.Table.whole_row.Goals as goal

pub overflow_cast-result : goal.overflow_cast-result
overflow_cast-result c = omega (arith, whole_end c.args.self.now c.args.n c.requires.is_row, ap (λ r. r.end) c.row-row.ensures.value, c.requires.few)

pub overflow_cast-result-2 : goal.overflow_cast-result-2
overflow_cast-result-2 c = omega (arith, whole_parent c.args.self.now c.args.n c.requires.is_row, c.parent.ensures, c.requires.few)

pub returns : goal.returns
returns c =
    whole_row-seen c.args.self.now c.args.n c.row-row.result c.kind_number.result c.parent.result c.requires.is_row c.requires.is_node
    c.row-row.ensures.value c.kind_number.ensures.number c.parent.ensures
