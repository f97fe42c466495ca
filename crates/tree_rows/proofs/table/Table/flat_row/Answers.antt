use Rattle.std.proofs.Common.{◌∙◌, ap, arith}
use Rattle.tree_model.proofs.EditLemmas.{within_rows}
use Rattle.tree_rows.proofs.FlatLemmas.{flat_fits, flat_made, flat_row-seen}
use Rattle.tree_rows.proofs.table.Table.flat_row.Goals as goal

pub row-row-requires : goal.row-row-requires
row-row-requires c = omega (arith, within_rows c.args.self.now c.args.root c.requires.is_root, c.requires.inside)

pub parent-requires : goal.parent-requires
parent-requires c = omega (arith, within_rows c.args.self.now c.args.root c.requires.is_root, c.requires.inside)

pub overflow_sub-result : goal.overflow_sub-result
overflow_sub-result c =
    omega (arith, (flat_fits c.args.self.now c.args.root c.args.n c.requires.is_root c.requires.behind c.requires.inside).start_later, ap (λ r. r.start) c.row-row.ensures.value, ap (λ r. r.start) c.row-start.ensures.value)

pub overflow_sub-result-2 : goal.overflow_sub-result-2
overflow_sub-result-2 c =
    omega (arith, (flat_fits c.args.self.now c.args.root c.args.n c.requires.is_root c.requires.behind c.requires.inside).end_later, ap (λ r. r.end) c.row-row.ensures.value)

pub overflow_cast-result : goal.overflow_cast-result
overflow_cast-result c =
    omega (arith, (flat_fits c.args.self.now c.args.root c.args.n c.requires.is_root c.requires.behind c.requires.inside).end_within, ap (λ r. r.end) c.row-row.ensures.value, c.requires.few)

pub overflow_cast-result-2 : goal.overflow_cast-result-2
overflow_cast-result-2 c =
    omega (arith, (flat_fits c.args.self.now c.args.root c.args.n c.requires.is_root c.requires.behind c.requires.inside).parent_within, c.saturating_sub-parent.ensures, c.parent.ensures, c.requires.few)

pub returns : goal.returns
returns c =
    flat_made c.args.self.now c.args.root c.args.n c.row-row.result c.row-start.result c.kind_number.result c.parent.result c.saturating_sub-parent.result
    c.row-row.ensures.value c.row-start.ensures.value c.kind_number.ensures.number c.saturating_sub-parent.ensures c.parent.ensures
    ∙ flat_row-seen c.args.self.now c.args.root c.args.n c.requires.is_root c.requires.is_node c.requires.behind c.requires.inside
