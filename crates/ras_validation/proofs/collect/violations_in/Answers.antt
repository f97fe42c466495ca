use Rattle.std.proofs.Common.{◌≡◌, ◌+◌, ◌++◌, ◌∙◌, ap, arith}
use Rattle.tree_model.specs.Tree.{size}
use Rattle.tree_model.specs.Rows.{tree_at}
use Rattle.tree_model.proofs.WalkLemmas.{descendants-numbered}
use Rattle.ras_validation.specs.Rows.{violations_from}
use Rattle.ras_validation.specs.Violations.{violations_of, violations_among}
use Rattle.ras_validation.proofs.RowLemmas.{fits}
use Rattle.ras_validation.proofs.collect.violations_in.Goals as goal

pub add_all-requires : goal.add_all-requires
add_all-requires c =
    let tree = c.args.node.now.tree in
    let row = c.row-first.result in
    let end : c.row_behind-end.result ≡ row + size (tree_at tree row) = c.row_behind-end.ensures ∙ ap (λ t. row + size (tree_at t row)) (c.as_ref.ensures ∙ c.table.ensures) in
    omega (arith, end, fits tree row c.row-first.ensures.is_row)

pub returns : goal.returns
returns c =
    let tree = c.args.node.now.tree in
    let row = c.row-first.result in
    let end = c.row_behind-end.result in
    let end_is : end ≡ row + size (tree_at tree row) = c.row_behind-end.ensures ∙ ap (λ t. row + size (tree_at t row)) (c.as_ref.ensures ∙ c.table.ensures) in
    c.in_ok-add_all.ensures
    ∙ ap (λ l. l ++ violations_from tree row end) c.new-found.ensures.items
    ∙ ap violations_among (descendants-numbered tree row end c.row-first.ensures.is_row end_is)
    ∙ ap violations_of c.row-first.ensures.place
