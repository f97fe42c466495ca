use Rattle.std.proofs.Common.{◌∙◌, ap, arith}
use Rattle.std.specs.List.{find}
use Rattle.tree_model.specs.Cursor.{at_token}
use Rattle.tree_rows.proofs.TableLemmas.{row_end_fits}
use Rattle.tree_rows.proofs.StepLemmas.{end_of_row}
use Rattle.tree_rows.proofs.WalkLemmas.{descendants-cursors_from}
use Rattle.tree_rows.proofs.TokenLemmas.{first_token_found}
use Rattle.tree_rows.proofs.table.Table.first_token_in.Goals as goal

pub first_token_row-requires : goal.first_token_row-requires
first_token_row-requires c = omega (arith, ap (λ r. r.end) c.row-end.ensures.value, row_end_fits c.args.self.now c.args.n c.requires)

pub returns-clause-found : goal.returns-clause-found
returns-clause-found c =
    let end_is = ap (λ r. r.end) c.row-end.ensures.value in
    first_token_found c.args.self.now c.args.n c.row-end.result.end c.first_token_row.result (omega (arith, end_is, end_of_row c.args.self.now c.args.n c.requires)) c.first_token_row.ensures.found
    ∙ ap (find at_token) (descendants-cursors_from c.args.self.now c.args.n c.row-end.result.end c.requires end_is)
