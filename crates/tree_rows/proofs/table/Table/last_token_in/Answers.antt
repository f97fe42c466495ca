use Rattle.std.proofs.Common.{◌∙◌, ap, arith, reverse}
use Rattle.std.specs.List.{find}
use Rattle.tree_model.specs.Cursor.{at_token}
use Rattle.tree_rows.proofs.TableLemmas.{row_end_fits}
use Rattle.tree_rows.proofs.StepLemmas.{end_of_row}
use Rattle.tree_rows.proofs.WalkLemmas.{descendants-cursors_from}
use Rattle.tree_rows.proofs.TokenLemmas.{last_token_found}
use Rattle.tree_rows.proofs.table.Table.last_token_in.Goals as goal

pub last_token_row-requires : goal.last_token_row-requires
last_token_row-requires c = omega (arith, ap (λ r. r.end) c.row-end.ensures.value, row_end_fits c.args.self.now c.args.n c.requires)

pub returns-clause-found : goal.returns-clause-found
returns-clause-found c =
    let end_is = ap (λ r. r.end) c.row-end.ensures.value in
    last_token_found c.args.self.now c.args.n c.row-end.result.end c.last_token_row.result (omega (arith, end_is, end_of_row c.args.self.now c.args.n c.requires)) c.last_token_row.ensures.found
    ∙ ap (λ l. find at_token (reverse l)) (descendants-cursors_from c.args.self.now c.args.n c.row-end.result.end c.requires end_is)
