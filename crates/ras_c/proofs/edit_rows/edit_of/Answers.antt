use Rattle.std.proofs.Common.{refl, inl, inr, ⊎_elim}
use Rattle.std.proofs.lemmas.Result.{err_from_is_err_and}
use Rattle.ras_c.specs.declared.edit_rows.EditRow.{EditRow}
use Rattle.ras_c.proofs.EditRowsLemmas.{not_from}
use Rattle.ras_c.proofs.edit_rows.edit_of.Goals as goal

pub returns-in_err-add-clause-refused : goal.returns-in_err-add-clause-refused
returns-in_err-add-clause-refused c =
    let none : EditRow = record { start = 0; end = 0; insert = 0 } in
    let err = err_from_is_err_and c.from_residual.result c.from_residual.ensures.1 in
    rw (err.1, err.2) (⊎_elim
    (λ memory. inl memory)
    (λ no_row. inr (c.loop-row.invariant.refused _ (not_from c.loop-row.edit c.args.rows.now c.loop-row.row-index _ none c.loop-row.rest.now _ c.loop-row-test.true (c.if-not-is_char_boundary.ensures.test.0 refl) c.range.ensures.value no_row)))
    c.in_err-add.ensures.refused)
