use Rattle.std.proofs.Common.{inl, inr, ⊎_elim}
use Rattle.std.proofs.lemmas.Result.{err_from_is_err_and}
use Rattle.ras_c.specs.declared.change_rows.ChangeRow.{ChangeRow}
use Rattle.ras_c.proofs.ChangeRowsLemmas.{put_first, not_behind, not_first, all_put, not_made}
use Rattle.ras_c.proofs.change_rows.changed.Goals as goal

pub returns-in_err-change-clause-refused : goal.returns-in_err-change-clause-refused
returns-in_err-change-clause-refused c =
    let none : ChangeRow = record { row = 0; place = 0; content = 0; start = 0; end = 0 } in
    let err = err_from_is_err_and c.from_residual.result c.from_residual.ensures.1 in
    rw (err.1, err.2) (⊎_elim
    (λ memory. inl memory)
    (λ no_row. inr (record {
      begin = c.in-Ok.editor;
      is_new = c.loop-row.invariant.new;
      why = inl (c.loop-row.invariant.refused _ (not_first c.args.root.now.tree c.args.texts.now c.loop-row.editor c.args.rows.now c.loop-row.row-index none c.loop-row-test.true _ no_row));
    }))
    c.in_err-change.ensures.refused)

pub loop-row-preserved : goal.loop-row-preserved
loop-row-preserved c =
    let none : ChangeRow = record { row = 0; place = 0; content = 0; start = 0; end = 0 } in
    record {
      new = c.loop-row.invariant.new;
      put = λ new k. c.loop-row.invariant.put new (put_first c.args.root.now.tree c.args.texts.now c.loop-row.editor c.args.rows.now c.loop-row.row-index none c.loop-row-test.true c.change.new.editor new c.in_ok-change.ensures.put k);
      refused = λ status k. c.loop-row.invariant.refused status (not_behind c.args.root.now.tree c.args.texts.now c.loop-row.editor c.args.rows.now c.loop-row.row-index none c.loop-row-test.true c.change.new.editor status c.in_ok-change.ensures.put k);
    }

pub returns-in-Ok-finish-clause-changed : goal.returns-in-Ok-finish-clause-changed
returns-in-Ok-finish-clause-changed c = record {
  begin = c.in-Ok.editor;
  is_new = c.loop-row.invariant.new;
  end = c.loop-row.editor;
  are_put = c.loop-row.invariant.put c.loop-row.editor (all_put c.args.root.now.tree c.args.texts.now c.loop-row.editor c.args.rows.now c.loop-row.row-index c.loop-row-test.false);
  new_is = c.in-Ok-finish.ensures.new;
  is_short = c.in-Ok-finish.ensures.short;
}

pub returns-in-Err-clause-refused : goal.returns-in-Err-clause-refused
returns-in-Err-clause-refused c =
    not_made c.args.root.now.tree c.args.texts.now c.in-Ok.editor c.loop-row.editor c.args.rows.now c.in-Err.refused c.change_status.result c.loop-row.invariant.new
    (c.loop-row.invariant.put c.loop-row.editor (all_put c.args.root.now.tree c.args.texts.now c.loop-row.editor c.args.rows.now c.loop-row.row-index c.loop-row-test.false))
    c.in-Err.ensures.refused c.change_status.ensures.value
