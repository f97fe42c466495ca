use Rattle.ras_c.proofs.live.ras_c_rows.Goals as goal

pub returns-clause-told : goal.returns-clause-told
returns-clause-told c = record {
  done = c.ras_c_rows_as.ensures.done;
  room = c.ras_c_rows_as.ensures.room;
  long = c.ras_c_rows_as.ensures.long;
  kept = c.ras_c_rows_as.ensures.kept;
  choice_known = c.ras_c_rows_as.ensures.choice;
  empty = c.ras_c_rows_as.ensures.empty;
  read = c.ras_c_rows_as.ensures.read;
  which = c.ras_c_rows_as.ensures.which;
}
