use Rattle.ras_c.proofs.read.ras_c_read_expr.Goals as goal

pub returns : goal.returns
returns c = record {
  done = c.ras_c_read_as.ensures.done;
  room = c.ras_c_read_as.ensures.room;
  kept = c.ras_c_read_as.ensures.kept;
  entry_known = c.ras_c_read_as.ensures.entry;
  choice_known = c.ras_c_read_as.ensures.choice;
  edition_known = c.ras_c_read_as.ensures.edition;
  utf8 = c.ras_c_read_as.ensures.utf8;
  long = c.ras_c_read_as.ensures.long;
  which = c.ras_c_read_as.ensures.which;
}
