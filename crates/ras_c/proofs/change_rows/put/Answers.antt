use Rattle.std.proofs.Common.{ap}
use Rattle.syntax_editor.specs.Editor.{instead_of}
use Rattle.ras_c.specs.ChangeRows.{position_at}
use Rattle.ras_c.proofs.change_rows.put.Goals as goal

pub returns-in-Ok-clause-put : goal.returns-in-Ok-clause-put
returns-in-Ok-clause-put c = record {
  position = instead_of c.args.element.now;
  position_is = ap (position_at c.args.element.now) c.if-place-eq-PLACE_INSTEAD.true;
  taken = c.in-Ok.ensures.taken;
  new_is = c.in-Ok.ensures.ok;
}
