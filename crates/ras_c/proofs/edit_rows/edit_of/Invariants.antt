use Rattle.std.proofs.Common.{drop}
use Rattle.std.specs.Prelude.{[]}
use denote.Shadow.{shadow}
use denote.Text.{Utf8}
use Rattle.ras_c.specs.EditRows.{AreAdded, AreNotAdded}
use Rattle.ras_c.proofs.edit_rows.edit_of.Given as goal

-- what the rows that are left make of the edit so far, all rows make of none
abbrev pub invariant-loop-row : goal.invariant-loop-row
invariant-loop-row l = record {
  text : shadow (Utf8 l.rest);
  added : (new : _) → AreAdded l.edit (drop l.row-index l.rows) l.rest new → AreAdded [] l.fn.rows l.fn.inserts new;
  refused : (status : _) → AreNotAdded l.edit (drop l.row-index l.rows) l.rest status → AreNotAdded [] l.fn.rows l.fn.inserts status;
}
