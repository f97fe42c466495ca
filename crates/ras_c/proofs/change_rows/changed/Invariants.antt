use Rattle.std.proofs.Common.{drop}
use Rattle.syntax_editor.specs.Annotated.{IsNewEditing}
use Rattle.ras_c.specs.ChangeRows.{ArePut, AreNotPut}
use Rattle.ras_c.proofs.change_rows.changed.Given as goal

-- what the changes that are left make of the session so far, all changes make of a new one
abbrev pub invariant-loop-row : goal.invariant-loop-row
invariant-loop-row l = record {
  new : IsNewEditing l.root.tree l.initial.editor;
  put : (new : _) → ArePut l.root.tree l.texts l.editor (drop l.row-index l.rows) new → ArePut l.root.tree l.texts l.initial.editor l.rows new;
  refused : (status : _) → AreNotPut l.root.tree l.texts l.editor (drop l.row-index l.rows) status → AreNotPut l.root.tree l.texts l.initial.editor l.rows status;
}
