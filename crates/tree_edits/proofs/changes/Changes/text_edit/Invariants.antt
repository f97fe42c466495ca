use Rattle.tree_edits.specs.Session.{at_of}
use Rattle.tree_edits.specs.Stored.{rows_of}
use Rattle.tree_edits.proofs.changes.Changes.text_edit.Given as goal

abbrev pub ghost-edits : goal.ghost-edits
ghost-edits a = at_of (record { tree = a.table.now; rows = rows_of a.changes.now.marks.items a.changes.now.changes.items })
