use Rattle.std.proofs.Common.{◌≡◌, ◌++◌, drop}
use Rattle.std.specs.Prelude.{filter_map}
use Rattle.syntax_editor.specs.Editor.{found_note, found_notes}
use Rattle.syntax_editor.proofs.mapping.SyntaxMapping.find_annotation.Given as goal

abbrev pub invariant-loop-note : goal.invariant-loop-note
invariant-loop-note l = l.all.items ++ found_notes l.self.edit.now.changes l.annotation (drop l.note-index l.self.edit.now.notes.items) ≡ found_notes l.self.edit.now.changes l.annotation l.self.edit.now.notes.items
