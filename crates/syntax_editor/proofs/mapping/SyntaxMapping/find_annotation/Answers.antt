use Rattle.std.proofs.Common.{length, get_or, arith, ap, sym, ◌∙◌}
use Rattle.syntax_editor.proofs.NoteLemmas.{note_at}
use Rattle.syntax_editor.proofs.mapping.SyntaxMapping.find_annotation.Goals as goal

pub found-requires : goal.found-requires
found-requires c =
    note_at c.args.self.now.edit.now.changes.tree c.args.self.now.edit.now.notes.items c.loop-note.note-index c.note-item.result c.args.self.now.edit.now.notes_are
    (omega (arith, c.loop-note-test.true, ap length c.deref-note-items.ensures.value)) (ap (λ l. get_or l c.loop-note.note-index c.note-item.result) (sym c.deref-note-items.ensures.value) ∙ sym c.note-item.is)
