use Rattle.tree_model.specs.Cursor.{cursor_at}
use Rattle.syntax_editor.proofs.NoteLemmas.{found_is}
use Rattle.syntax_editor.proofs.mapping.SyntaxMapping.found.Goals as goal

pub returns-then-has : goal.returns-then-has
returns-then-has c =
    found_is c.args.self.now.edit.now.changes c.args.annotation c.args.note.now (cursor_at c.place.result.now.tree c.place.result.now.row) c.new_element.result (c.has.ensures.0 c.if-has.true) c.place.ensures c.requires
    c.new_element.ensures.some c.new_element.ensures.kept c.new_element.ensures.none
