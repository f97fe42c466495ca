use Rattle.syntax_editor.proofs.EditLemmas.{edit_of_text, edit_fits}
use Rattle.syntax_editor.proofs.edit.SyntaxEdit.text_edit.Goals as goal

pub returns-clause-text : goal.returns-clause-text
returns-clause-text c =
    edit_of_text c.text_edit.result c.args.self.now.changes c.args.self.now.old_root c.args.self.now.new_root c.args.self.now.old_is c.args.self.now.new_is c.text_edit.ensures.edit

pub returns-clause-fits : goal.returns-clause-fits
returns-clause-fits c =
    edit_fits c.text_edit.result c.args.self.now.changes c.args.self.now.old_root c.args.self.now.new_root c.args.self.now.old_is c.placed.ensures.placed c.args.self.now.new_is c.text_edit.ensures.edit c.text_edit.ensures.ranges
