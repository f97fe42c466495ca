use Rattle.std.proofs.Common.{◌<◌, subst, refl}
use Rattle.tree_model.specs.Tree.{size}
use Rattle.tree_model.specs.Cursor.{cursor_at}
use Rattle.syntax_editor.proofs.MappingLemmas.{IsNewCursor, new_cursor_is, not_kept, element_some, element_kept, element_there}
use Rattle.syntax_editor.proofs.mapping.SyntaxMapping.new_element.Goals as goal
use Rattle.syntax_editor.proofs.mapping.SyntaxMapping.new_element.Goals.{In_ok-row}

found : (c : In_ok-row) → IsNewCursor c.args.self.now.edit.now.changes (cursor_at c.args.place.now.tree c.args.place.now.row) c.in_ok-row.row
found c =
    let is_row : c.args.place.now.row < size c.args.place.now.tree = subst (λ n. n < size c.args.place.now.tree) c.row-at.ensures.value c.row-at.ensures.is_row in
    new_cursor_is c.args.self.now.edit.now.changes c.args.place.now.tree c.args.place.now.row c.in_ok-row.row (cursor_at c.args.place.now.tree c.args.place.now.row) c.in_ok-row.ensures.tree is_row refl c.in_ok-row.ensures.some

pub returns-in_err-row-clause-none : goal.returns-in_err-row-clause-none
returns-in_err-row-clause-none c = λ _ kept. not_kept c.args.self.now.edit.now.changes c.args.place.now.tree c.args.place.now.row (cursor_at c.args.place.now.tree c.args.place.now.row) refl (c.in_err-row.ensures.none refl) kept

pub returns-clause-some : goal.returns-clause-some
returns-clause-some c =
    element_some c.args.self.now.edit.now.changes (cursor_at c.args.place.now.tree c.args.place.now.row) c.args.self.now.edit.now.new_root c.in_ok-row.row c.element_at_row.result (found (goal.at.returns-clause-some c).In_ok-row) c.args.self.now.edit.now.new_is c.element_at_row.ensures.some

pub returns-clause-kept : goal.returns-clause-kept
returns-clause-kept c = element_kept c.args.self.now.edit.now.changes (cursor_at c.args.place.now.tree c.args.place.now.row) c.in_ok-row.row c.element_at_row.result (found (goal.at.returns-clause-kept c).In_ok-row)

pub returns-clause-none : goal.returns-clause-none
returns-clause-none c = λ none _.
    element_there c.args.self.now.edit.now.changes (cursor_at c.args.place.now.tree c.args.place.now.row) c.args.self.now.edit.now.new_root c.in_ok-row.row (found (goal.at.returns-clause-none c).In_ok-row) c.args.self.now.edit.now.new_is (c.element_at_row.ensures.none.0 none)
