use Rattle.std.proofs.Common.{◌≡◌, ◌<◌, subst, refl}
use Rattle.std.specs.Prelude.{Some}
use Rattle.tree_model.specs.Tree.{size}
use Rattle.syntax_editor.specs.Editor.{IsKeptCursor, new_cursor}
use Rattle.syntax_editor.proofs.MappingLemmas.{IsNewCursor, new_cursor_is, not_kept, element_there, node_answer, answer_some, answer_kept, answer_none}
use Rattle.syntax_editor.proofs.mapping.SyntaxMapping.old_to_new_node.Goals as goal
use Rattle.syntax_editor.proofs.mapping.SyntaxMapping.old_to_new_node.Goals.{In_ok-row, After-into_node}

found : (c : In_ok-row) → IsNewCursor c.args.self.now.edit.now.changes c.args.node.now c.in_ok-row.row
found c =
    let is_row : c.of_node.result.row < size c.of_node.result.tree = subst (λ s. s.row < size s.tree) c.new_row.view_is c.new_row.invariant in
    new_cursor_is c.args.self.now.edit.now.changes c.of_node.result.tree c.of_node.result.row c.in_ok-row.row c.args.node.now c.in_ok-row.ensures.tree is_row c.of_node.ensures.cursor c.in_ok-row.ensures.some

pub returns-in_err-row-clause-none : goal.returns-in_err-row-clause-none
returns-in_err-row-clause-none c = λ _ kept. not_kept c.args.self.now.edit.now.changes c.of_node.result.tree c.of_node.result.row c.args.node.now c.of_node.ensures.cursor (c.in_err-row.ensures.none refl) kept

pub returns-in_err-element-clause-none : goal.returns-in_err-element-clause-none
returns-in_err-element-clause-none c = λ _ _.
    element_there c.args.self.now.edit.now.changes c.args.node.now c.args.self.now.edit.now.new_root c.in_ok-row.row (found (goal.at.returns-in_err-element-clause-none c).In_ok-row) c.args.self.now.edit.now.new_is (c.in_err-element.ensures.none.0 refl)

answer : (c : After-into_node) → IsNewCursor c.args.self.now.edit.now.changes c.args.node.now c.in_ok-row.row → c.into_node.result ≡ Some (new_cursor c.args.self.now.edit.now.changes c.args.node.now)
answer c w =
    node_answer c.args.self.now.edit.now.changes c.args.node.now c.args.self.now.edit.now.new_root c.in_ok-row.row c.in_ok-element.element c.into_node.result w c.args.self.now.edit.now.new_is c.placed.ensures.node
    c.in_ok-element.ensures.some c.into_node.ensures

pub returns-clause-some : goal.returns-clause-some
returns-clause-some c =
    let at = goal.at.returns-clause-some c in
    answer_some c.into_node.result (new_cursor c.args.self.now.edit.now.changes c.args.node.now) (answer at.After-into_node (found at.In_ok-row))

pub returns-clause-kept : goal.returns-clause-kept
returns-clause-kept c = answer_kept c.into_node.result (IsKeptCursor c.args.self.now.edit.now.changes c.args.node.now) (found (goal.at.returns-clause-kept c).In_ok-row).kept

pub returns-clause-none : goal.returns-clause-none
returns-clause-none c = λ none _.
    let at = goal.at.returns-clause-none c in
    answer_none c.into_node.result (new_cursor c.args.self.now.edit.now.changes c.args.node.now) (answer at.After-into_node (found at.In_ok-row)) none
