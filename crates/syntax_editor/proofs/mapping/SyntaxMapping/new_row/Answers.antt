use Rattle.std.proofs.Common.{◌<◌, length, sym, arith}
use Rattle.std.proofs.lemmas.List.{get_or_read}
use Rattle.tree_edits.specs.Session.{at_of}
use Rattle.syntax_editor.proofs.MappingLemmas.{has_number, number_some, number_none}
use Rattle.syntax_editor.proofs.mapping.SyntaxMapping.new_row.Goals as goal
use Rattle.syntax_editor.proofs.mapping.SyntaxMapping.new_row.Goals.{After-row}

there : (c : After-row) → c.row.result < length c.args.self.now.rows.items
there c =
    has_number (at_of c.args.self.now.edit.now.changes) c.args.self.now.edit.now.changes.tree c.args.place.now.tree c.args.self.now.rows.items c.row.result c.args.self.now.are_rows (c.is_in_tree.ensures.0 c.if-is_in_tree.true) c.row.ensures.is_row

pub index-requires : goal.index-requires
index-requires c = omega (arith, c.args.self.now.rows.ok.0, there (goal.at.index-requires c).After-row)

pub returns-then-is_in_tree-clause-some : goal.returns-then-is_in_tree-clause-some
returns-then-is_in_tree-clause-some c =
    let at_row = (goal.at.returns-then-is_in_tree-clause-some c).After-row in
    let read = sym (get_or_read c.args.self.now.rows.items c.row.result c.index.result.now (there at_row) c.index.ensures 0) in
    rw (← c.row.ensures.value)
    (number_some (at_of c.args.self.now.edit.now.changes) c.args.self.now.edit.now.changes.tree c.args.place.now.tree c.args.self.now.rows.items c.row.result c.index.result.now c.checked_sub.result
    c.args.self.now.are_rows (c.is_in_tree.ensures.0 c.if-is_in_tree.true) c.row.ensures.is_row read c.checked_sub.ensures)

pub returns-then-is_in_tree-clause-none : goal.returns-then-is_in_tree-clause-none
returns-then-is_in_tree-clause-none c = λ none same.
    let at_row = (goal.at.returns-then-is_in_tree-clause-none c).After-row in
    let read = sym (get_or_read c.args.self.now.rows.items c.row.result c.index.result.now (there at_row) c.index.ensures 0) in
    rw (← c.row.ensures.value)
    (number_none (at_of c.args.self.now.edit.now.changes) c.args.self.now.edit.now.changes.tree c.args.place.now.tree c.args.self.now.rows.items c.row.result c.index.result.now c.checked_sub.result
    c.args.self.now.are_rows same c.row.ensures.is_row read c.checked_sub.ensures none)
