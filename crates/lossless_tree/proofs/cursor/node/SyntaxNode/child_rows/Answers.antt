use Rattle.std.proofs.Common.{◌≡◌, ◌+◌, ◌∙◌, ap, sym, subst, arith}
use Rattle.tree_model.specs.Tree.{size}
use Rattle.tree_model.specs.Rows.{tree_at}
use Rattle.tree_model.specs.Cursor.{cursor_at, children_of}
use Rattle.tree_rows.specs.Walks.{siblings_left, HaveParentEnd}
use Rattle.tree_rows.proofs.ChildLists.{children_begin}
use Rattle.tree_rows.proofs.StepLemmas.{end_is_behind}
use Rattle.lossless_tree.proofs.cursor.node.SyntaxNode.child_rows.Goals as goal
use Rattle.lossless_tree.proofs.cursor.node.SyntaxNode.child_rows.Goals.{After-rows_below}

begun : (c : After-rows_below) → (siblings_left c.self.inside.table.value c.rows_below.result.0 c.rows_below.result.1 ≡ children_of (cursor_at c.self.inside.table.value c.self.inside.row))
    × HaveParentEnd c.self.inside.table.value c.rows_below.result.0 c.rows_below.result.1
begun c =
    let tree = c.self.inside.table.value in
    let row = c.self.inside.row in
    children_begin tree row c.rows_below.result.0 c.rows_below.result.1 c.self.invariant.0 (omega (arith, c.rows_below.ensures.first))
    (end_is_behind tree row c.rows_below.result.1 c.self.invariant.0 (c.rows_below.ensures.behind ∙ ap (λ t. row + size (tree_at t row)) c.deref.ensures))

pub returns-clause-have_end : goal.returns-clause-have_end
returns-clause-have_end c = subst (λ t. HaveParentEnd t c.rows_below.result.0 c.rows_below.result.1) (ap (λ d. d.tree) c.self.view_is) (begun c).1

pub returns-clause-left : goal.returns-clause-left
returns-clause-left c =
    ap (λ t. siblings_left t c.rows_below.result.0 c.rows_below.result.1) (sym (ap (λ d. d.tree) c.self.view_is)) ∙ (begun c).0 ∙ ap children_of c.self.view_is
