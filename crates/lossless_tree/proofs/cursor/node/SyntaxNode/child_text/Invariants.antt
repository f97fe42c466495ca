use Rattle.std.proofs.Common.{◌≡◌, ◌-◌}
use Rattle.tree_model.specs.Tree.{forest_of_children, child_at}
use Rattle.tree_model.specs.Cursor.{focus}
use Rattle.lossless_tree.proofs.cursor.node.SyntaxNode.child_text.Given as goal

abbrev pub invariant-loop : goal.invariant-loop
invariant-loop l = child_at l.left.trees (l.n - l.counter) ≡ child_at (forest_of_children (focus l.self)) l.n
