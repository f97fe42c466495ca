use Rattle.tree_rows.proofs.PointerLemmas.{finds_nothing}
use Rattle.lossless_tree.proofs.cursor.node.SyntaxNode.first_in_root.Goals as goal

pub returns-then-self-ne0 : goal.returns-then-self-ne0
returns-then-self-ne0 c = finds_nothing _ c.self.inside.table.value c.self.inside.row c.args.self.now c.self.invariant.0 c.if-self-ne0.true c.self.view_is
