use Rattle.std.proofs.Common.{◌≡◌, ◌+◌, ◌-◌, ◌∙◌, suc, sym, ap, arith}
use Rattle.tree_model.specs.Tree.{child_at}
use Rattle.lossless_tree.proofs.TreesLemmas.{child_at_rest}
use Rattle.lossless_tree.proofs.cursor.node.SyntaxNode.child_text.Goals as goal

pub loop-preserved : goal.loop-preserved
loop-preserved c =
    let later = c.args.n - (c.loop.counter + 1) in
    let count : suc later ≡ c.args.n - c.loop.counter = omega (arith, c.loop-test.true) in
    ap (λ s. child_at s.trees later) c.rest-left.ensures
    ∙ child_at_rest c.loop.left.trees later (sym c.is_done.ensures ∙ c.if-is_done.false)
    ∙ ap (child_at c.loop.left.trees) count ∙ c.loop.invariant
