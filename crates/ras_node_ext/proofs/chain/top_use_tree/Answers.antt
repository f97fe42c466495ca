use Rattle.std.proofs.Common.{◌∙◌, sym, ap, drop}
use Rattle.std.specs.Prelude.{option_map}
use Rattle.tree_model.specs.Cursor.{ancestors_of}
use Rattle.ras_node_ext.specs.Path.{top_tree_from}
use Rattle.ras_node_ext.proofs.PathChains.{tree_up, tree_stays, behind_first}
use Rattle.ras_node_ext.proofs.chain.top_use_tree.Goals as goal

pub loop-list-preserved : goal.loop-list-preserved
loop-list-preserved g c = record { same = tree_up g.L.AstNode.casts g.T.AstNode.casts c.loop-list.above c.next.new.self c.next-in-Some.new.self (g.T.AstNode.node c.loop-list.top) c.in-Some.list (g.T.AstNode.node c.in-Some-tree_of.outer) c.next-in-Some.result c.in-Some.ensures.steps c.next-in-Some.ensures.steps (ap (option_map g.T.AstNode.node) (sym c.in-Some-tree_of.is) ∙ c.tree_of.ensures) ∙ c.loop-list.invariant.same }

pub returns-in-None : goal.returns-in-None
returns-in-None g c =
    let L = g.L.AstNode.casts in
    let T = g.T.AstNode.casts in
    let begun = behind_first c.ancestors-above.result c.next-itself.new.self c.next-itself.result c.next-itself.ensures.steps ∙ ap (drop 1) c.ancestors-above.ensures in
    tree_stays L T c.loop-list.above c.next.new.self c.next-in-Some.new.self (g.T.AstNode.node c.loop-list.top) c.in-Some.list c.next-in-Some.result c.in-Some.ensures.steps c.next-in-Some.ensures.steps
    (ap (option_map g.T.AstNode.node) (sym c.in-None.is) ∙ c.tree_of.ensures)
    ∙ c.loop-list.invariant.same ∙ ap (top_tree_from L T (g.T.AstNode.node c.args.tree)) (begun ∙ ap (λ x. drop 1 (ancestors_of x)) c.syntax.ensures)
