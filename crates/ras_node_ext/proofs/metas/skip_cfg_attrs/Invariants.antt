use Rattle.std.proofs.Common.{◌≡◌, ◌++◌, length, map}
use Rattle.lossless_tree.specs.WalkEvent.{node_event}
use Rattle.ras_node_ext.specs.Metas.{opened}
use Rattle.ras_node_ext.proofs.Opened.{kept}
use Rattle.ras_node_ext.proofs.metas.skip_cfg_attrs.Given as goal

abbrev pub invariant-loop-event : goal.invariant-loop-event
invariant-loop-event g l =
    record { same : map g.M.AstNode.node l.metas.items ++ kept g.M.AstNode.casts l.past (map node_event l.events) ≡ opened g.M.AstNode.casts (g.M.AstNode.node l.fn.meta) }

abbrev pub decreases-loop-event : goal.decreases-loop-event
decreases-loop-event g l = length l.events
