use Rattle.std.proofs.Common.{◌∙◌, ◌++◌, ap, map, None}
use Rattle.lossless_tree.specs.WalkEvent.{node_event}
use Rattle.ras_node_ext.specs.Metas.{opened}
use Rattle.ras_node_ext.proofs.Opened.{kept, kept_so}
use Rattle.ras_node_ext.proofs.metas.skip_cfg_attrs.Goals as goal

pub loop-event-init : goal.loop-event-init
loop-event-init g c =
    record {
      same =
          ap (λ l. map g.M.AstNode.node l ++ kept g.M.AstNode.casts None (map node_event c.preorder-events.result)) c.new-metas.ensures.items
          ∙ ap (λ l. kept g.M.AstNode.casts None (map node_event l)) c.preorder-events.ensures
          ∙ kept_so g.M.AstNode.casts c.syntax.result.now
          ∙ ap (opened g.M.AstNode.casts) c.syntax.ensures;
    }
