use Rattle.std.proofs.Common.{◌≡◌, length, ap, ◌∙◌, arith}
use Rattle.tree_model.specs.Tree.{size}
use Rattle.rust_report.specs.Depths.{depth_at}
use Rattle.rust_report.proofs.DepthLemmas.{one_more_depth, depths_room}
use Rattle.rust_report.proofs.depths.depths.Goals as goal

pub loop-depths-preserved : goal.loop-depths-preserved
loop-depths-preserved c =
    let before = c.loop-depths.depths.items in (
      depths_room before c.push.new.self.items c.depth_at.result (size c.args.table.now) _ _ c.loop-depths-test.true (omega (arith, c.len-in-loop-depths.ensures, c.loop-depths.depths.ok.0)) c.len-in-loop-depths-2.ensures c.in_ok-push.ensures.items,
      one_more_depth c.args.table.now before c.push.new.self.items c.depth_at.result c.loop-depths.invariant.1
          (c.depth_at.ensures ∙ ap (depth_at c.args.table.now) (let at : c.len-in-loop-depths-3.result ≡ length before = omega (arith, c.len-in-loop-depths-3.ensures, c.loop-depths.depths.ok.0) in at)) c.in_ok-push.ensures.items,
    )
