use Rattle.std.proofs.Common.{◌≡◌, length, ap, ◌∙◌, arith}
use Rattle.tree_model.specs.Tree.{size}
use Rattle.rust_report.specs.Marks.{fits_up}
use Rattle.rust_report.proofs.MarkLemmas.{one_more, room}
use Rattle.rust_report.proofs.pattern.marks_up.Goals as goal

pub loop-up-preserved : goal.loop-up-preserved
loop-up-preserved c =
    let before = c.loop-up.up.items in (
      room before c.push.new.self.items c.is_marked_up.result (size c.args.table.now) _ _ c.loop-up-test.true (omega (arith, c.len-in-loop-up.ensures, c.loop-up.up.ok.0)) c.len-in-loop-up-2.ensures c.in_ok-push.ensures.items,
      one_more (fits_up c.args.table.now c.args.steps.now) before c.push.new.self.items c.is_marked_up.result c.loop-up.invariant.1
          (c.is_marked_up.ensures ∙ ap (fits_up c.args.table.now c.args.steps.now) (let at : c.len-in-loop-up-3.result ≡ length before = omega (arith, c.len-in-loop-up-3.ensures, c.loop-up.up.ok.0) in at)) c.in_ok-push.ensures.items,
    )
