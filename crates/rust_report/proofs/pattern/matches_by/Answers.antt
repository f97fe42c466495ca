use Rattle.std.proofs.Common.{◌≡◌, ◌∷◌, length, ap, ◌∙◌, arith}
use Rattle.tree_model.specs.Tree.{size}
use Rattle.rust_report.specs.Marks.{fits_row}
use Rattle.rust_report.proofs.MarkLemmas.{one_more, room}
use Rattle.rust_report.proofs.pattern.matches_by.Goals as goal

pub loop-step-preserved : goal.loop-step-preserved
loop-step-preserved c =
    let before = c.loop-step.marks.items in (
      room before c.push.new.self.items c.is_match.result (size c.args.table.now) _ _ c.loop-step-test.true (omega (arith, c.len-in-loop-step.ensures, c.loop-step.marks.ok.0)) c.len-in-loop-step-2.ensures c.in_ok-push.ensures.items,
      one_more (fits_row c.args.table.now (c.args.step ∷ c.args.rest.now)) before c.push.new.self.items c.is_match.result c.loop-step.invariant.1
          (c.is_match.ensures ∙ ap (fits_row c.args.table.now (c.args.step ∷ c.args.rest.now)) (let at : c.len-in-loop-step-3.result ≡ length before = omega (arith, c.len-in-loop-step-3.ensures, c.loop-step.marks.ok.0) in at)) c.in_ok-push.ensures.items,
    )
