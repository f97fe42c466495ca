use Rattle.std.proofs.Common.{ap, ◌∙◌, sym, ◌++◌, take}
use Rattle.ras_parsing.specs.Edit.{Edit}
use Rattle.ras_parsing.specs.Reparse.{kept_fault, kept_faults}
use Rattle.ras_parsing.proofs.MergeSteps.{kept_more}
use Rattle.ras_parsing.proofs.merge.merge.Goals as goal

pub loop-error-preserved : goal.loop-error-preserved
loop-error-preserved c =
    let edit : Edit = record { delete = c.args.delete; insert = c.args.insert.now } in
    c.in_ok-keep.ensures
    ∙ ap (λ l. l ++ kept_fault c.args.replaced edit c.error-item.result) c.loop-error.invariant
    ∙ ap (λ f. kept_faults c.args.replaced edit (take c.loop-error.error-index c.args.old.now) ++ kept_fault c.args.replaced edit f) c.error-item.is
    ∙ sym (kept_more c.args.replaced edit c.args.old.now c.loop-error.error-index c.error-item.result c.loop-error-test.true)
