use Rattle.std.proofs.Common.{◌∙◌, ◌++◌, ◌∷◌, [], ap}
use Rattle.ras_parsing.specs.AllErrors.{violation_fault}
use Rattle.ras_parsing.proofs.Pushed.{map_one_more}
use Rattle.ras_parsing.proofs.error_list.push_violations.Goals as goal

pub loop-violation-preserved : goal.loop-violation-preserved
loop-violation-preserved c =
    let error = c.in_ok-as_error.field-0 in
    c.in_ok-push.ensures.items
    ∙ ap (λ l. l ++ error ∷ []) c.loop-violation.invariant
    ∙ map_one_more violation_fault c.args.errors.items c.deref-violation-items.result.now c.loop-violation.violation-index c.violation-item.result error c.loop-violation-test.true c.violation-item.is c.in_ok-as_error.ensures
