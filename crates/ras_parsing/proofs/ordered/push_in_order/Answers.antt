use Rattle.std.proofs.Common.{◌≡◌, ◌∙◌, ◌++◌, ◌∷◌, [], ap}
use Rattle.ras_parsing.specs.Edit.{replacing}
use Rattle.ras_parsing.specs.Reparse.{moved}
use Rattle.ras_parsing.specs.Document.{earlier_fault, later_fault}
use Rattle.ras_parsing.proofs.Pushed.{map_one_more, flat_map_one_more}
use Rattle.ras_parsing.proofs.ordered.push_in_order.Goals as goal

pub loop-error-preserved : goal.loop-error-preserved
loop-error-preserved c =
    let f = earlier_fault c.args.replaced in
    let e = c.error-item.result in
    c.in_ok-keep_earlier.ensures
    ∙ ap (λ l. l ++ f e) c.loop-error.invariant
    ∙ flat_map_one_more f c.args.all.now.items c.args.old.now c.loop-error.error-index e c.loop-error-test.true c.error-item.is

pub loop-error-2-preserved : goal.loop-error-2-preserved
loop-error-2-preserved c =
    let f = moved c.args.replaced.start in
    let e = c.error-item-in-loop-error-2.result in
    let copied : c.in_ok-clone.field-0 ≡ e = c.in_ok-clone.ensures.cases in
    let same : c.moved.result ≡ f e = c.moved.ensures ∙ ap (λ n. moved n c.in_ok-clone.field-0) c.start.ensures.value ∙ ap f copied in
    c.in_ok-push.ensures.items
    ∙ ap (λ l. l ++ c.moved.result ∷ []) c.loop-error-2.invariant
    ∙ map_one_more f c.loop-error.all.items c.args.new.now c.loop-error-2.error-index e c.moved.result c.loop-error-2-test.true c.error-item-in-loop-error-2.is same

pub loop-error-3-preserved : goal.loop-error-3-preserved
loop-error-3-preserved c =
    let f = later_fault c.args.replaced (replacing c.args.delete c.args.insert.now) in
    let e = c.error-item-in-loop-error-3.result in
    c.in_ok-keep_later.ensures
    ∙ ap (λ l. l ++ f e) c.loop-error-3.invariant
    ∙ flat_map_one_more f c.loop-error-2.all.items c.args.old.now c.loop-error-3.error-index e c.loop-error-3-test.true c.error-item-in-loop-error-3.is
