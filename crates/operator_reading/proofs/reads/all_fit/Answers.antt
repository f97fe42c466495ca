use Rattle.std.proofs.Common.{ap, sym, ◌∙◌}
use Rattle.operator_reading.specs.Reads.{node_fits, element_fits}
use Rattle.operator_reading.proofs.ReadsLemmas.{all_of, at_end, step_false, step_true, from_places, fits_agree}
use Rattle.operator_reading.proofs.reads.all_fit.Goals as goal

pub loop-element-init : goal.loop-element-init
loop-element-init c = (tt, tt, from_places node_fits c.args.node.now ∙ ap (all_of node_fits) (sym c.descendants_with_tokens-element-items.ensures) ∙ ap (all_of node_fits) (sym c.into_iter-element-iterator.ensures.into_iter_gives))

pub returns-then-not-element_fits : goal.returns-then-not-element_fits
returns-then-not-element_fits c = sym (c.loop-element.invariant.2 ∙ step_false node_fits element_fits fits_agree c.loop-element.element-iterator c.next.new.self c.in-Some.element c.element_fits.result c.in-Some.ensures.steps c.element_fits.ensures c.if-not-element_fits.true)

pub loop-element-preserved : goal.loop-element-preserved
loop-element-preserved c = (tt, tt, c.loop-element.invariant.2 ∙ step_true node_fits element_fits fits_agree c.loop-element.element-iterator c.next.new.self c.in-Some.element c.element_fits.result c.in-Some.ensures.steps c.element_fits.ensures c.if-not-element_fits.false)

pub loop-element-preserved-else-not-element_fits : goal.loop-element-preserved-else-not-element_fits
loop-element-preserved-else-not-element_fits c = (tt, tt, c.loop-element.invariant.2 ∙ step_true node_fits element_fits fits_agree c.loop-element.element-iterator c.next.new.self c.in-Some.element c.element_fits.result c.in-Some.ensures.steps c.element_fits.ensures c.if-not-element_fits.false)

pub returns : goal.returns
returns c = sym (c.loop-element.invariant.2 ∙ at_end node_fits element_fits fits_agree c.loop-element.element-iterator c.in-None.ensures.steps.0)
