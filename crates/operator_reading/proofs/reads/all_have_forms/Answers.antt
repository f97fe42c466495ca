use Rattle.std.proofs.Common.{ap, sym, ◌∙◌}
use Rattle.operator_reading.specs.Reads.{has_form, element_has_form}
use Rattle.operator_reading.proofs.ReadsLemmas.{all_of, at_end, step_false, step_true, from_places, forms_agree}
use Rattle.operator_reading.proofs.reads.all_have_forms.Goals as goal

pub loop-element-init : goal.loop-element-init
loop-element-init c = (tt, tt, from_places has_form c.args.node.now ∙ ap (all_of has_form) (sym c.descendants_with_tokens-element-items.ensures) ∙ ap (all_of has_form) (sym c.into_iter-element-iterator.ensures.into_iter_gives))

pub returns-then-not-element_has_form : goal.returns-then-not-element_has_form
returns-then-not-element_has_form c = sym (c.loop-element.invariant.2 ∙ step_false has_form element_has_form forms_agree c.loop-element.element-iterator c.next.new.self c.in-Some.element c.element_has_form.result c.in-Some.ensures.steps c.element_has_form.ensures c.if-not-element_has_form.true)

pub loop-element-preserved : goal.loop-element-preserved
loop-element-preserved c = (tt, tt, c.loop-element.invariant.2 ∙ step_true has_form element_has_form forms_agree c.loop-element.element-iterator c.next.new.self c.in-Some.element c.element_has_form.result c.in-Some.ensures.steps c.element_has_form.ensures c.if-not-element_has_form.false)

pub loop-element-preserved-else-not-element_has_form : goal.loop-element-preserved-else-not-element_has_form
loop-element-preserved-else-not-element_has_form c = (tt, tt, c.loop-element.invariant.2 ∙ step_true has_form element_has_form forms_agree c.loop-element.element-iterator c.next.new.self c.in-Some.element c.element_has_form.result c.in-Some.ensures.steps c.element_has_form.ensures c.if-not-element_has_form.false)

pub returns : goal.returns
returns c = sym (c.loop-element.invariant.2 ∙ at_end has_form element_has_form forms_agree c.loop-element.element-iterator c.in-None.ensures.steps.0)
