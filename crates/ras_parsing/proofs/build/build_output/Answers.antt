use Rattle.std.proofs.Common.{◌≡◌, ◌∙◌, sym, subst, filter_map, []}
use Rattle.std.proofs.lemmas.List.{nil_from_length}
use Rattle.std.specs.Vec.Iter.{into_iter_items}
use Rattle.tree_rows.specs.Builder.{IsOneTree}
use Rattle.ras_front_end.specs.TreeEvent.{tree_event}
use Rattle.ras_parsing.proofs.BuildLemmas.{finished, one_tree}
use Rattle.ras_parsing.proofs.build.build_output.Goals as goal

pub tree_over-requires-clause-one_tree : goal.tree_over-requires-clause-one_tree
tree_over-requires-clause-one_tree c =
    subst (λ l. IsOneTree (filter_map tree_event l) c.args.text.now) (sym c.as_slice.ensures.value) (one_tree c.args.output c.args.text.now c.requires.keeps)

pub returns-clause-parsed : goal.returns-clause-parsed
returns-clause-parsed c =
    let none : into_iter_items c.loop-step.step-iterator ≡ [] = nil_from_length (into_iter_items c.loop-step.step-iterator) (sym c.loop-step.step-iterator.rest.ok.0 ∙ c.in-None.ensures.steps.0) in
    let none' : into_iter_items c.loop-error.error-iterator ≡ [] = nil_from_length (into_iter_items c.loop-error.error-iterator) (sym c.loop-error.error-iterator.rest.ok.0 ∙ c.in-None-error.ensures.steps.0) in
    (finished c.args.output c.args.text.now c.requires.keeps c.as_slice.result.now _ _ c.loop-step.errors.items c.loop-error.errors.items c.in_ok-root.root.tree
    c.as_slice.ensures.value c.in_ok-root.ensures.0 none none' c.loop-step.invariant c.loop-error.invariant).parsed

pub returns-clause-in_text : goal.returns-clause-in_text
returns-clause-in_text c =
    let none : into_iter_items c.loop-step.step-iterator ≡ [] = nil_from_length (into_iter_items c.loop-step.step-iterator) (sym c.loop-step.step-iterator.rest.ok.0 ∙ c.in-None.ensures.steps.0) in
    let none' : into_iter_items c.loop-error.error-iterator ≡ [] = nil_from_length (into_iter_items c.loop-error.error-iterator) (sym c.loop-error.error-iterator.rest.ok.0 ∙ c.in-None-error.ensures.steps.0) in
    (finished c.args.output c.args.text.now c.requires.keeps c.as_slice.result.now _ _ c.loop-step.errors.items c.loop-error.errors.items c.in_ok-root.root.tree
    c.as_slice.ensures.value c.in_ok-root.ensures.0 none none' c.loop-step.invariant c.loop-error.invariant).in_text
