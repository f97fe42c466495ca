use Rattle.std.proofs.Common.{◌∙◌, sym, ap}
use Rattle.std.specs.Prelude.{option_map}
use Rattle.lossless_tree.specs.Element.{element_of}
use Rattle.lossless_tree.proofs.TriviaLemmas.{found_here, passed_over, none_found}
use Rattle.lossless_tree.proofs.cursor.siblings.first_no_trivia.Goals as goal

pub returns-then-not-is_trivia : goal.returns-then-not-is_trivia
returns-then-not-is_trivia c =
    found_here c.loop-element.left c.next.new.self c.in-Some.element c.is_trivia.result c.in-Some.ensures.steps c.is_trivia.ensures c.if-not-is_trivia.true ∙ ap (option_map element_of) c.loop-element.invariant.same

pub loop-element-preserved : goal.loop-element-preserved
loop-element-preserved c = record {
  same = sym (passed_over c.loop-element.left c.next.new.self c.in-Some.element c.is_trivia.result c.in-Some.ensures.steps c.is_trivia.ensures c.if-not-is_trivia.false) ∙ c.loop-element.invariant.same;
}

pub returns : goal.returns
returns c = none_found c.loop-element.left c.in_default.ensures.steps.0 ∙ ap (option_map element_of) c.loop-element.invariant.same
