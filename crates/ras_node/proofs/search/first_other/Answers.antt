use Rattle.std.proofs.Common.{◌∙◌, sym, ap}
use Rattle.std.specs.Prelude.{option_map}
use Rattle.std.specs.List.{find}
use Rattle.lossless_tree.specs.Element.{element_of}
use Rattle.ras_node.specs.Searches.{has_other_kind}
use Rattle.lossless_tree.proofs.ChildSteps.{ended}
use Rattle.ras_node.proofs.Steps.{other_found, other_passed}
use Rattle.ras_node.proofs.search.first_other.Goals as goal

pub returns-then-is_other : goal.returns-then-is_other
returns-then-is_other g c = other_found g.S.KindSet.kinds c.loop-child.left c.next.new.self c.in-Some.child c.is_other.result c.in-Some.ensures.steps c.is_other.ensures c.if-is_other.true ∙ ap (option_map element_of) c.loop-child.invariant.same

pub loop-child-preserved-else-is_other : goal.loop-child-preserved-else-is_other
loop-child-preserved-else-is_other g c = record { same = other_passed g.S.KindSet.kinds c.loop-child.left c.next.new.self c.in-Some.child c.is_other.result c.in-Some.ensures.steps c.is_other.ensures c.if-is_other.false ∙ c.loop-child.invariant.same }

pub loop-child-preserved : goal.loop-child-preserved
loop-child-preserved g c = record { same = other_passed g.S.KindSet.kinds c.loop-child.left c.next.new.self c.in-Some.child c.is_other.result c.in-Some.ensures.steps c.is_other.ensures c.if-is_other.false ∙ c.loop-child.invariant.same }

pub returns : goal.returns
returns g c = ap (option_map element_of) (ap (find (has_other_kind g.S.KindSet.kinds)) (sym (ended c.loop-child.left c.in_default.ensures.steps.0)) ∙ c.loop-child.invariant.same)
