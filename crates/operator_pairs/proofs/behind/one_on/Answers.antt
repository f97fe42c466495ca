use Rattle.std.proofs.Common.{◌≤◌, ◌<◌, suc, ◌∙◌, arith}
use Rattle.lossless_tree.specs.Element.{cursor_of}
use Rattle.operator_pairs.specs.Next.{steps_left, steps}
use Rattle.operator_pairs.specs.Steps.{steps_after}
use Rattle.operator_pairs.proofs.Steps.{next_goes, up_goes}
use Rattle.operator_pairs.proofs.behind.one_on.Goals as goal

pub returns-in-Some-clause-found : goal.returns-in-Some-clause-found
returns-in-Some-clause-found c = c.into_next.ensures.found ∙ (next_goes (cursor_of c.args.element.now) c.in-Some.next c.in-Some.ensures).read

pub returns-in-Some-clause-fewer : goal.returns-in-Some-clause-fewer
returns-in-Some-clause-fewer c =
    let g = next_goes (cursor_of c.args.element.now) c.in-Some.next c.in-Some.ensures in
    let fewer : steps_left c.in-Some.next < steps_left c.args.element.now = g.fewer in
    let most : steps_after c.into_next.result ≤ suc (steps_left c.in-Some.next) = c.into_next.ensures.fewer in
    omega (arith, fewer, most)

pub returns-in-Some-parent-clause-found : goal.returns-in-Some-parent-clause-found
returns-in-Some-parent-clause-found c = (up_goes (cursor_of c.args.element.now) c.in-Some-parent.up c.in-None.ensures c.in-Some-parent.ensures).read

pub returns-in-Some-parent-clause-fewer : goal.returns-in-Some-parent-clause-fewer
returns-in-Some-parent-clause-fewer c =
    let g = up_goes (cursor_of c.args.element.now) c.in-Some-parent.up c.in-None.ensures c.in-Some-parent.ensures in
    let fewer : steps c.in-Some-parent.up.tree c.in-Some-parent.up.place < steps_left c.args.element.now = g.fewer in
    omega (arith, fewer)
