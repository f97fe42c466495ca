use Rattle.std.proofs.Common.{ap, ◌∙◌}
use Rattle.tree_model.specs.Cursor.{focus}
use Rattle.operator_terms.specs.Powers.{needs_pair_at}
use Rattle.operator_trees.specs.Shown.{meaning, IsTerm}
use Rattle.operator_pairs.proofs.Deep.{asked_so, pair_so, inside_shown}
use Rattle.operator_pairs.proofs.place.needs_parens_in_place_of.Goals as goal

pub returns-clause-direct : goal.returns-clause-direct
returns-clause-direct c = λ s t i p self shows is direct at.
    c.needs_parens_before.ensures.direct s t i p self shows is direct at ∙ ap (λ angle. needs_pair_at t i angle s) c.is_before_angle-angle.ensures

pub returns-clause-pairs : goal.returns-clause-pairs
returns-clause-pairs c = λ t q i r holder held e shows is has pair direct pe oe ie.
    let a = asked_so t q i r c.args.parent.now c.args.place.now holder held shows is has direct pe oe in
    let inside = ap (λ o. meaning (focus o)) ie ∙ inside_shown c.args.place.now e (a.held_shown ∙ ap IsTerm pair) in
    pair_so t q i r c.args.parent.now c.args.place.now holder held e a has c.needs_parens_before.result
    (c.needs_parens_before.ensures.direct e holder.term i held inside a.holder_shown has direct oe ∙ ap (λ angle. needs_pair_at holder.term i angle e) c.is_before_angle-angle.ensures)
