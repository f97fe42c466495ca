use Rattle.std.proofs.Common.{◌≡◌, Bool, true, false, not, ◌&&◌, cond, refl, ap, ◌∙◌}
use Rattle.operator_terms.specs.Reading.{begins_with_angle}
use Rattle.operator_trees.specs.Leaves.{leaves_behind}
use Rattle.operator_powers.specs.Rules.{form_at, is_arguments, operators_ask, asks_under}
use Rattle.operator_powers.proofs.Cursors.{own_parent}
use Rattle.operator_pairs.proofs.test.is_asked.Goals as goal

unless : (b x : Bool) → (not b && x) ≡ cond b false x
unless true x = refl
unless false x = refl

pub returns-clause-asks : goal.returns-clause-asks
returns-clause-asks c = λ above form.
    let own = c.args.own.now in
    let parent = c.args.parent.now in
    let place = c.args.place.now in
    let angle : Bool = begins_with_angle (leaves_behind place.tree place.place) in
    c.needs_parens_in_place_of.ensures.everywhere
    ∙ ap (λ b. b && asks_under own parent place angle) (own_parent parent place above)
    ∙ ap (λ b. not (is_arguments (form_at parent)) && (not b && operators_ask own parent place angle)) form
    ∙ unless (is_arguments (form_at parent)) (operators_ask own parent place angle)
