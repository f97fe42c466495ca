use Rattle.std.proofs.Common.{◌≡◌, true, false, sym, ◌∙◌}
use Rattle.tree_model.specs.Cursor.{focus}
use Rattle.operator_trees.specs.Before.{part_kid}
use Rattle.operator_powers.proofs.Cursors.{not_foreign, not_arguments, operators_asked, place_parent, own_parent, asked_under}
use Rattle.operator_powers.proofs.ask.needs_parens_before.Goals as goal

pub returns-then-is_own_parent-clause-direct : goal.returns-then-is_own_parent-clause-direct
returns-then-is_own_parent-clause-direct c = λ s t i p self shows is direct at.
    c.needs_parens_below.ensures
    ∙ asked_under c.args.own.now c.args.parent.now c.args.place.now c.args.angle (not_foreign (focus c.args.own.now) s self) (not_arguments (focus c.args.parent.now) t shows)
    ∙ operators_asked c.args.own.now c.args.parent.now c.args.place.now c.args.angle s t i p self shows is direct at

pub returns-else-is_own_parent-clause-direct : goal.returns-else-is_own_parent-clause-direct
returns-else-is_own_parent-clause-direct c = λ s t i p self shows is direct at.
    let own = own_parent c.args.parent.now c.args.place.now (place_parent c.args.parent.now c.args.place.now (part_kid t i) at) in
    let bad : false ≡ true = sym c.if-is_own_parent.false ∙ c.is_own_parent.ensures ∙ own in
    cc

pub returns-else-is_own_parent-clause-operators : goal.returns-else-is_own_parent-clause-operators
returns-else-is_own_parent-clause-operators c = λ above form list.
    let own = own_parent c.args.parent.now c.args.place.now above in
    let bad : false ≡ true = sym c.if-is_own_parent.false ∙ c.is_own_parent.ensures ∙ own in
    cc
