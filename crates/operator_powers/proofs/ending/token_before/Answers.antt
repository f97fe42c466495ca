use Rattle.std.proofs.Common.{◌≡◌, Some, true, false, sym, ap, ◌∙◌}
use Rattle.tree_model.specs.EqualityLaws.{cursor_Decides}
use Rattle.operator_powers.proofs.LastTokens.{before_first_one, before_other_one, none_first}
use Rattle.operator_powers.proofs.ending.token_before.Goals as goal

pub returns-in-None : goal.returns-in-None
returns-in-None c = λ own before after is parts first. none_first own c.args.token.now before after parts (sym c.in-None.is ∙ first)

pub returns-then-eq : goal.returns-then-eq
returns-then-eq c = λ own before after is parts first.
    let same : c.args.token.now ≡ c.in-Some.first = (cursor_Decides c.args.token.now c.in-Some.first).0 (sym c.eq.ensures ∙ c.if-eq.true) in
    before_first_one c.tokens_stand_together.ensures own c.args.token.now before after is parts (ap (λ x. Some x) same ∙ sym c.in-Some.is ∙ first)

pub returns-else-eq : goal.returns-else-eq
returns-else-eq c = λ own before after is parts first.
    before_other_one c.tokens_stand_together.ensures own c.args.token.now c.prev_token.result before after is parts
    (λ e. let heads : Some c.args.token.now ≡ Some c.in-Some.first = e ∙ sym first ∙ c.in-Some.is in
    let same : c.args.token.now ≡ c.in-Some.first = cc in
    let bad : false ≡ true = sym c.if-eq.false ∙ c.eq.ensures ∙ (cursor_Decides c.args.token.now c.in-Some.first).1 same in
    cc)
    c.prev_token.ensures
