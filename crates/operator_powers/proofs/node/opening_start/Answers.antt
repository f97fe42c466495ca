use Rattle.std.proofs.Common.{ap, sym, ◌∙◌}
use Rattle.operator_powers.specs.Rules.{opening_start}
use Rattle.operator_powers.proofs.Steps.{opening_step}
use Rattle.operator_powers.proofs.node.opening_start.Goals as goal

pub loop-left-preserved : goal.loop-left-preserved
loop-left-preserved c =
    ap (λ s. opening_start s.trees s.start) c.rest-left.ensures
    ∙ opening_step c.loop-left.left c.is_list.result (sym c.is_done.ensures ∙ c.loop-left-test.true) c.is_list.ensures c.if-is_list.false
    ∙ c.loop-left.invariant
