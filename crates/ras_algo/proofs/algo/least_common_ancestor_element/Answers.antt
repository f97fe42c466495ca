use Rattle.std.proofs.Common.{◌∙◌, sym, ap}
use Rattle.std.specs.Option.{option_and_then}
use Rattle.ras_algo.specs.Algo.{common_ancestor, nearest_node}
use Rattle.ras_algo.proofs.CommonAncestors.{first_is_nearest}
use Rattle.ras_algo.proofs.algo.least_common_ancestor_element.Goals as goal

pub returns-in_err-next : goal.returns-in_err-next
returns-in_err-next c =
    c.from_residual.ensures
    ∙ ap (option_and_then (λ a. option_and_then (common_ancestor a) (nearest_node c.args.v))) (sym c.in_err-next.was ∙ first_is_nearest c.args.u _ _ c.next.result c.ancestors.ensures c.next.ensures.steps)

pub returns-in_err-next-2 : goal.returns-in_err-next-2
returns-in_err-next-2 c =
    c.from_residual-in_err-next-2.ensures
    ∙ ap (option_and_then (common_ancestor c.in_ok-next.field-0)) (sym c.in_err-next-2.was ∙ first_is_nearest c.args.v _ _ c.next-2.result c.ancestors-3.ensures c.next-2.ensures.steps)
    ∙ ap (option_and_then (λ a. option_and_then (common_ancestor a) (nearest_node c.args.v))) (sym c.in_ok-next.was ∙ first_is_nearest c.args.u _ _ c.next.result c.ancestors.ensures c.next.ensures.steps)

pub returns : goal.returns
returns c =
    c.least_common_ancestor-3.ensures
    ∙ ap (option_and_then (common_ancestor c.in_ok-next.field-0)) (sym c.in_ok-next-2.was ∙ first_is_nearest c.args.v _ _ c.next-2.result c.ancestors-3.ensures c.next-2.ensures.steps)
    ∙ ap (option_and_then (λ a. option_and_then (common_ancestor a) (nearest_node c.args.v))) (sym c.in_ok-next.was ∙ first_is_nearest c.args.u _ _ c.next.result c.ancestors.ensures c.next.ensures.steps)
