use Rattle.std.proofs.Common.{◌∙◌, sym, ap, rules, tests}
use Rattle.std.proofs.lemmas.Iterator.Search.{find_from_yields_List}
use Rattle.std.proofs.lemmas.Iterator.Adapters.{option_map_id}
use Rattle.std.proofs.lemmas.Iterator.Consumers.{YieldsList-from_first}
use Rattle.lossless_tree.specs.Element.{ancestors_of_element}
use Rattle.ras_c.specs.Place.{is_expr_over}
use Rattle.ras_c.proofs.place.expr_over.Goals as goal

pub returns : goal.returns
returns c =
    sym (option_map_id _)
    ∙ find_from_yields_List (is_expr_over c.args.range) _ _ _ c.find.ensures.ran
    (YieldsList-from_first (λ x. x) (λ l. l) _ (c.ancestors.ensures ∙ ap ancestors_of_element c.covering_element.ensures)) (λ x b q k. search (rules, tests))
