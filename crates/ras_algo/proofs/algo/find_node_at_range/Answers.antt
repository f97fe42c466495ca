use Rattle.std.proofs.Common.{◌≡◌, ◌∙◌, sym, ap, rules, tests}
use Rattle.std.specs.Prelude.{option_map}
use Rattle.std.specs.List.{find}
use Rattle.std.proofs.lemmas.Iterator.Search.{find_from_yields_List}
use Rattle.std.proofs.lemmas.Iterator.Consumers.{YieldsList-from_first}
use Rattle.lossless_tree.specs.Element.{ancestors_of_element, element_of}
use Rattle.tree_model.specs.Covering.{covering_of}
use Rattle.ras_node.specs.Nodes.{has_kind_in}
use Rattle.ras_node.proofs.FirstCast.{cast_of_first}
use Rattle.ras_algo.proofs.algo.find_node_at_range.Goals as goal

pub returns-in_err-find : goal.returns-in_err-find
returns-in_err-find g c =
    let found : option_map (λ x. x) c.find.result ≡ find (has_kind_in g.N.AstNode.casts) (ancestors_of_element (element_of (covering_of c.args.syntax.now c.args.range))) = find_from_yields_List (has_kind_in g.N.AstNode.casts) _ _ c.find.result c.find.ensures.ran (YieldsList-from_first (λ x. x) (λ l. l) _ (c.ancestors-nodes.ensures ∙ ap ancestors_of_element c.covering_element.ensures)) (λ x b q k. search (rules, tests)) in
    ap (option_map g.N.AstNode.node) c.from_residual.ensures ∙ sym (ap (option_map (λ x. x)) c.in_err-find.was) ∙ found

pub returns : goal.returns
returns g c =
    let found : option_map (λ x. x) c.find.result ≡ find (has_kind_in g.N.AstNode.casts) (ancestors_of_element (element_of (covering_of c.args.syntax.now c.args.range))) = find_from_yields_List (has_kind_in g.N.AstNode.casts) _ _ c.find.result c.find.ensures.ran (YieldsList-from_first (λ x. x) (λ l. l) _ (c.ancestors-nodes.ensures ∙ ap ancestors_of_element c.covering_element.ensures)) (λ x b q k. search (rules, tests)) in
    cast_of_first g.N.AstNode.casts g.N.AstNode.node _ c.in_ok-find.field-0 c.cast.result (sym found ∙ ap (option_map (λ x. x)) c.in_ok-find.was) c.cast.ensures.exact c.cast.ensures.same
