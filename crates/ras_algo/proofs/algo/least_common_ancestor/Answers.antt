use Rattle.std.proofs.Common.{◌≡◌, ◌∙◌, sym, ap, rules, tests}
use Rattle.std.specs.Prelude.{option_map}
use Rattle.std.specs.List.{find, zip}
use Rattle.std.proofs.lemmas.Iterator.{YieldsList-from_zip}
use Rattle.std.proofs.lemmas.Iterator.Search.{find_from_yields_List}
use Rattle.std.proofs.lemmas.Iterator.Consumers.{YieldsList-from_first}
use Rattle.ras_algo.proofs.CommonAncestors.{root_from_last, equal_roots, unequal_roots, common_of_equal, first_pair, is_same_pair, chain_from_depth}
use Rattle.ras_algo.proofs.algo.least_common_ancestor.Goals as goal

pub returns-then-ne : goal.returns-then-ne
returns-then-ne c =
    sym (unequal_roots c.args.u.now c.args.v.now c.last.result c.last-2.result (root_from_last c.args.u.now _ c.last.result c.ancestors.ensures c.last.ensures.ran) (root_from_last c.args.v.now _ c.last-2.result c.ancestors-2.ensures c.last-2.ensures.ran) (sym c.ne.ensures ∙ c.if-ne.true))

pub returns-in_err-ancestor : goal.returns-in_err-ancestor
returns-in_err-ancestor c =
    let u = c.args.u.now in
    let v = c.args.v.now in
    let trees : u.tree ≡ v.tree = equal_roots u v c.last.result c.last-2.result (root_from_last u _ c.last.result c.ancestors.ensures c.last.ensures.ran) (root_from_last v _ c.last-2.result c.ancestors-2.ensures c.last-2.ensures.ran) (sym c.ne.ensures ∙ c.if-ne.false) in
    let found : option_map (λ p. (p.0, p.1)) c.find.result ≡ find is_same_pair (zip (chain_from_depth u v) (chain_from_depth v u)) = find_from_yields_List is_same_pair _ _ c.find.result c.find.ensures.ran
    (YieldsList-from_zip (YieldsList-from_first (λ x. x) (λ l. l) (chain_from_depth u v) (c.zip-candidates.ensures.first ∙ c.ancestors_from_depth.ensures)) (YieldsList-from_first (λ x. x) (λ l. l) (chain_from_depth v u) (c.zip-candidates.ensures.second ∙ c.ancestors_from_depth-2.ensures))) (λ x b q k. search (rules, tests)) in
    c.from_residual.ensures ∙ ap (option_map (λ p. p.0)) (sym (ap (option_map (λ p. (p.0, p.1))) c.in_err-ancestor.was) ∙ found ∙ first_pair u v trees) ∙ sym (common_of_equal u v trees)

pub returns : goal.returns
returns c =
    let u = c.args.u.now in
    let v = c.args.v.now in
    let trees : u.tree ≡ v.tree = equal_roots u v c.last.result c.last-2.result (root_from_last u _ c.last.result c.ancestors.ensures c.last.ensures.ran) (root_from_last v _ c.last-2.result c.ancestors-2.ensures c.last-2.ensures.ran) (sym c.ne.ensures ∙ c.if-ne.false) in
    let found : option_map (λ p. (p.0, p.1)) c.find.result ≡ find is_same_pair (zip (chain_from_depth u v) (chain_from_depth v u)) = find_from_yields_List is_same_pair _ _ c.find.result c.find.ensures.ran
    (YieldsList-from_zip (YieldsList-from_first (λ x. x) (λ l. l) (chain_from_depth u v) (c.zip-candidates.ensures.first ∙ c.ancestors_from_depth.ensures)) (YieldsList-from_first (λ x. x) (λ l. l) (chain_from_depth v u) (c.zip-candidates.ensures.second ∙ c.ancestors_from_depth-2.ensures))) (λ x b q k. search (rules, tests)) in
    ap (option_map (λ p. p.0)) (sym (ap (option_map (λ p. (p.0, p.1))) c.in_ok-ancestor.was) ∙ found ∙ first_pair u v trees) ∙ sym (common_of_equal u v trees)
