use Rattle.std.proofs.Common.{◌∙◌, sym, not, map, ap, drop, rules, tests}
use Rattle.std.specs.List.{find}
use Rattle.std.proofs.lemmas.Iterator.Search.{find_from_yields_List}
use Rattle.std.proofs.lemmas.Iterator.Adapters.{YieldsList-from_skip, option_map_id}
use Rattle.std.proofs.lemmas.Iterator.Consumers.{YieldsList-from_first}
use Rattle.tree_model.specs.Cursor.{siblings_in}
use Rattle.lossless_tree.specs.Element.{element_of, is_trivia_element, cursor_of}
use Rattle.ras_algo.specs.Algo.{siblings_beyond}
use Rattle.ras_algo.proofs.SiblingLists.{first_is_itself, find-elements}
use Rattle.ras_algo.proofs.algo.non_trivia_sibling.Goals as goal

pub returns : goal.returns
returns c =
    let d = c.args.direction in
    let at = cursor_of c.args.element in
    let elements = map element_of (siblings_in d at) in
    let found = find_from_yields_List (λ e. not (is_trivia_element e)) _ _ c.find.result c.find.ensures.ran (YieldsList-from_skip 1 (YieldsList-from_first (λ x. x) (map element_of) elements (ap (map element_of) (c.skip.ensures.source ∙ c.siblings_with_tokens.ensures))) c.skip.ensures.count) (λ x b q k. search (rules, tests)) in
    sym (option_map_id c.find.result) ∙ found ∙ ap (λ l. find (λ e. not (is_trivia_element e)) (drop 1 (map element_of l))) (first_is_itself d at) ∙ find-elements (siblings_beyond d at)
