use Rattle.std.proofs.Common.{◌≡◌, ◌∙◌, List, sym, ap, drop, subst, rules, tests}
use Rattle.std.specs.Prelude.{option_map}
use Rattle.std.specs.List.{find, filter}
use Rattle.std.proofs.lemmas.Iterator.Search.{find_from_yields_List}
use Rattle.std.proofs.lemmas.Iterator.Adapters.{YieldsList-from_skip}
use Rattle.std.proofs.lemmas.Iterator.Consumers.{YieldsList-from_first}
use Rattle.tree_model.specs.Tree.{IsNode}
use Rattle.tree_model.specs.Cursor.{Cursor, focus, at_node, siblings_in}
use Rattle.ras_node.specs.Nodes.{has_kind_in}
use Rattle.ras_node.proofs.FirstCast.{cast_of_first}
use Rattle.ras_algo.proofs.SiblingLists.{nodes_beyond}
use Rattle.ras_algo.proofs.algo.neighbor.Goals as goal

pub returns-in_err-find : goal.returns-in_err-find
returns-in_err-find g c =
    let d = c.args.direction in
    let me : Cursor = g.T.AstNode.node c.args.me.now in
    let all : List Cursor = filter at_node (siblings_in d me) in
    let is : c.siblings.result ≡ all = c.siblings.ensures ∙ ap (λ n. filter at_node (siblings_in d n)) c.syntax-node.ensures in
    let found : option_map (λ x. x) c.find.result ≡ find (has_kind_in g.T.AstNode.casts) (drop 1 all) = find_from_yields_List (has_kind_in g.T.AstNode.casts) _ _ c.find.result c.find.ensures.ran (YieldsList-from_skip 1 (YieldsList-from_first (λ x. x) (λ l. l) all (c.skip-siblings.ensures.source ∙ is)) c.skip-siblings.ensures.count) (λ x b q k. search (rules, tests)) in
    let beyond = ap (find (has_kind_in g.T.AstNode.casts)) (nodes_beyond d me (subst (λ n. IsNode (focus n)) c.syntax-node.ensures c.node_is_placed.ensures.node)) in
    ap (option_map g.T.AstNode.node) c.from_residual.ensures ∙ sym (ap (option_map (λ x. x)) c.in_err-find.was) ∙ found ∙ beyond

pub returns : goal.returns
returns g c =
    let d = c.args.direction in
    let me : Cursor = g.T.AstNode.node c.args.me.now in
    let all : List Cursor = filter at_node (siblings_in d me) in
    let is : c.siblings.result ≡ all = c.siblings.ensures ∙ ap (λ n. filter at_node (siblings_in d n)) c.syntax-node.ensures in
    let found : option_map (λ x. x) c.find.result ≡ find (has_kind_in g.T.AstNode.casts) (drop 1 all) = find_from_yields_List (has_kind_in g.T.AstNode.casts) _ _ c.find.result c.find.ensures.ran (YieldsList-from_skip 1 (YieldsList-from_first (λ x. x) (λ l. l) all (c.skip-siblings.ensures.source ∙ is)) c.skip-siblings.ensures.count) (λ x b q k. search (rules, tests)) in
    let beyond = ap (find (has_kind_in g.T.AstNode.casts)) (nodes_beyond d me (subst (λ n. IsNode (focus n)) c.syntax-node.ensures c.node_is_placed.ensures.node)) in
    cast_of_first g.T.AstNode.casts g.T.AstNode.node (drop 1 all) c.in_ok-find.field-0 c.cast.result (sym found ∙ ap (option_map (λ x. x)) c.in_ok-find.was) c.cast.ensures.exact c.cast.ensures.same ∙ beyond
