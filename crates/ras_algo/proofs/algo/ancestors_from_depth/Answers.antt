use Rattle.std.proofs.Common.{◌≡◌, ◌∙◌, ◌-◌, List, length, drop, ap, length-drop}
use Rattle.std.proofs.lemmas.Iterator.Consumers.{YieldsList-from_first, YieldsList-end}
use Rattle.tree_model.specs.Cursor.{Cursor, ancestors_of}
use Rattle.ras_algo.proofs.CommonAncestors.{one_more}
use Rattle.ras_algo.proofs.algo.ancestors_from_depth.Goals as goal

pub loop-node-preserved : goal.loop-node-preserved
loop-node-preserved c = record { ahead = one_more (ancestors_of c.args.node.now) c.loop-node.yielded c.in-Some._node _ _ c.next-in-loop-node.result c.loop-node.invariant.ahead c.next-in-loop-node.ensures.steps }

pub loop-node-2-preserved : goal.loop-node-2-preserved
loop-node-2-preserved c = record { left = one_more (ancestors_of c.args.node.now) c.loop-node-2.yielded c.in-Some-_node._node _ _ c.next-in-loop-node-2-2.result c.loop-node-2.invariant.left c.next-in-loop-node-2-2.ensures.steps }

pub returns : goal.returns
returns c =
    let others : List Cursor = ancestors_of c.args.other.now in
    let all : List Cursor = ancestors_of c.args.node.now in
    let first : length c.loop-node.yielded ≡ length others = (YieldsList-end (YieldsList-from_first (λ x. x) (λ l. l) others (cc)) c.loop-node.yielded _ c.loop-node.yielded_by _ _ c.in-None.is c.next.ensures.steps).1 in
    let ahead : List Cursor = drop (length c.loop-node.yielded) all in
    let second : length c.loop-node-2.yielded ≡ length ahead = (YieldsList-end (YieldsList-from_first (λ x. x) (λ l. l) ahead (cc)) c.loop-node-2.yielded _ c.loop-node-2.yielded_by _ _ c.in-None-_node.is c.next-in-loop-node-2.ensures.steps).1 in
    c.loop-node-2.invariant.left ∙ ap (λ n. drop n all) (second ∙ length-drop (length c.loop-node.yielded) all ∙ ap (λ n. length all - n) first)
