use Rattle.std.proofs.Common.{refl, rules, map}
use Rattle.std.specs.Iterator.{YieldsFirst}
use Rattle.std.specs.List.{filter}
use Rattle.tree_model.specs.Cursor.{moves_at_node}
use Rattle.lossless_tree.specs.WalkEvent.{walk_event, node_event, event_of_node}
use Rattle.lossless_tree.proofs.WalkEvents.{same_steps, adds_event}
use Rattle.lossless_tree.proofs.FindLemmas.{found, progress}
use Rattle.lossless_tree.proofs.NodeWalk.{search_is_at_node}
use Rattle.lossless_tree.proofs.cursor.preorder.PreorderIterator.next.Goals as goal
use Rattle.lossless_tree.proofs.cursor.preorder.PreorderIterator.next.Goals.{After-find_map}

steps : (c : After-find_map) → YieldsFirst (map node_event) c.args.self.now c.find_map.result (filter moves_at_node c.find_map.new.self)
steps c = rw (← c.self.view_is) (found walk_event same_steps event_of_node (λ l. map node_event (filter moves_at_node l)) refl adds_event _ (λ f x r h d. (refl, search rules)) _ _ _ _ c.find_map.ensures.ran c.find_map.ensures.runs)

pub returns-clause-steps : goal.returns-clause-steps
returns-clause-steps c = steps c

pub returns-clause-goes : goal.returns-clause-goes
returns-clause-goes c = progress (map node_event) _ _ _ (steps c)

pub invariant_of-self : goal.invariant_of-self
invariant_of-self c =
    search_is_at_node _ (λ f x r h d. (refl, search rules)) _ _ _ _ c.self.invariant c.find_map.ensures.ran
    (found walk_event same_steps event_of_node (λ l. map node_event (filter moves_at_node l)) refl adds_event _ (λ f x r h d. (refl, search rules)) _ _ _ _ c.find_map.ensures.ran c.find_map.ensures.runs)
