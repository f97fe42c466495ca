use Rattle.std.proofs.Common.{refl, rules}
use Rattle.std.specs.Iterator.{YieldsFirst}
use Rattle.std.specs.List.{filter}
use Rattle.tree_model.specs.Cursor.{at_node}
use Rattle.lossless_tree.specs.Element.{element_of, node_part}
use Rattle.lossless_tree.proofs.NodeLists.{same_cursors, adds_node}
use Rattle.lossless_tree.proofs.FindLemmas.{found, progress}
use Rattle.lossless_tree.proofs.cursor.descendants.DescendantsIterator.next.Goals as goal
use Rattle.lossless_tree.proofs.cursor.descendants.DescendantsIterator.next.Goals.{After-find_map}

steps : (c : After-find_map) → YieldsFirst (λ left. left) c.args.self.now c.find_map.result (filter at_node c.find_map.new.self)
steps c = rw (← c.self.view_is) (found element_of same_cursors node_part (filter at_node) refl adds_node _ (λ f x r h d. (refl, search rules)) _ _ _ _ c.find_map.ensures.ran c.find_map.ensures.runs)

pub returns-clause-steps : goal.returns-clause-steps
returns-clause-steps c = steps c

pub returns-clause-goes : goal.returns-clause-goes
returns-clause-goes c = progress (λ left. left) _ _ _ (steps c)
