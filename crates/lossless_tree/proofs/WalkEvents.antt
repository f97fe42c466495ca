-- The events at nodes: what a filter keeps at each step of a walk.
use Rattle.std.proofs.Common.{◌≡◌, List, [], ◌∷◌, map, cond, Bool, true, false, refl, sym, ap, ◌∙◌}
use Rattle.std.specs.Prelude.{MatchOption}
use Rattle.std.specs.List.{filter}
use Rattle.lossless_tree.specs.declared.cursor.element.NodeOrToken.{NodeOrToken}
use Rattle.lossless_tree.specs.declared.cursor.preorder.WalkEvent.{WalkEvent}
use Rattle.lossless_tree.specs.declared.cursor.preorder.WalkEvent.TheVariants.{Enter, Leave}
use Rattle.tree_model.specs.Tree.{Tree, node, token, is_node}
use Rattle.tree_model.specs.Cursor.{Cursor, focus, moves_at_node}
use Rattle.lossless_tree.specs.Element.{element_by, cursor_of}
use Rattle.lossless_tree.specs.WalkEvent.{walk_event, node_event, event_of_node}
use Rattle.tree_model.proofs.At.{cong₂}
use Rattle.lossless_tree.proofs.NodeLists.{cursor_of-element_by}

step_of : WalkEvent (NodeOrToken Cursor Cursor) → Bool × Cursor
step_of (Enter x) = (true, cursor_of x)
step_of (Leave x) = (false, cursor_of x)

step_of-walk_event : (w : Bool × Cursor) → step_of (walk_event w) ≡ w
unfolding step_of
step_of-walk_event (true, c) = ap (λ d. (true, d)) (cursor_of-element_by (focus c) c)
step_of-walk_event (false, c) = ap (λ d. (false, d)) (cursor_of-element_by (focus c) c)

steps_back : (l : List (Bool × Cursor)) → map step_of (map walk_event l) ≡ l
steps_back [] = refl
steps_back (w ∷ l) = cong₂ ◌∷◌ (step_of-walk_event w) (steps_back l)

pub same_steps : (l m : List (Bool × Cursor)) → map walk_event l ≡ map walk_event m → l ≡ m
same_steps l m e = sym (steps_back l) ∙ ap (map step_of) e ∙ steps_back m

-- a filter keeps an event where it is at a node
pub adds_event : (w : Bool × Cursor) (l : List (Bool × Cursor))
    → MatchOption (event_of_node (walk_event w)) (map node_event (filter moves_at_node (w ∷ l)) ≡ map node_event (filter moves_at_node l)) (λ n. map node_event (filter moves_at_node (w ∷ l)) ≡ n ∷ map node_event (filter moves_at_node l))
adds_event (true, c) l = entered (focus c) c (filter moves_at_node l)
  where
    entered : (t : Tree) (c : Cursor) (k : List (Bool × Cursor))
        → MatchOption (event_of_node (Enter (element_by t c))) (map node_event (cond (is_node t) ((true, c) ∷ k) k) ≡ map node_event k) (λ n. map node_event (cond (is_node t) ((true, c) ∷ k) k) ≡ n ∷ map node_event k)
    entered (node k f) c l = refl
    entered (token k s) c l = refl
adds_event (false, c) l = left (focus c) c (filter moves_at_node l)
  where
    left : (t : Tree) (c : Cursor) (k : List (Bool × Cursor))
        → MatchOption (event_of_node (Leave (element_by t c))) (map node_event (cond (is_node t) ((false, c) ∷ k) k) ≡ map node_event k) (λ n. map node_event (cond (is_node t) ((false, c) ∷ k) k) ≡ n ∷ map node_event k)
    left (node k f) c l = refl
    left (token k s) c l = refl
