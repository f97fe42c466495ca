-- The siblings beyond a node or token, and the first of some elements that is no trivia.
use Rattle.std.proofs.Common.{◌≡◌, List, [], ◌∷◌, map, drop, Bool, true, false, cond, not, refl, ap, ◌∙◌}
use Rattle.std.specs.Prelude.{Some, option_map}
use Rattle.std.specs.List.{find, filter}
use Rattle.tree_model.specs.declared.direction.Direction.{Direction}
use Rattle.tree_model.specs.declared.direction.Direction.TheVariants.{Next, Prev}
use Rattle.syntax_kind.specs.Kinds.{is_trivia}
use Rattle.tree_model.specs.Tree.{Tree, node, token, kind_of, is_node, IsNode}
use Rattle.tree_model.specs.Cursor.{Cursor, focus, siblings_in, at_node}
use Rattle.lossless_tree.specs.Element.{element_of, is_trivia_element}
use Rattle.lossless_tree.proofs.TriviaLemmas.{trivia_of_element}
use Rattle.tree_model.specs.NearestToken.{is_trivia_token, is_no_trivia}
use Rattle.ras_algo.specs.Algo.{siblings_beyond}

pub first_is_itself : (d : Direction) (c : Cursor) → siblings_in d c ≡ c ∷ siblings_beyond d c
first_is_itself Next c = refl
first_is_itself Prev c = refl

pub find-elements : (l : List Cursor) → find (λ e. not (is_trivia_element e)) (map element_of l) ≡ option_map element_of (find is_no_trivia l)
find-elements [] = refl
find-elements (c ∷ l) =
    ap (λ b. cond (not b) (Some (element_of c)) (find (λ e. not (is_trivia_element e)) (map element_of l))) (trivia_of_element c)
    ∙ here (is_no_trivia c) (find-elements l)
  where
    here : (b : Bool) → find (λ e. not (is_trivia_element e)) (map element_of l) ≡ option_map element_of (find is_no_trivia l) → cond b (Some (element_of c)) (find (λ e. not (is_trivia_element e)) (map element_of l)) ≡ option_map element_of (cond b (Some c) (find is_no_trivia l))
    here true rest = refl
    here false rest = rest

is_node-true : (t : Tree) → IsNode t → is_node t ≡ true
is_node-true (node k f) is = refl
is_node-true (token k s) is = absurd is

-- the sibling nodes without the node itself
pub nodes_beyond : (d : Direction) (c : Cursor) → IsNode (focus c) → drop 1 (filter at_node (siblings_in d c)) ≡ filter at_node (siblings_beyond d c)
nodes_beyond d c is =
    ap (λ l. drop 1 (filter at_node l)) (first_is_itself d c)
    ∙ ap (λ b. drop 1 (cond b (c ∷ filter at_node (siblings_beyond d c)) (filter at_node (siblings_beyond d c)))) (is_node-true (focus c) is)
