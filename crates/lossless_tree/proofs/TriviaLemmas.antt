-- The first of some elements that is no trivia.
use Rattle.std.proofs.Common.{◌≡◌, List, [], ◌∷◌, map, cond, Bool, true, false, refl, sym, ap, ◌∙◌}
use Rattle.std.specs.Prelude.{Some, None, option_map, not}
use Rattle.std.specs.List.{find}
use Rattle.lossless_tree.specs.declared.cursor.element.NodeOrToken.{NodeOrToken}
use Rattle.syntax_kind.specs.Kinds.{is_trivia}
use Rattle.tree_model.specs.Tree.{Tree, node, token, kind_of}
use Rattle.tree_model.specs.Cursor.{Cursor, focus}
use Rattle.lossless_tree.specs.Element.{element_of, element_by, is_trivia_element}
use Rattle.tree_model.specs.NearestToken.{is_trivia_token, is_no_trivia}
use Rattle.lossless_tree.proofs.NodeLists.{head_of, tail_of, same_cursors}

-- the test of an element is that of the node or token at its cursor
pub trivia_of_element : (c : Cursor) → is_trivia_element (element_of c) ≡ is_trivia_token (focus c)
trivia_of_element c = here (focus c) refl
  where
    here : (t : Tree) → focus c ≡ t → is_trivia_element (element_by t c) ≡ is_trivia_token t
    here (node k f) e = refl
    here (token k s) e = ap (λ t. is_trivia (kind_of t)) e

-- the first of the elements is no trivia: it is found
pub found_here : (l m : List Cursor) (x : NodeOrToken Cursor Cursor) (t : Bool) → map element_of l ≡ x ∷ map element_of m → t ≡ is_trivia_element x → t ≡ false → Some x ≡ option_map element_of (find is_no_trivia l)
unfolding head_of
found_here [] m x t e is none = (let clash : [] ≡ x ∷ map element_of m = e in cc)
found_here (c ∷ l) m x t e is none =
    let first : element_of c ≡ x = ap (head_of x) e in
    let test : is_no_trivia c ≡ true = ap not (sym (trivia_of_element c) ∙ ap is_trivia_element first ∙ sym is ∙ none) in
    sym (ap (λ b. option_map element_of (cond b (Some c) (find is_no_trivia l))) test ∙ ap Some first)

-- it is trivia: it is passed over
pub passed_over : (l m : List Cursor) (x : NodeOrToken Cursor Cursor) (t : Bool) → map element_of l ≡ x ∷ map element_of m → t ≡ is_trivia_element x → t ≡ true → find is_no_trivia l ≡ find is_no_trivia m
unfolding head_of tail_of
passed_over [] m x t e is some = (let clash : [] ≡ x ∷ map element_of m = e in cc)
passed_over (c ∷ l) m x t e is some =
    let test : is_no_trivia c ≡ false = ap not (sym (trivia_of_element c) ∙ ap is_trivia_element (ap (head_of x) e) ∙ sym is ∙ some) in
    ap (λ b. cond b (Some c) (find is_no_trivia l)) test ∙ ap (find is_no_trivia) (same_cursors l m (ap tail_of e))

pub none_found : (l : List Cursor) → map element_of l ≡ [] → None ≡ option_map element_of (find is_no_trivia l)
none_found [] e = refl
none_found (c ∷ l) e = (let clash : element_of c ∷ map element_of l ≡ [] = e in cc)
