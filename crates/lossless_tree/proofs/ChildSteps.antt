-- One step over children, nodes and tokens: what is left begins with the child that came.
use Rattle.std.proofs.Common.{◌≡◌, List, [], ◌∷◌, map, true, false, sym, ap, ◌∙◌, refl}
use Rattle.lossless_tree.specs.declared.cursor.element.NodeOrToken.{NodeOrToken}
use Rattle.lossless_tree.specs.declared.cursor.element.NodeOrToken.TheVariants.{Node, Token}
use Rattle.tree_model.specs.Tree.{Tree, node, token, is_node, is_token}
use Rattle.tree_model.specs.Cursor.{Cursor, focus, at_node, at_token}
use Rattle.lossless_tree.specs.Element.{element_of, element_by, cursor_of}
use Rattle.lossless_tree.proofs.NodeLists.{cursor_of-element_by, same_cursors, head_of, tail_of}

-- what is left begins with the child
pub begins : (l m : List Cursor) (x : NodeOrToken Cursor Cursor) → map element_of l ≡ x ∷ map element_of m → l ≡ cursor_of x ∷ m
unfolding head_of tail_of
begins [] m x e = (let no : [] ≡ x ∷ map element_of m = e in cc)
begins (c ∷ l) m x e =
    let first : element_of c ≡ x = ap (head_of x) e in
    let same : c ≡ cursor_of x = sym (cursor_of-element_by (focus c) c) ∙ ap cursor_of first in
    ap (λ y. y ∷ l) same ∙ ap (λ k. cursor_of x ∷ k) (same_cursors l m (ap tail_of e))

-- the child is the element that is at its cursor
pub stands : (l m : List Cursor) (x : NodeOrToken Cursor Cursor) → map element_of l ≡ x ∷ map element_of m → element_of (cursor_of x) ≡ x
unfolding head_of tail_of
stands [] m x e = (let no : [] ≡ x ∷ map element_of m = e in cc)
stands (c ∷ l) m x e =
    let first : element_of c ≡ x = ap (head_of x) e in
    let same : c ≡ cursor_of x = sym (cursor_of-element_by (focus c) c) ∙ ap cursor_of first in
    ap element_of (sym same) ∙ first

pub ended : (l : List Cursor) → map element_of l ≡ [] → l ≡ []
ended [] e = refl
ended (c ∷ l) e = (let no : element_of c ∷ map element_of l ≡ [] = e in cc)

is_node-Node : (t : Tree) (c n : Cursor) → element_by t c ≡ Node n → is_node t ≡ true
is_node-Node (node k f) c n e = refl
is_node-Node (token k s) c n e = (let no : Token c ≡ Node n = e in cc)

is_token-Node : (t : Tree) (c n : Cursor) → element_by t c ≡ Node n → is_token t ≡ false
is_token-Node (node k f) c n e = refl
is_token-Node (token k s) c n e = (let no : Token c ≡ Node n = e in cc)

is_node-Token : (t : Tree) (c n : Cursor) → element_by t c ≡ Token n → is_node t ≡ false
is_node-Token (node k f) c n e = (let no : Node c ≡ Token n = e in cc)
is_node-Token (token k s) c n e = refl

is_token-Token : (t : Tree) (c n : Cursor) → element_by t c ≡ Token n → is_token t ≡ true
is_token-Token (node k f) c n e = (let no : Node c ≡ Token n = e in cc)
is_token-Token (token k s) c n e = refl

-- a child that is a node n: what is left begins with n, which is at a node
pub record NodeStep (l m : List Cursor) (n : Cursor) : Type 0 where
  pub begins : l ≡ n ∷ m
  pub is_node : at_node n ≡ true
  pub is_token : at_token n ≡ false

pub record TokenStep (l m : List Cursor) (n : Cursor) : Type 0 where
  pub begins : l ≡ n ∷ m
  pub is_node : at_node n ≡ false
  pub is_token : at_token n ≡ true

pub node_step : (l m : List Cursor) (x : NodeOrToken Cursor Cursor) (n : Cursor) → map element_of l ≡ x ∷ map element_of m → x ≡ Node n → NodeStep l m n
node_step l m x n e is =
    let same : cursor_of x ≡ n = ap cursor_of is in
    let at : element_of n ≡ Node n = ap element_of (sym same) ∙ stands l m x e ∙ is in
    record { begins = begins l m x e ∙ ap (λ y. y ∷ m) same; is_node = is_node-Node (focus n) n n at; is_token = is_token-Node (focus n) n n at }

pub token_step : (l m : List Cursor) (x : NodeOrToken Cursor Cursor) (n : Cursor) → map element_of l ≡ x ∷ map element_of m → x ≡ Token n → TokenStep l m n
token_step l m x n e is =
    let same : cursor_of x ≡ n = ap cursor_of is in
    let at : element_of n ≡ Token n = ap element_of (sym same) ∙ stands l m x e ∙ is in
    record { begins = begins l m x e ∙ ap (λ y. y ∷ m) same; is_node = is_node-Token (focus n) n n at; is_token = is_token-Token (focus n) n n at }
