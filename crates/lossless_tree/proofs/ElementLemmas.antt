-- A node or a token as the element of its kind.
use Rattle.std.proofs.Common.{◌≡◌, refl, ap, false, true}
use Rattle.std.specs.Prelude.{◌↔◌, IsTrue}
use Rattle.lossless_tree.specs.declared.cursor.element.NodeOrToken.{NodeOrToken}
use Rattle.lossless_tree.specs.declared.cursor.element.NodeOrToken.TheVariants.{Node, Token}
use Rattle.tree_model.specs.Tree.{Tree, node, token, IsNode, IsToken}
use Rattle.tree_model.specs.Cursor.{Cursor, focus}
use Rattle.lossless_tree.specs.Element.{element_of, element_by, cursor_of, is_same_element}
use Rattle.tree_model.specs.EqualityLaws.{cursor_Decides}

token_element : (t : Tree) (c : Cursor) → IsToken t → Token c ≡ element_by t c
token_element (token k x) c h = refl
token_element (node k f) c h = absurd h

node_element : (t : Tree) (c : Cursor) → IsNode t → Node c ≡ element_by t c
node_element (token k x) c h = absurd h
node_element (node k f) c h = refl

pub element_of_token : (c : Cursor) → IsToken (focus c) → Token c ≡ element_of c
element_of_token c h = token_element (focus c) c h

pub element_of_node : (c : Cursor) → IsNode (focus c) → Node c ≡ element_of c
element_of_node c h = node_element (focus c) c h

-- the test of elements is true of an element and itself, and of no others
pub element_Decides : (a b : NodeOrToken Cursor Cursor) → IsTrue (is_same_element a b) ↔ (a ≡ b)
element_Decides (Node c) (Node d) = (λ h. ap Node ((cursor_Decides c d).0 h), λ e. (cursor_Decides c d).1 (ap cursor_of e))
element_Decides (Token c) (Token d) = (λ h. ap Token ((cursor_Decides c d).0 h), λ e. (cursor_Decides c d).1 (ap cursor_of e))
element_Decides (Node c) (Token d) = (λ h. (let no : false ≡ true = h in cc), λ e. (let no : Node c ≡ Token d = e in cc))
element_Decides (Token c) (Node d) = (λ h. (let no : false ≡ true = h in cc), λ e. (let no : Token c ≡ Node d = e in cc))
