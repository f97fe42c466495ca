-- Elements by rows.
use Rattle.std.proofs.Common.{◌≡◌, ℕ, ◌+◌, ◌<◌, ◌≤◌, List, [], ◌∷◌, ◌++◌, length, drop, get_or, refl, sym, ap, ◌∙◌, subst, arith, append_assoc, append-nil}
use Rattle.std.proofs.lemmas.List.{drop_more, drop_all}
use Rattle.tree_model.specs.Tree.{Tree, node, token, size, IsNode}
use Rattle.tree_model.specs.Rows.{tree_at}
use Rattle.tree_model.specs.Cursor.{Cursor, cursor_at, focus}
use Rattle.tree_model.specs.Edit.{root_of}
use Rattle.tree_model.proofs.TableLemmas.{at_row}
use Rattle.lossless_tree.specs.declared.cursor.element.NodeOrToken.{NodeOrToken}
use Rattle.lossless_tree.specs.declared.cursor.element.NodeOrToken.TheVariants.{Node}
use Rattle.lossless_tree.specs.Element.{cursor_of, element_of}
use Rattle.tree_edits.proofs.RowLemmas.{row_at_place}
use Rattle.tree_edits.specs.Session.{Session, at_of, result_of}
use Rattle.tree_edit_model.proofs.TextLemmas.{changed_text}
use Rattle.syntax_editor.specs.Spot.{Spot, row_at, spot_of}
use Rattle.syntax_editor.specs.Editor.{trees_of, IsEditedText}

-- the row of the cursor at a row
row_of_row : (tree : Tree) (n : ℕ) → n < size tree → row_at (cursor_at tree n) ≡ n
row_of_row tree n h = row_at_place (at_row tree n h)

pub spot_is : (c : Cursor) (tree : Tree) (n : ℕ) → tree ≡ c.tree → n < size c.tree → cursor_at c.tree n ≡ c → record { tree = tree; row = n } ≡ spot_of c
spot_is c tree n e h is =
    ap (λ t. spot t n) e ∙ ap (spot c.tree) (sym (row_of_row c.tree n h)) ∙ ap (λ d. spot c.tree (row_at d)) is
  where
    spot : Tree → ℕ → Spot
    spot t m = record { tree = t; row = m }

-- what is at the row of a cursor
pub tree_of_spot : (c : Cursor) (n : ℕ) → n < size c.tree → cursor_at c.tree n ≡ c → tree_at c.tree (row_at c) ≡ focus c
tree_of_spot c n h is = ap (λ d. tree_at c.tree (row_at d)) (sym is) ∙ ap (tree_at c.tree) (row_of_row c.tree n h) ∙ ap focus is

pub root_element : (tree : Tree) → IsNode tree → element_of (cursor_at tree 0) ≡ Node (root_of tree)
root_element (node k c) h = refl
root_element (token k t) h = absurd h

pub some_size : (tree : Tree) → 0 < size tree
some_size (node k c) = omega arith
some_size (token k t) = omega arith

pub elements-step : (out out' whole : List Tree) (es : List (NodeOrToken Cursor Cursor)) (i : ℕ) (e : NodeOrToken Cursor Cursor) (t : Tree) → i < length es → get_or es i e ≡ e → t ≡ focus (cursor_of e) → out' ≡ out ++ t ∷ []
    → out ++ trees_of (drop i es) ≡ whole → out' ++ trees_of (drop (i + 1) es) ≡ whole
elements-step out out' whole es i e t lt is is_t added h =
    let cut : drop i es ≡ e ∷ drop (i + 1) es = drop_more es i e lt ∙ ap (λ x. x ∷ drop (i + 1) es) is in
    ap (λ l. l ++ trees_of (drop (i + 1) es)) added ∙ append_assoc out (t ∷ []) (trees_of (drop (i + 1) es)) ∙ ap (λ x. out ++ x ∷ trees_of (drop (i + 1) es)) is_t ∙ ap (λ l. out ++ trees_of l) (sym cut) ∙ h

pub elements-end : (out whole : List Tree) (es : List (NodeOrToken Cursor Cursor)) (i : ℕ) → length es ≤ i → out ++ trees_of (drop i es) ≡ whole → out ≡ whole
elements-end out whole es i h e = sym (append-nil out) ∙ ap (λ l. out ++ trees_of l) (sym (drop_all i es h)) ∙ e

-- the text at the root of the changed tree
pub text_of_root : (s : Session) (c : Cursor) → c ≡ root_of (result_of s) → IsEditedText s (focus c)
text_of_root s c is = subst (λ d. IsEditedText s (focus d)) (sym is) (changed_text (at_of s) s.tree).1
