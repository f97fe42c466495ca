-- The elements of a label, one after the other.
use Rattle.std.proofs.Common.{◌≡◌, ◌∙◌, Bool, true, false, if◌then◌else◌, ℕ, List, [], ◌∷◌, map, sym, ap, refl}
use Rattle.syntax_kind.specs.declared.syntax_kind.SyntaxKind.{SyntaxKind}
use Rattle.syntax_kind.specs.declared.syntax_kind.SyntaxKind.TheVariants.{Node}
use Rattle.syntax_kind.specs.declared.syntax_kind.node_kind.NodeKind.TheVariants as kind
use Rattle.syntax_kind.specs.declared.syntax_kind.TheConstants.SyntaxKind.{IMPL}
use Rattle.syntax_kind.specs.Kinds.{is_same_kind}
use Rattle.syntax_kind.specs.KindLaws.{is_same_kind-equal}
use Rattle.tree_model.specs.Tree.{text}
use Rattle.tree_model.specs.Cursor.{focus, children_of}
use Rattle.lossless_tree.specs.declared.cursor.element.NodeOrToken.TheVariants as element
use Rattle.lossless_tree.specs.Element.{element_of}
use Rattle.ras_node.specs.Nodes.{kind_at, is_of_kind}
use Rattle.rust_report.specs.declared.items.Row.{Row}
use Rattle.rust_report.specs.Outlines.{label_of}
use Rattle.rust_report.specs.Steps.{Element}
use Rattle.rust_report.specs.Labels.{is_full, with_token, with_element, with_elements, with_children, line_of, line_for, label_line}

pub stepped : (st : List ℕ × Bool) (o : List ℕ) (g : Bool) (x : Element) (xs ys : List Element)
    → ys ≡ x ∷ xs → (o, g) ≡ with_element st x → with_elements (o, g) xs ≡ with_elements st ys
stepped st o g x xs ys e is = ap (λ k. with_elements k xs) is ∙ ap (with_elements st) (sym e)

pub ended : (st : List ℕ × Bool) (ys : List Element) → ys ≡ [] → st ≡ with_elements st ys
ended st ys e = ap (with_elements st) (sym e)

full_element : (st : List ℕ × Bool) (x : Element) → is_full st.0 ≡ true → with_element st x ≡ st
full_element st (element.Node c) h = refl
full_element st (element.Token c) h = ap (λ b. if b then st else with_token st (element.Token c) (text (focus c))) h

full_elements : (st : List ℕ × Bool) (xs : List Element) → is_full st.0 ≡ true → with_elements st xs ≡ st
full_elements st [] h = refl
full_elements st (x ∷ xs) h = ap (λ k. with_elements k xs) (full_element st x h) ∙ full_elements st xs h

-- a full line gets no more tokens
pub filled : (st : List ℕ × Bool) (ys : List Element) (whole : List ℕ × Bool) → is_full st.0 ≡ true → with_elements st ys ≡ whole → st ≡ whole
filled st ys whole h e = sym (full_elements st ys h) ∙ e

-- the line of an `impl`
pub impl_line : (row : Row) → is_of_kind IMPL row.item ≡ true → (with_children ([], false) (map element_of (children_of row.item))).0 ≡ label_line row
impl_line row h = sym (ap (λ k. line_for k row) ((is_same_kind-equal (kind_at row.item) IMPL).0 h))

other_line_for : (k : SyntaxKind) (row : Row) → is_same_kind k IMPL ≡ false → line_of (label_of row) ≡ line_for k row
other_line_for (Node kind.IMPL) row h = absurd (let no : true ≡ false = h in cc)
other_line_for _ row h = refl

-- the line of another item
pub other_line : (row : Row) → is_of_kind IMPL row.item ≡ false → line_of (label_of row) ≡ label_line row
other_line row h = other_line_for (kind_at row.item) row h
