-- The labels of items, in one line.
use Rattle.std.specs.Prelude.{ℕ, Bool, true, false, not, ◌||◌, nat_lt, length, if◌then◌else◌, List, [], ◌∷◌, ◌++◌, Option, Some, None, map}
use Rattle.lossless_tree.specs.declared.cursor.element.NodeOrToken.TheVariants as element
use Rattle.lossless_tree.specs.Element.{element_of, is_trivia_element}
use Rattle.syntax_kind.specs.declared.syntax_kind.SyntaxKind.{SyntaxKind}
use Rattle.syntax_kind.specs.declared.syntax_kind.SyntaxKind.TheVariants.{Node}
use Rattle.syntax_kind.specs.declared.syntax_kind.node_kind.NodeKind.TheVariants as kind
use Rattle.syntax_kind.specs.Kinds.{is_trivia}
use Rattle.tree_model.specs.Tree.{text}
use Rattle.tree_model.specs.Cursor.{focus, children_of, descendants_of}
use Rattle.ras_node.specs.Nodes.{kind_at}
use Rattle.rust_report.specs.declared.items.Row.{Row}
use Rattle.rust_report.specs.Outlines.{is_unheaded, label_of}
use Rattle.rust_report.specs.Steps.{Element}
use Rattle.rust_report.specs.Texts.{widest}

-- a token after a line, with a blank between if something was left out there
abbrev pub joined : Bool → List ℕ → List ℕ → List ℕ
joined gap [] t = t
joined true s t = s ++ (32 ∷ t)
joined false s t = s ++ t

-- a line that is longer than what is shown of it
abbrev pub is_full : List ℕ → Bool
is_full line = nat_lt widest (length line)

-- a line, and whether something was left out after it, with a further token: white space and
-- comments are left out, and a node adds nothing
abbrev pub with_token : List ℕ × Bool → Element → List ℕ → List ℕ × Bool
with_token st x t = if is_trivia_element x then (st.0, true) else (joined st.1 st.0 t, false)

abbrev pub with_element : List ℕ × Bool → Element → List ℕ × Bool
with_element st (element.Node c) = st
with_element st (element.Token c) = if is_full st.0 then st else with_token st (element.Token c) (text (focus c))

abbrev pub with_elements : List ℕ × Bool → List Element → List ℕ × Bool
with_elements st [] = st
with_elements st (x ∷ xs) = with_elements (with_element st x) xs

-- a node with the nodes and tokens in it, or a token
abbrev pub elements_in : Element → List Element
elements_in (element.Node c) = map element_of (descendants_of c)
elements_in (element.Token c) = element.Token c ∷ []

-- a child of an `impl` that is part of its label, or white space or a comment
abbrev pub is_part : SyntaxKind → Bool
is_part k = is_trivia k || not (is_unheaded k)

abbrev pub kind_in : Element → SyntaxKind
kind_in (element.Node c) = kind_at c
kind_in (element.Token c) = kind_at c

-- a line with the parts of a label among these children
abbrev pub with_children : List ℕ × Bool → List Element → List ℕ × Bool
with_children st [] = st
with_children st (x ∷ xs) = with_children (if is_part (kind_in x) then with_elements st (elements_in x) else st) xs

abbrev pub line_of : Option Element → List ℕ
line_of None = []
line_of (Some x) = (with_elements ([], false) (elements_in x)).0

abbrev pub line_for : SyntaxKind → Row → List ℕ
line_for (Node kind.IMPL) row = (with_children ([], false) (map element_of (children_of row.item))).0
line_for _ row = line_of (label_of row)

-- the label of an item in one line
abbrev pub label_line : Row → List ℕ
label_line row = line_for (kind_at row.item) row
