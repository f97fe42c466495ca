-- Texts and trees with one piece in the place of another. (Upstream: `replace_with` of `rowan`'s
-- `SyntaxNode` and `SyntaxToken`, and rust-analyzer's text edit `Indel`.)
use Rattle.std.specs.Prelude.{◌≡◌, ◌↔◌, ℕ, zero, suc, ◌+◌, ◌-◌, ◌≤◌, List, [], ◌∷◌, ◌++◌, length, take, drop, ⊤, ◌<◌}
use Rattle.tree_model.specs.Cursor.{Cursor}
use Rattle.tree_model.specs.Tree.{Tree, node, token, Forest, nil, cons, text, forest_of_children, child_at, child_count, Place, IsPlace, subtree, start}

-- the cursor at the root of a tree
abbrev pub root_of : Tree → Cursor
root_of t = record { tree = t; place = [] }

-- the text with new in place of its bytes from a up to b
abbrev pub splice : List ℕ → ℕ → ℕ → List ℕ → List ℕ
splice s a b new = take a s ++ (new ++ drop b s)

-- the forest with u in place of child number i
abbrev pub set_child : Forest → ℕ → Tree → Forest
set_child nil i u = nil
set_child (cons t r) zero u = cons u r
set_child (cons t r) (suc i) u = cons t (set_child r i u)

abbrev pub with_child : Tree → ℕ → Tree → Tree
with_child (node k c) i u = node k (set_child c i u)
with_child (token k t) i u = token k t

-- the tree with the piece u in place of the node or token at a place
abbrev pub replace : Tree → Place → Tree → Tree
replace t [] u = u
replace t (i ∷ p) u = with_child t i (replace (child_at (forest_of_children t) i) p u)

-- the place can be reached, one child after another; for inductions over places
abbrev pub Within : Tree → Place → Type 0
Within t [] = ⊤
Within t (i ∷ p) = (i < child_count (forest_of_children t)) × Within (child_at (forest_of_children t) i) p

-- where the text of a place ends
abbrev pub end : Tree → Place → ℕ
end t p = start t p + length (text (subtree t p))

-- the text before a place, and after it
abbrev pub text_before : Tree → Place → List ℕ
text_before t p = take (start t p) (text t)

abbrev pub text_behind : Tree → Place → List ℕ
text_behind t p = drop (end t p) (text t)

-- the places of the list are those that can be reached
abbrev pub PlacesAreReached : Type 0
PlacesAreReached = (t : Tree) (p : Place) → IsPlace t p ↔ Within t p

-- the whole text is what precedes a place, at it and after it, and the place starts where the first
-- part ends
abbrev pub TextAround : Type 0
TextAround =
    (t : Tree) (p : Place) → IsPlace t p
    → (text t ≡ text_before t p ++ (text (subtree t p) ++ text_behind t p)) × (length (text_before t p) ≡ start t p)

-- a place ends within the text
abbrev pub PlacesEndWithin : Type 0
PlacesEndWithin = (t : Tree) (p : Place) → IsPlace t p → end t p ≤ length (text t)

-- the root's place is one of the tree's
abbrev pub RootIsPlace : Type 0
RootIsPlace = (t : Tree) → IsPlace t []

-- the text of a tree with a piece replaced is the spliced text, and the piece is at its place
abbrev pub ReplacedText : Type 0
ReplacedText =
    (t : Tree) (p : Place) (u : Tree) → IsPlace t p
    → (text (replace t p u) ≡ splice (text t) (start t p) (end t p) (text u)) × (subtree (replace t p u) p ≡ u) × (start (replace t p u) p ≡ start t p)

-- where the new piece's text is the old one's with bytes a to b of the whole text replaced, so is
-- the new tree's
abbrev pub EditedInside : Type 0
EditedInside =
    (t : Tree) (p : Place) (u : Tree) (a b : ℕ) (new : List ℕ) → IsPlace t p
    → start t p ≤ a → a ≤ b → b ≤ end t p
    → text u ≡ splice (text (subtree t p)) (a - start t p) (b - start t p) new
    → text (replace t p u) ≡ splice (text t) a b new
