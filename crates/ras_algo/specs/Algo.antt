-- The results of the functions of `algo`: walks and chains of ancestors, filtered. (Upstream:
-- rust-analyzer's `algo`. That the left chain comes first at equal lengths is a rule of this
-- crate.)
use Rattle.std.specs.Prelude.{◌≡◌, ◌==◌, ℕ, Contains, List, [], ◌∷◌, ◌++◌, length, take, drop, reverse, Bool, true, false, not, nat_lt, if◌then◌else◌, Option, None, Some}
use Rattle.std.specs.Option.{option_and_then}
use Rattle.std.specs.List.{prefix_len, find}
use Rattle.tree_model.specs.declared.direction.Direction.{Direction}
use Rattle.tree_model.specs.declared.direction.Direction.TheVariants.{Next, Prev}
use Rattle.lossless_tree.specs.declared.cursor.element.NodeOrToken.{NodeOrToken}
use Rattle.lossless_tree.specs.declared.cursor.element.NodeOrToken.TheVariants.{Node, Token}
use Rattle.syntax_kind.specs.declared.syntax_kind.TheConstants.SyntaxKind.{WHITESPACE, ERROR}
use Rattle.syntax_kind.specs.Kinds.{is_trivia}
use Rattle.tree_model.specs.Tree.{Place, text}
use Rattle.tree_model.specs.Cursor.{Cursor, focus, at_place, at_token, parent_of, ancestors_of, ancestors_from, following_of, preceding_of, descendants_of}
use Rattle.tree_model.specs.Equality.{is_same_tree}
use Rattle.tree_model.specs.NearestToken.{tokens_beyond}
use Rattle.tree_model.specs.TokenSearch.{tokens_at}
use Rattle.ras_node.specs.Nodes.{kind_at, is_of_kind}

-- the siblings after a cursor in order, or those before it, the nearest first
abbrev pub siblings_beyond : Direction → Cursor → List Cursor
siblings_beyond Next c = following_of c
siblings_beyond Prev c = preceding_of c

-- the token, and the tokens of the whole tree after it in a direction
abbrev pub tokens_from : Direction → Cursor → List Cursor
tokens_from d c = c ∷ tokens_beyond d c

-- the same from the token that is next, if there is one
abbrev pub tokens_left : Direction → Option Cursor → List Cursor
tokens_left d None = []
tokens_left d (Some c) = tokens_from d c

-- the first token of a node or token, and the last; a token is its own
abbrev pub first_token_of : NodeOrToken Cursor Cursor → Option Cursor
first_token_of (Node c) = find at_token (descendants_of c)
first_token_of (Token c) = Some c

abbrev pub last_token_of : NodeOrToken Cursor Cursor → Option Cursor
last_token_of (Node c) = find at_token (reverse (descendants_of c))
last_token_of (Token c) = Some c

-- tests of the node or token at a cursor: its kind is not trivia; it is not WHITESPACE; it is ERROR
abbrev pub has_no_trivia_kind : Cursor → Bool
has_no_trivia_kind c = not (is_trivia (kind_at c))

abbrev pub is_no_whitespace : Cursor → Bool
is_no_whitespace c = not (is_of_kind WHITESPACE c)

abbrev pub is_error : Cursor → Bool
is_error c = is_of_kind ERROR c

-- the longest common prefix of two places
abbrev pub common_front : Place → Place → Place
common_front [] q = []
common_front (i ∷ p) [] = []
common_front (i ∷ p) (j ∷ q) = if i == j then i ∷ common_front p q else []

-- the deepest node that is an ancestor of two nodes of equal trees, each counted as its own
-- ancestor; there is no such node in unequal trees
abbrev pub common_ancestor : Cursor → Cursor → Option Cursor
common_ancestor u v = if is_same_tree u.tree v.tree then Some (at_place u (common_front u.place v.place)) else None

-- the result is an ancestor of both, and each ancestor of both is one of its own ancestors
abbrev pub CommonAncestorIsDeepest : Type 0
CommonAncestorIsDeepest =
    (u v d : Cursor) → common_ancestor u v ≡ Some d
    → Contains (ancestors_of u) d × Contains (ancestors_of v) d × ((a : Cursor) → Contains (ancestors_of u) a → Contains (ancestors_of v) a → Contains (ancestors_of d) a)

-- the node itself, or the token's parent
abbrev pub nearest_node : NodeOrToken Cursor Cursor → Option Cursor
nearest_node (Node c) = Some c
nearest_node (Token c) = parent_of c

-- the deepest node that is an ancestor of two nodes or tokens
abbrev pub common_ancestor_of_elements : NodeOrToken Cursor Cursor → NodeOrToken Cursor Cursor → Option Cursor
common_ancestor_of_elements u v = option_and_then (λ a. option_and_then (common_ancestor a) (nearest_node v)) (nearest_node u)

-- the text of the first cursor is shorter than that of the second
abbrev pub is_shorter : Cursor → Cursor → Bool
is_shorter c d = nat_lt (length (text (focus c))) (length (text (focus d)))

-- the number of leading cursors of a list that are shorter than a cursor
abbrev pub shorter_count : Cursor → List Cursor → ℕ
shorter_count c right = prefix_len (λ d. is_shorter d c) right

-- two chains merged by the length of the text, the left chain first at equal lengths
abbrev pub merged : List Cursor → List Cursor → List Cursor
merged [] right = right
merged (c ∷ left) right = take (shorter_count c right) right ++ c ∷ merged left (drop (shorter_count c right) right)

-- the next node is from the right one of two chains: if it is shorter, and if the left one has
-- ended
abbrev pub takes_right : Option Cursor → Option Cursor → Bool
takes_right None right = true
takes_right (Some c) None = false
takes_right (Some c) (Some d) = is_shorter d c

-- the chains of the nodes above each of some tokens, merged
abbrev pub merged_above : List Cursor → List Cursor
merged_above [] = []
merged_above (t ∷ ts) = merged (ancestors_from (parent_of t)) (merged_above ts)

-- the nodes above the tokens at an offset
abbrev pub ancestors_at : Cursor → ℕ → List Cursor
ancestors_at c offset = merged_above (tokens_at c offset)
