-- Trees without what does not count: white space, comments, pairs of parentheses round an
-- expression, and commas at the end of lists.
use Rattle.std.specs.Prelude.{ℕ, ◌+◌, ◌==◌, Bool, true, false, not, ◌&&◌, ◌||◌, if◌then◌else◌, List, length}
use Rattle.std.specs.Cmp.Lexicographic.{pointwise}
use Rattle.syntax_kind.specs.declared.syntax_kind.SyntaxKind.{SyntaxKind}
use Rattle.syntax_kind.specs.declared.syntax_kind.TheConstants.SyntaxKind.{PAREN_EXPR, TOKEN_TREE, L_PAREN, R_PAREN, R_BRACK, R_CURLY, R_ANGLE, PIPE, COMMA, WHITESPACE}
use Rattle.syntax_kind.specs.Kinds.{is_trivia, is_same_kind}
use Rattle.tree_model.specs.Tree.{Tree, node, token, Forest, nil, cons, kind_of, text, is_token}
use Rattle.lossless_tree.specs.Trees.{Siblings, is_done, first_of, rest_of, behind_first, inside_first}
use Rattle.tree_match.specs.declared.bare.Comments.{Comments}
use Rattle.tree_match.specs.declared.bare.Comments.TheVariants.{Passed, Kept}

-- ---- what is passed over

abbrev pub is_passed : Comments → SyntaxKind → Bool
is_passed Passed k = is_trivia k
is_passed Kept k = is_same_kind k WHITESPACE

abbrev pub is_passed_tree : Comments → Tree → Bool
is_passed_tree cs (node k c) = false
is_passed_tree cs (token k t) = is_passed cs k

-- the siblings from the first on that counts, and where that one starts
abbrev pub past_trees : Comments → Forest → Forest
past_trees cs nil = nil
past_trees cs (cons t r) = if is_passed_tree cs t then past_trees cs r else cons t r

abbrev pub past_start : Comments → Forest → ℕ → ℕ
past_start cs nil b = b
past_start cs (cons t r) b = if is_passed_tree cs t then past_start cs r (b + length (text t)) else b

abbrev pub past : Comments → Siblings → Siblings
past cs s = record { trees = past_trees cs s.trees; start = past_start cs s.trees s.start }

-- ---- pairs of parentheses

-- the first sibling is a token of this kind; is a node
abbrev pub is_token_of : SyntaxKind → Forest → Bool
is_token_of k f = is_token (first_of f) && is_same_kind (kind_of (first_of f)) k

abbrev pub is_node_there : Forest → Bool
is_node_there f = not (is_done f) && not (is_token (first_of f))

abbrev pub is_node_of : SyntaxKind → Forest → Bool
is_node_of k f = is_node_there f && is_same_kind (kind_of (first_of f)) k

-- the children of the first sibling from the first on that counts, those behind that one, and
-- behind the next one
abbrev pub opening : Comments → Siblings → Siblings
opening cs s = past cs (inside_first s)

abbrev pub held : Comments → Siblings → Siblings
held cs s = past cs (behind_first (opening cs s))

abbrev pub closing : Comments → Siblings → Siblings
closing cs s = past cs (behind_first (held cs s))

-- `(` and a node; `)` and nothing else that counts
abbrev pub opens : Comments → Siblings → Bool
opens cs s = is_token_of L_PAREN (opening cs s).trees && is_node_there (held cs s).trees

abbrev pub closes : Comments → Siblings → Bool
closes cs s = is_token_of R_PAREN (closing cs s).trees && is_done (past cs (behind_first (closing cs s))).trees

-- the first sibling is a pair of parentheses round one node, with nothing else in it that counts
abbrev pub is_pair : Comments → Siblings → Bool
is_pair cs s = is_node_of PAREN_EXPR s.trees && (opens cs s && closes cs s)

-- the first node of some siblings, or of what is in the pairs round it
abbrev pub inner : Comments → Forest → ℕ → Siblings
inner cs nil b = record { trees = nil; start = b }
inner cs (cons (token k t) r) b = inner cs r (b + length t)
inner cs (cons (node k c) r) b =
    if is_pair cs (record { trees = cons (node k c) r; start = b }) then inner cs c b
    else record { trees = cons (node k c) r; start = b }

-- siblings of which the first is what is in the pairs directly round one another
abbrev pub bare : Comments → Siblings → Siblings
bare cs s = if is_node_there s.trees then inner cs s.trees s.start else s

-- ---- a comma at the end of a list

-- nothing, or the token that closes a list
abbrev pub is_closing : SyntaxKind → Bool
is_closing k =
    (((is_same_kind k R_PAREN || is_same_kind k R_BRACK) || is_same_kind k R_CURLY) || is_same_kind k R_ANGLE) || is_same_kind k PIPE

abbrev pub ends_list : Forest → Bool
ends_list f = is_done f || (is_token (first_of f) && is_closing (kind_of (first_of f)))

-- the first sibling is a comma behind which the list ends
abbrev pub is_last_comma : Comments → Forest → Bool
is_last_comma cs f = is_token_of COMMA f && ends_list (past_trees cs (rest_of f))

abbrev pub without_comma : Comments → Siblings → Siblings
without_comma cs s = if is_last_comma cs (past cs s).trees then behind_first (past cs s) else s

-- a node may be an element of a list, unless it is a tree of tokens, in which each comma counts
abbrev pub is_element : Forest → Bool
is_element f = is_node_there f && not (is_same_kind (kind_of (first_of f)) TOKEN_TREE)

-- the siblings behind the first; a comma at the end of a list does not count behind an element
abbrev pub behind_one : Comments → Siblings → Siblings
behind_one cs s = if is_element s.trees then without_comma cs (behind_first s) else behind_first s

-- ---- the steps of a walk

-- a node is entered, or left; a token; the walk has ended
pub data Step : Type 0 where
  enter : SyntaxKind → Step
  leave : Step
  leaf : SyntaxKind → List ℕ → Step
  end : Step

abbrev pub is_same_step : Step → Step → Bool
is_same_step (enter k) (enter l) = is_same_kind k l
is_same_step leave leave = true
is_same_step (leaf k t) (leaf l u) = is_same_kind k l && pointwise ◌==◌ t u
is_same_step end end = true
is_same_step _ _ = false

abbrev pub is_end : Step → Bool
is_end end = true
is_end _ = false
