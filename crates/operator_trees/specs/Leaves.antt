-- The tokens of a tree without trivia, and those after a place.
use Rattle.std.specs.Prelude.{ℕ, zero, suc, List, [], ◌∷◌, ◌++◌, cond}
use Rattle.syntax_kind.specs.Kinds.{is_trivia}
use Rattle.tree_model.specs.Tree.{Tree, node, token, Forest, nil, cons, Place, child_at, forest_of_children}
use Rattle.operator_terms.specs.Token.{Token}

abbrev pub leaves : Forest → List Token
leaves nil = []
leaves (cons (token k t) r) = cond (is_trivia k) (leaves r) (record { kind = k; text = t } ∷ leaves r)
leaves (cons (node k c) r) = leaves c ++ leaves r

abbrev pub leaves_of : Tree → List Token
leaves_of (node k c) = leaves c
leaves_of (token k t) = cond (is_trivia k) [] (record { kind = k; text = t } ∷ [])

-- the trees after child number i
abbrev pub behind_child : Forest → ℕ → Forest
behind_child nil i = nil
behind_child (cons t r) zero = r
behind_child (cons t r) (suc i) = behind_child r i

-- the tokens of the whole tree that follow a place
abbrev pub leaves_behind : Tree → Place → List Token
leaves_behind t [] = []
leaves_behind t (i ∷ p) = leaves_behind (child_at (forest_of_children t) i) p ++ leaves (behind_child (forest_of_children t) i)
