-- A tree without its white space and comments.
use Rattle.std.specs.Prelude.{cond}
use Rattle.syntax_kind.specs.Kinds.{is_trivia}
use Rattle.tree_model.specs.Tree.{Tree, node, token, Forest, nil, cons}

abbrev pub bare_children : Forest → Forest
bare_children nil = nil
bare_children (cons (token k t) r) = cond (is_trivia k) (bare_children r) (cons (token k t) (bare_children r))
bare_children (cons (node k c) r) = cons (node k (bare_children c)) (bare_children r)

abbrev pub bare : Tree → Tree
bare (node k c) = node k (bare_children c)
bare (token k t) = token k t
