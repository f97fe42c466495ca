-- The tokens on one side of a token in its whole tree, and trivia, which a search among them may
-- pass over. (Trivia are rust-analyzer's: white space and comments.)
use Rattle.std.specs.Prelude.{List, reverse, Bool, false, not}
use Rattle.std.specs.List.{after_first, before_first}
use Rattle.syntax_kind.specs.Kinds.{is_trivia}
use Rattle.tree_model.specs.declared.direction.Direction.{Direction}
use Rattle.tree_model.specs.declared.direction.Direction.TheVariants.{Next, Prev}
use Rattle.tree_model.specs.Tree.{Tree, node, token}
use Rattle.tree_model.specs.Cursor.{Cursor, focus, all_tokens}
use Rattle.tree_model.specs.Equality.{is_same_cursor}

-- the tokens of the whole tree after a token in order, or those before it, the nearest first
abbrev pub tokens_beyond : Direction → Cursor → List Cursor
tokens_beyond Next c = after_first (is_same_cursor c) (all_tokens c)
tokens_beyond Prev c = reverse (before_first (is_same_cursor c) (all_tokens c))

-- a token of white space or a comment
abbrev pub is_trivia_token : Tree → Bool
is_trivia_token (node k c) = false
is_trivia_token (token k t) = is_trivia k

-- the node or token at a cursor is not trivia
abbrev pub is_no_trivia : Cursor → Bool
is_no_trivia c = not (is_trivia_token (focus c))
