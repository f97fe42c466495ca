-- The tokens of a node, which are read from the last.
use Rattle.std.specs.Prelude.{List, [], ◌∷◌, Option, None, Some}
use Rattle.std.specs.List.{filter}
use Rattle.tree_model.specs.Cursor.{Cursor, at_token, descendants_of}

-- the tokens of a node, in order
abbrev pub tokens_of : Cursor → List Cursor
tokens_of c = filter at_token (descendants_of c)

-- the first of a list, if it has one
abbrev pub head_of : {A : Type 0} → List A → Option A
head_of [] = None
head_of (x ∷ xs) = Some x
