-- What is true of every cursor, for the proofs of callers, which do not see how a cursor is kept.
use Rattle.std.specs.Prelude.{◌<◌, ◌^◌, length, IsUtf8}
use Rattle.tree_model.specs.Tree.{text, IsPlace, IsNode}
use Rattle.tree_model.specs.Cursor.{Cursor}
use Rattle.tree_model.specs.Edit.{Within}

-- the place is one of the tree's, in the list and step by step; the root is a node; the whole text
-- is UTF-8 of fewer than 2^32 bytes
pub record IsPlaced (c : Cursor) : Type 0 where
  pub is_place : IsPlace c.tree c.place
  pub within : Within c.tree c.place
  pub root_is_node : IsNode c.tree
  pub utf8 : IsUtf8 (text c.tree)
  pub short : length (text c.tree) < 2 ^ 32
