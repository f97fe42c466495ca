-- A tree that C was handed, and where its rows and its text are.
use Rattle.std.specs.Prelude.{◌≡◌, length, None, Some}
use Rattle.std_alloc.specs.Vec.{vec_ptr}
use denote.RawPtr.{null_ptr}
use Rattle.tree_model.specs.Tree.{Tree, text}
use Rattle.tree_rows.specs.Flat.{flat_rows}
use Rattle.ras_c.specs.declared.flat.FlatTree.{FlatTree}
use Rattle.ras_c.specs.declared.tree.TreeRows.{TreeRows}

-- it owns these lists, and its fields are where they are and how long they are
pub record IsTreeAt (flat : FlatTree) (it : TreeRows) : Type 0 where
  pub owns : it.owner.flat ≡ Some flat
  pub rows_at : it.rows ≡ vec_ptr flat.rows
  pub row_count : it.row_count ≡ length flat.rows.items
  pub text_at : it.text ≡ vec_ptr flat.text
  pub text_len : it.text_len ≡ length flat.text.items

-- these lists are the rows and the text of a tree
pub record IsTreeOf (tree : Tree) (it : TreeRows) : Type 0 where
  pub flat : FlatTree
  pub is_at : IsTreeAt flat it
  pub rows_are : flat.rows.items ≡ flat_rows tree
  pub text_is : flat.text.items ≡ text tree

-- it owns nothing, and all its fields are zero
pub record IsNoTree (it : TreeRows) : Type 0 where
  pub owns : it.owner.flat ≡ None
  pub rows_at : it.rows ≡ null_ptr
  pub row_count : it.row_count ≡ 0
  pub text_at : it.text ≡ null_ptr
  pub text_len : it.text_len ≡ 0
