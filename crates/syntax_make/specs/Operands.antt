-- An expression in the place of an operand of a term.
use Rattle.std.specs.Prelude.{◌≡◌, ℕ, List, ◌∷◌, Bool, true, false, Some}
use Rattle.tree_model.specs.Tree.{IsPlace}
use Rattle.tree_model.specs.Cursor.{Cursor, focus}
use Rattle.operator_terms.specs.Term.{Term, Paren, tokens}
use Rattle.operator_terms.specs.Reading.{Reads, begins_with_angle}
use Rattle.operator_terms.specs.Places.{Part, operand}
use Rattle.operator_terms.specs.Put.{put}
use Rattle.operator_trees.specs.Leaves.{leaves_behind}
use Rattle.operator_trees.specs.Shown.{meaning, IsTerm}
use Rattle.operator_pairs.specs.Pairs.{operand_cursor}

-- `old` is the operand at a place of the term t, which the node at `r` shows and its tokens read
-- as, not before `<` or `<<`; the tokens of `new` read as the term s, which it shows
pub record IsOperand (old new r : Cursor) (t s : Term) (i : ℕ) (q : List ℕ) : Type 0 where
  pub is_place : IsPlace r.tree r.place
  pub shows : meaning (focus r) ≡ IsTerm t
  pub held : Part
  pub has : operand t (i ∷ q) ≡ Some held
  pub at : old ≡ operand_cursor r t (i ∷ q)
  pub own : meaning (focus new) ≡ IsTerm s
  pub reads : Reads 0 (tokens t) t
  pub reads_own : Reads 0 (tokens s) s
  pub behind : begins_with_angle (leaves_behind r.tree r.place) ≡ false

-- the term with s in a place, in a pair or without one
abbrev pub put_piece : Bool → Term → List ℕ → Term → Term
put_piece true s = put (Paren s)
put_piece false s = put s
