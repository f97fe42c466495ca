-- What the answer decides, whether an expression needs parentheses at an operand of an operator
-- tree: statements about terms, for the test that is made on nodes.
use Rattle.std.specs.Prelude.{◌≡◌, ◌↔◌, ℕ, List, ◌∷◌, Bool, false, Some}
use Rattle.tree_model.specs.Cursor.{Cursor, focus, parent_of}
use Rattle.operator_terms.specs.Term.{Term, Paren, tokens}
use Rattle.operator_terms.specs.Reading.{begins_with_angle, Reads}
use Rattle.operator_terms.specs.Places.{Demand, Part, some_part, operand, Fits, FitsPlace}
use Rattle.operator_terms.specs.Pairs.{without}
use Rattle.operator_trees.specs.Leaves.{leaves_behind}
use Rattle.operator_trees.specs.Shown.{meaning, IsTerm}
use Rattle.operator_pairs.specs.Pairs.{operand_cursor, angle_behind, MayGoBefore}

-- `needs` is false exactly if `own` fits in place of the operand at `place`, before the tokens that
-- follow the operand in the whole tree
abbrev pub DecidesOperands : (own parent place : Cursor) → (needs : Bool) → Type 0
DecidesOperands own parent place needs =
    (r : Cursor) (t s : Term) (i : ℕ) (q : List ℕ) (held : Part)
    → meaning (focus r) ≡ IsTerm t → operand t (i ∷ q) ≡ Some held
    → place ≡ operand_cursor r t (i ∷ q) → parent_of place ≡ Some parent
    → meaning (focus own) ≡ IsTerm s
    → needs ≡ false ↔ FitsPlace held.demand (angle_behind r t (i ∷ q)) s

-- For the contents of a pair, in place of the pair, in a tree that reads back: `needs` is false
-- exactly if the tokens without the pair read as the term without it, and then that is their only
-- reading.
abbrev pub DecidesPairs : (own parent place : Cursor) → (needs : Bool) → Type 0
DecidesPairs own parent place needs =
    (r : Cursor) (t : Term) (i : ℕ) (q : List ℕ) (d : Demand) (e : Term)
    → meaning (focus r) ≡ IsTerm t → operand t (i ∷ q) ≡ some_part d (Paren e)
    → place ≡ operand_cursor r t (i ∷ q) → parent_of place ≡ Some parent
    → meaning (focus own) ≡ IsTerm e
    → Reads 0 (tokens t) t → MayGoBefore (leaves_behind r.tree r.place) t (i ∷ q)
    → (needs ≡ false ↔ Reads 0 (tokens (without (i ∷ q) t)) (without (i ∷ q) t))
    × (needs ≡ false → (u : Term) → Reads 0 (tokens (without (i ∷ q) t)) u
    → u ≡ without (i ∷ q) t)

-- `needs` is false exactly if the operand fits where it stands, before the tokens that follow it in
-- the whole tree
abbrev pub DecidesItsPlace : (own parent : Cursor) → (needs : Bool) → Type 0
DecidesItsPlace own parent needs =
    (r : Cursor) (t : Term) (i : ℕ) (q : List ℕ) (held : Part)
    → meaning (focus r) ≡ IsTerm t → operand t (i ∷ q) ≡ Some held
    → own ≡ operand_cursor r t (i ∷ q) → parent_of own ≡ Some parent
    → needs ≡ false ↔ FitsPlace held.demand (angle_behind r t (i ∷ q)) held.term

-- the same of the term alone, where neither `<` nor `<<` follows the operator tree
abbrev pub DecidesItsTerm : (own parent : Cursor) → (needs : Bool) → Type 0
DecidesItsTerm own parent needs =
    (r : Cursor) (t : Term) (i : ℕ) (q : List ℕ) (held : Part)
    → meaning (focus r) ≡ IsTerm t → operand t (i ∷ q) ≡ Some held
    → own ≡ operand_cursor r t (i ∷ q) → parent_of own ≡ Some parent
    → begins_with_angle (leaves_behind r.tree r.place) ≡ false
    → needs ≡ false ↔ Fits t (i ∷ q)
