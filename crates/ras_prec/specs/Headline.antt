-- The operator theorem over trees, for the test that `needs_parens_in` and
-- `needs_parens_in_place_of` compute.
use Rattle.std.specs.Prelude.{◌≡◌, ◌↔◌, ℕ, List, [], ◌∷◌, ◌++◌, Bool, true, false, map, Option, Some, None}
use Rattle.std.specs.List.{filter}
use Rattle.tree_model.specs.Cursor.{Cursor, parent_of}
use Rattle.operator_terms.specs.Token.{Token}
use Rattle.operator_terms.specs.Term.{Term, Paren, tokens}
use Rattle.operator_terms.specs.Reading.{Reads}
use Rattle.operator_terms.specs.Places.{Demand, Part, some_part, operand}
use Rattle.operator_terms.specs.Pairs.{without}
use Rattle.operator_trees.specs.Leaves.{leaves_behind}
use Rattle.operator_pairs.specs.Pairs.{operand_cursor, MayGoBefore}
use Rattle.operator_pairs.specs.Listed.{below}
use Rattle.ras_prec.specs.Rules.{asks}

-- the tokens read as the term, and as no other
abbrev pub IsOneReadingOf : List Token → Term → Type 0
IsOneReadingOf ts t = Reads 0 ts t × ((u : Term) → Reads 0 ts u → u ≡ t)

-- The node or token at the place has a parent, and below that parent `own` needs no parentheses in
-- its place.
abbrev pub NeedsNone : (own place : Cursor) → Type 0
NeedsNone own place = (parent : Cursor) × (parent_of place ≡ Some parent) × (asks own parent place ≡ false)

-- no operand below the root needs parentheses where it is; the parent of an argument is the list of
-- arguments
abbrev pub NoOperandNeedsAny : Cursor → Term → Type 0
NoOperandNeedsAny r t =
    (i : ℕ) (q : List ℕ) (held : Part) → operand t (i ∷ q) ≡ Some held → NeedsNone (operand_cursor r t (i ∷ q)) (operand_cursor r t (i ∷ q))

-- the contents of the pair at the place need no parentheses in place of the pair
abbrev pub InsideNeedsNone : Cursor → Term → List ℕ → Type 0
InsideNeedsNone r t q = NeedsNone (operand_cursor r t (q ++ 0 ∷ [])) (operand_cursor r t q)

-- without the pair at the place the tokens read as the term without it
abbrev pub ReadsWithout : Term → List ℕ → Type 0
ReadsWithout t q = Reads 0 (tokens (without q t)) (without q t)

-- ---- the result of `needless_parens`

-- a pair is at the place
abbrev pub HasPair : Term → List ℕ → Type 0
HasPair t q = (d : Demand) × (e : Term) × (operand t q ≡ some_part d (Paren e))

-- The pairs are at the places below the root, in the order of the text, for which `picks` is true.
-- It is true exactly if a pair is there whose contents need no parentheses in its place, and also
-- exactly if a pair is there without which the tokens read as the term without it.
abbrev pub AreNeedless : Cursor → List Cursor → Term → Type 0
AreNeedless r pairs t =
    Reads 0 (tokens t) t × (picks : List ℕ → Bool) × (pairs ≡ map (operand_cursor r t) (filter picks (below t)))
    × ((i : ℕ) (q : List ℕ) → picks (i ∷ q) ≡ true ↔ (HasPair t (i ∷ q) × InsideNeedsNone r t (i ∷ q)))
    × ((i : ℕ) (q : List ℕ) → MayGoBefore (leaves_behind r.tree r.place) t (i ∷ q) → picks (i ∷ q) ≡ true ↔ (HasPair t (i ∷ q) × ReadsWithout t (i ∷ q)))

-- `None` unless a term is shown and reads
abbrev pub NeedlessOf : Cursor → Option (List Cursor) → Option Term → Type 0
NeedlessOf r None None = Unit {0}
NeedlessOf r None (Some t) = Reads 0 (tokens t) t → ⊥
NeedlessOf r (Some pairs) None = ⊥
NeedlessOf r (Some pairs) (Some t) = AreNeedless r pairs t
