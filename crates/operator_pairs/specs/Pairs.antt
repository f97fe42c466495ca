-- Which pairs may go: over cursors, as the code tests it, and over terms.
use Rattle.std.specs.Prelude.{◌≡◌, ℕ, List, ◌∷◌, ◌++◌, Bool, true, false, not, ◌&&◌, cond, map, drop, Option, Some, None}
use Rattle.std.specs.List.{filter, find}
use Rattle.tree_model.specs.Cursor.{Cursor, focus, at_place, at_node, children_of, descendants_of, parent_of}
use Rattle.operator_terms.specs.Token.{Token}
use Rattle.operator_terms.specs.Term.{Term, Paren, tokens}
use Rattle.operator_terms.specs.Reading.{begins_with_angle, Reads}
use Rattle.operator_terms.specs.Places.{Demand, Part, operand, tokens_behind, MayStandBefore}
use Rattle.operator_terms.specs.Pairs.{fits_before, without}
use Rattle.operator_terms.specs.AllFit.{all_fit}
use Rattle.operator_trees.specs.declared.form.Form.{Form}
use Rattle.operator_trees.specs.declared.form.Form.TheVariants as form
use Rattle.operator_trees.specs.Leaves.{leaves_behind}
use Rattle.operator_trees.specs.Operands.{operand_place}
use Rattle.operator_powers.specs.Rules.{form_at, is_arguments, is_foreign, operators_ask}
use Rattle.operator_pairs.specs.Listed.{below}

-- the operand at a place of the term that the tree at the cursor shows
abbrev pub operand_cursor : Cursor → Term → List ℕ → Cursor
operand_cursor r t q = at_place r (r.place ++ operand_place q (focus r) t)

-- `<` or `<<` follows the operand, in the whole tree
abbrev pub angle_behind : Cursor → Term → List ℕ → Bool
angle_behind r t q = begins_with_angle (tokens_behind q t ++ leaves_behind r.tree r.place)

-- the test for `own` in place of the node or token at `place`, below the place's own parent
abbrev pub asks : (own parent place : Cursor) → Bool
asks own parent place = cond (is_arguments (form_at parent)) false (operators_ask own parent place (begins_with_angle (leaves_behind place.tree place.place)))

-- ---- pairs, as the code finds them

abbrev pub is_paren : Form → Bool
is_paren form.Paren = true
is_paren _ = false

abbrev pub may_go_from : Option Cursor → Option Cursor → Cursor → Bool
may_go_from (Some inside) (Some parent) pair = not (is_foreign (form_at inside)) && not (asks inside parent pair)
may_go_from _ _ pair = false

-- a pair whose inside, its first child node, needs no pair
abbrev pub is_needless : Cursor → Bool
is_needless pair = is_paren (form_at pair) && may_go_from (find at_node (children_of pair)) (parent_of pair) pair

-- ---- pairs of a term

abbrev pub inside_fits : Demand → Bool → Term → Bool
inside_fits d angle (Paren e) = fits_before d angle e
inside_fits d angle _ = false

abbrev pub part_fits : Bool → Option Part → Bool
part_fits angle (Some p) = inside_fits p.demand angle p.term
part_fits angle None = false

-- a pair is at the place, and its contents fit there, before the tokens that follow the whole
abbrev pub may_go : List Token → Term → List ℕ → Bool
may_go following t q = part_fits (begins_with_angle (tokens_behind q t ++ following)) (operand t q)

abbrev pub is_pair_term : Term → Bool
is_pair_term (Paren e) = true
is_pair_term _ = false

abbrev pub is_pair_part : Option Part → Bool
is_pair_part (Some p) = is_pair_term p.term
is_pair_part None = false

-- a pair is at the place, and without it the tokens read as the term without it
abbrev pub reads_without : Term → List ℕ → Bool
reads_without t q = is_pair_part (operand t q) && all_fit (without q t)

-- the whole term, and it without the pair at the place, may precede these tokens
abbrev pub MayGoBefore : List Token → Term → List ℕ → Type 0
MayGoBefore following t q = MayStandBefore following t × MayStandBefore following (without q t)

-- no operand below the root needs a pair by its own parent
abbrev pub AskedNowhere : Cursor → Term → Type 0
AskedNowhere r t =
    (i : ℕ) (q : List ℕ) (held : Part) (parent : Cursor) → operand t (i ∷ q) ≡ Some held → parent_of (operand_cursor r t (i ∷ q)) ≡ Some parent
    → asks (operand_cursor r t (i ∷ q)) parent (operand_cursor r t (i ∷ q)) ≡ false

-- the pairs of the term that may go, where the tree shows them, in the order of the text
abbrev pub needless_pairs : Cursor → Term → List Cursor
needless_pairs r t = map (operand_cursor r t) (filter (may_go (leaves_behind r.tree r.place) t) (below t))

-- the pairs without which the tokens read as the term without the pair
abbrev pub pairs_read_without : Cursor → Term → List Cursor
pairs_read_without r t = map (operand_cursor r t) (filter (reads_without t) (below t))

-- the nodes below a node
abbrev pub nodes_below : Cursor → List Cursor
nodes_below c = drop 1 (filter at_node (descendants_of c))

-- the result of `needless_parens` for the term that is shown, if one is
abbrev pub AreNeedless : Cursor → List Cursor → Term → Type 0
AreNeedless r pairs t =
    Reads 0 (tokens t) t × (pairs ≡ needless_pairs r t)
    × (begins_with_angle (leaves_behind r.tree r.place) ≡ false → pairs ≡ pairs_read_without r t)

abbrev pub NeedlessOf : Cursor → Option (List Cursor) → Option Term → Type 0
NeedlessOf r None None = Unit {0}
NeedlessOf r None (Some t) = Reads 0 (tokens t) t → ⊥
NeedlessOf r (Some pairs) None = ⊥
NeedlessOf r (Some pairs) (Some t) = AreNeedless r pairs t
