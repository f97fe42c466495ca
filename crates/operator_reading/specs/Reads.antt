-- The tests of each place.
use Rattle.std.specs.Prelude.{◌≡◌, Bool, true, false, not, ◌&&◌, ◌||◌, Option, Some, None, if◌then◌else◌}
use Rattle.syntax_kind.specs.Kinds.{is_trivia}
use Rattle.tree_model.specs.Tree.{Tree, node, token, Forest, nil, cons, kind_of, forest_of_children, is_token}
use Rattle.tree_model.specs.Cursor.{Cursor, focus}
use Rattle.lossless_tree.specs.declared.cursor.element.NodeOrToken.{NodeOrToken}
use Rattle.lossless_tree.specs.declared.cursor.element.NodeOrToken.TheVariants.{Node, Token}
use Rattle.std.specs.Prelude.{◌↔◌}
use Rattle.operator_terms.specs.Term.{Term, tokens}
use Rattle.operator_terms.specs.Reading.{Reads}
use Rattle.operator_terms.specs.Pairs.{paired}
use Rattle.operator_terms.specs.Powers.{Powers}
use Rattle.operator_trees.specs.declared.form.Form.{Form}
use Rattle.operator_trees.specs.Forms.{form_of}
use Rattle.operator_trees.specs.Shown.{is_right}
use Rattle.operator_trees.specs.Shape.{shape}
use Rattle.operator_powers.specs.Rules.{form_powers, by_power, is_field_form, is_call_form, is_term_form}

-- a part that is a child needs a pair, by its form and powers
abbrev pub part_asks : Form → Forest → Form → Powers → Bool → Bool
part_asks own oc f pp before = if is_field_form own && is_call_form f then true else by_power (form_powers own oc 0) pp before

abbrev pub child_asks : Form → Powers → Bool → Tree → Bool
child_asks f pp before t = not (is_token t) && (is_term_form (form_of (kind_of t)) && part_asks (form_of (kind_of t)) (forest_of_children t) f pp before)

-- a child after the first token that is not trivia follows the operator
abbrev pub still_before : Tree → Bool → Bool
still_before (node k c) before = before
still_before (token k t) before = is_trivia k && before

-- a part among the children needs a pair
abbrev pub asks_from : Form → Powers → Bool → Forest → Bool
asks_from f pp before nil = false
asks_from f pp before (cons t r) = child_asks f pp before t || asks_from f pp (still_before t before) r

abbrev pub parts_ask : Form → Forest → Bool
parts_ask f c = is_term_form f && asks_from f (form_powers f c 0) true c

-- no part of the node that is its child needs a pair
abbrev pub node_fits : Tree → Bool
node_fits (token k t) = true
node_fits (node k c) = not (parts_ask (form_of k) c)

-- both tests of a place
abbrev pub has_form : Tree → Bool
has_form u = is_right (shape u)

abbrev pub element_has_form : NodeOrToken Cursor Cursor → Bool
element_has_form (Node c) = has_form (focus c)
element_has_form (Token c) = true

abbrev pub element_fits : NodeOrToken Cursor Cursor → Bool
element_fits (Node c) = node_fits (focus c)
element_fits (Token c) = true

-- ---- the result of `reads_back` for the term that is shown, if one is
abbrev pub IsAnswer : Bool → Term → Type 0
IsAnswer b t =
    (b ≡ true ↔ Reads 0 (tokens t) t)
    × (b ≡ true → (u : Term) → Reads 0 (tokens t) u → u ≡ t)
    × Reads 0 (tokens (paired t)) (paired t)

abbrev pub ReadsBack : Option Bool → Option Term → Type 0
ReadsBack None None = Unit {0}
ReadsBack (Some b) (Some t) = IsAnswer b t
ReadsBack _ _ = ⊥
