-- Where an operator tree is asked, the whole test is that of operator trees.
use Rattle.std.proofs.Common.{ℕ, ◌≡◌, ◌-◌, length, Bool, true, false, not, ◌&&◌, ◌||◌, cond, List, [], ◌∷◌, ◌++◌, Some, None, refl, sym, ap, subst, ◌∙◌}
use Rattle.std.specs.Prelude.{is_some, if◌then◌else◌}
use Rattle.std.specs.List.{find}
use Rattle.std.specs.Option.{option_and_then}
use Rattle.tree_model.specs.Tree.{Tree, node, token, is_token, forest_of_children, text}
use Rattle.tree_model.specs.Cursor.{Cursor, focus, at_token, ancestors_from, descendants_of, parent_of, range_start, range_end}
use Rattle.tree_model.specs.Equality.{is_same_cursor}
use Rattle.tree_model.specs.EqualityLaws.{cursor_equivalence}
use Rattle.tree_model.proofs.AncestorLemmas.{ancestors_of-step}
use Rattle.ras_node.specs.Nodes.{kind_at}
use Rattle.ras_node.specs.Sets.{is_expr}
use Rattle.operator_terms.specs.Token.{Token}
use Rattle.operator_terms.specs.Term.{Term, Literal, Name, Paren, Field, Await, Try, Cast, Method, Call, Index, Prefix, Borrow, Binary, RangeFull, RangeFrom, RangeTo, Range, tokens}
use Rattle.operator_terms.specs.Reading.{begins_with_angle}
use Rattle.operator_terms.specs.Places.{Part, ends_in_cast, operand}
use Rattle.operator_terms.specs.Powers.{Powers, like_postfix}
use Rattle.operator_trees.specs.declared.form.Form.{Form}
use Rattle.operator_trees.specs.declared.form.Form.TheVariants as form
use Rattle.operator_trees.specs.Before.{stands_before}
use Rattle.operator_trees.specs.Shown.{meaning, IsTerm, is_right}
use Rattle.operator_trees.specs.Leaves.{leaves_of, leaves_behind}
use Rattle.operator_trees.proofs.Inversion.{no}
use Rattle.operator_trees.proofs.Tokens.{tokens-shown}
use Rattle.operator_powers.specs.Rules.{form_at, is_foreign, is_term_form, is_arguments, by_power, form_powers, asks_at, operators_ask, operator_start}
use Rattle.operator_powers.proofs.Cursors.{not_foreign}
use Rattle.operator_powers.proofs.Walk.{leaf_here, flat, leaves_descendants}
use Rattle.operator_pairs.specs.Next.{first_kind, kind_behind}
use Rattle.operator_pairs.specs.Pairs as pairs
use Rattle.operator_pairs.specs.Pairs.{operand_cursor}
use Rattle.operator_pairs.proofs.Asked.{AskedAt, asked_at, operand_shown}
use Rattle.ras_operators.specs.Levels.{is_valueless, precedence_of}
use Rattle.ras_prec_walks.specs.Above.{child_toward, first_child_of_it, is_among, is_at_or_above, is_child_of, is_followed_by_block}
use Rattle.ras_prec_walks.specs.CastName.{ends_in_cast_name}
use Rattle.ras_prec_walks.specs.Inside.{has_exterior_record, has_let}
use Rattle.ras_prec_walks.specs.Parts.{is_and, range_ends_in_block}
use Rattle.ras_prec_walks.specs.declared.inside.Sought.TheVariants.{Record, Let}
use Rattle.ras_prec.specs.Order.{powers_of, other_powers, order_of, start_of, other_operator, keyword, stands_before_in}
use Rattle.ras_prec.specs.Rules.{is_called_field, is_cut_by_block, is_jump, is_before_logic, is_before_angle, kind_from, kind_next, binds_less, asks_in_expr, asks_in_statement, is_statement, asks}
use Rattle.ras_prec.proofs.CastEdge.{cast_names_agree}
use Rattle.ras_prec.proofs.KindFacts.{valueless, bare, jumps, expr_of_form, no_expr, no_statement}
use Rattle.ras_prec.proofs.Nothing.{no_block_at_end, none_sought}

-- ---- where the place is

above : (parent place : Cursor) → parent_of place ≡ Some parent → is_at_or_above parent place ≡ true
above parent place at =
    ap (is_among parent) (ancestors_of-step place ∙ ap (λ o. place ∷ ancestors_from o) at ∙ ap (λ l. place ∷ l) (ancestors_of-step parent))
    ∙ by (is_same_cursor place parent)
  where
    by : (b : Bool) → b || (is_same_cursor parent parent || is_among parent (ancestors_from (parent_of parent))) ≡ true
    by true = refl
    by false = ap (λ b. b || is_among parent (ancestors_from (parent_of parent))) (cursor_equivalence.refl parent)

toward : (parent place : Cursor) → parent_of place ≡ Some parent → child_toward parent place ≡ Some place
toward parent place at =
    ap (first_child_of_it parent) (ancestors_of-step place)
    ∙ ap (λ o. if is_child_of parent o then Some place else first_child_of_it parent (ancestors_from (parent_of place))) at
    ∙ ap (λ b. if b then Some place else first_child_of_it parent (ancestors_from (parent_of place))) (cursor_equivalence.refl parent)

-- ---- a tree that shows a term holds a token

is_empty : List Token → Bool
is_empty [] = true
is_empty (t ∷ ts) = false

not_empty : (xs : List Token) (y : Token) (ys : List Token) → is_empty (xs ++ y ∷ ys) ≡ false
unfolding is_empty
not_empty [] y ys = refl
not_empty (x ∷ xs) y ys = refl

some_tokens : (t : Term) → is_empty (tokens t) ≡ false
unfolding tokens is_empty
some_tokens (Literal k x) = refl
some_tokens (Name x) = refl
some_tokens (Paren e) = refl
some_tokens (Field e n) = not_empty (tokens e) _ _
some_tokens (Await e) = not_empty (tokens e) _ _
some_tokens (Try e) = not_empty (tokens e) _ _
some_tokens (Cast e n) = not_empty (tokens e) _ _
some_tokens (Method e n args) = not_empty (tokens e) _ _
some_tokens (Call e args) = not_empty (tokens e) _ _
some_tokens (Index e i) = not_empty (tokens e) _ _
some_tokens (Prefix op e) = refl
some_tokens (Borrow true e) = refl
some_tokens (Borrow false e) = refl
some_tokens (Binary op l r) = not_empty (tokens l) _ _
some_tokens RangeFull = refl
some_tokens (RangeFrom l) = not_empty (tokens l) _ _
some_tokens (RangeTo inclusive r) = refl
some_tokens (Range inclusive l r) = not_empty (tokens l) _ _

no_leaf : (u : Tree) → is_token u ≡ false → leaf_here u ≡ []
no_leaf (node k c) h = refl
no_leaf (token k t) h = absurd (no (sym h))

found_or_none : (ds : List Cursor) → is_some (find at_token ds) ≡ false → flat (λ d. leaf_here (focus d)) ds ≡ []
found_or_none [] h = refl
found_or_none (d ∷ ds) h = by (at_token d) refl (found_or_none ds) h
  where
    by : (b : Bool) → at_token d ≡ b → (is_some (find at_token ds) ≡ false → flat (λ d. leaf_here (focus d)) ds ≡ []) → is_some (cond b (Some d) (find at_token ds)) ≡ false → flat (λ d. leaf_here (focus d)) (d ∷ ds) ≡ []
    by true e i g = absurd (no (sym g))
    by false e i g = ap (λ ts. ts ++ flat (λ d. leaf_here (focus d)) ds) (no_leaf (focus d) e) ∙ i g

empty : is_empty [] ≡ true
unfolding is_empty
empty = refl

holds_token : (c : Cursor) (t : Term) → meaning (focus c) ≡ IsTerm t → is_some (find at_token (descendants_of c)) ≡ true
holds_token c t shows = by (is_some (find at_token (descendants_of c))) refl
  where
    by : (b : Bool) → is_some (find at_token (descendants_of c)) ≡ b → b ≡ true
    by true e = refl
    by false e = absurd (no (sym (some_tokens t) ∙ ap is_empty (sym (tokens-shown (focus c) t shows) ∙ sym (leaves_descendants c) ∙ found_or_none (descendants_of c) e) ∙ empty))

-- ---- what follows it

angle_first : (ts : List Token) → is_before_angle (first_kind ts) ≡ begins_with_angle ts
angle_first [] = refl
angle_first (t ∷ ts) = refl

angle_next : (parent place : Cursor) (u : Term) → meaning (focus place) ≡ IsTerm u → parent_of place ≡ Some parent
    → is_before_angle (kind_next parent place) ≡ begins_with_angle (leaves_behind place.tree place.place)
angle_next parent place u shows at =
    ap (λ o. is_before_angle (option_and_then kind_from o)) (toward parent place at)
    ∙ ap (λ b. is_before_angle (if b then kind_behind place else None)) (holds_token place u shows)
    ∙ angle_first (leaves_behind place.tree place.place)

-- ---- the rules that don't apply

right_term : (u : Tree) (t : Term) → meaning u ≡ IsTerm t → is_right (meaning u) ≡ true
right_term u t e = ap is_right e

not_cut : (own : Cursor) (s : Term) → meaning (focus own) ≡ IsTerm s → is_cut_by_block own ≡ false
not_cut own s self =
    ap (λ b. b || (range_ends_in_block own || has_exterior_record own)) (bare (kind_at own) own (not_foreign (focus own) s self))
    ∙ ap (λ b. b || has_exterior_record own) (no_block_at_end own (right_term (focus own) s self))
    ∙ none_sought Record own (right_term (focus own) s self)

powers_so : (c : Cursor) → is_foreign (form_at c) ≡ false → powers_of c ≡ form_powers (form_at c) (forest_of_children (focus c)) (range_start c)
powers_so c h = ap (λ b. if b then other_powers (kind_at c) else form_powers (form_at c) (forest_of_children (focus c)) (range_start c)) h

order_so : (c : Cursor) → is_foreign (form_at c) ≡ false → order_of c ≡ operator_start (form_at c) (forest_of_children (focus c)) (range_start c)
order_so c h = ap (λ b. if b then start_of (other_operator (keyword (kind_at c)) c) c else operator_start (form_at c) (forest_of_children (focus c)) (range_start c)) h

-- the rule on powers
powers_ask : (own parent place : Cursor) → is_foreign (form_at own) ≡ false → is_foreign (form_at parent) ≡ false → (if is_called_field own parent then true else binds_less own parent place) ≡ asks_at own parent place
powers_ask own parent place f g =
    ap (λ p. if is_called_field own parent then true else by_power p (powers_of parent) (stands_before_in own parent place)) (powers_so own f)
    ∙ ap (λ p. if is_called_field own parent then true else by_power (own_powers) p (stands_before_in own parent place)) (powers_so parent g)
    ∙ ap (λ n. if is_called_field own parent then true else by_power own_powers parent_powers (stands_before (n - range_start own) (length (text (focus own))) (range_start place) (range_end place) (order_of parent))) (order_so own f)
    ∙ ap (λ n. if is_called_field own parent then true else by_power own_powers parent_powers (stands_before (operator_start (form_at own) (forest_of_children (focus own)) (range_start own) - range_start own) (length (text (focus own))) (range_start place) (range_end place) n)) (order_so parent g)
  where
    own_powers : Powers
    own_powers = form_powers (form_at own) (forest_of_children (focus own)) (range_start own)

    parent_powers : Powers
    parent_powers = form_powers (form_at parent) (forest_of_children (focus parent)) (range_start parent)

-- the first rule that applies, where four don't
settled : (called followed cut bare postfix jump logic angle type chain let_ less : Bool) → cut ≡ false → bare ≡ false → jump ≡ false → let_ ≡ false
    → (if called then true
    else (if followed && cut then true
    else (if bare && postfix then false
    else (if jump && logic then true
    else (if angle && type then true
    else (if chain && let_ then false
    else less))))))
    ≡ (type && angle) || (if called then true else less)
settled true followed cut bare postfix jump logic true true chain let_ less a b c d = refl
settled true followed cut bare postfix jump logic true false chain let_ less a b c d = refl
settled true followed cut bare postfix jump logic false true chain let_ less a b c d = refl
settled true followed cut bare postfix jump logic false false chain let_ less a b c d = refl
settled false followed true bare postfix jump logic angle type chain let_ less a b c d = absurd (no (sym a))
settled false followed false true postfix jump logic angle type chain let_ less a b c d = absurd (no (sym b))
settled false followed false false postfix true logic angle type chain let_ less a b c d = absurd (no (sym c))
settled false followed false false postfix false logic angle type chain true less a b c d = absurd (no (sym d))
settled false true false false postfix false logic true true chain false less a b c d = refl
settled false false false false postfix false logic true true chain false less a b c d = refl
settled false true false false postfix false logic true false true false less a b c d = refl
settled false false false false postfix false logic true false true false less a b c d = refl
settled false true false false postfix false logic true false false false less a b c d = refl
settled false false false false postfix false logic true false false false less a b c d = refl
settled false true false false postfix false logic false true true false less a b c d = refl
settled false false false false postfix false logic false true true false less a b c d = refl
settled false true false false postfix false logic false true false false less a b c d = refl
settled false false false false postfix false logic false true false false less a b c d = refl
settled false true false false postfix false logic false false true false less a b c d = refl
settled false false false false postfix false logic false false true false less a b c d = refl
settled false true false false postfix false logic false false false false less a b c d = refl
settled false false false false postfix false logic false false false false less a b c d = refl

term_form_known : (f : Form) → is_term_form f ≡ true → (is_foreign f ≡ false) × (is_arguments f ≡ false)
term_form_known form.Foreign h = absurd (no h)
term_form_known form.Arguments h = absurd (no h)
term_form_known _ h = (refl, refl)

pub asked_by_operators : (own parent place : Cursor) (s u : Term) → meaning (focus own) ≡ IsTerm s → meaning (focus place) ≡ IsTerm u → parent_of place ≡ Some parent
    → is_term_form (form_at parent) ≡ true → asks own parent place ≡ pairs.asks own parent place
asked_by_operators own parent place s u self shows at holder =
    let f : is_foreign (form_at own) ≡ false = not_foreign (focus own) s self in
    let g = term_form_known (form_at parent) holder in
    ap (λ b. if not b then false else (if is_expr (kind_at parent) then asks_in_expr own parent place else is_statement (kind_at parent) && asks_in_statement own parent)) (above parent place at)
    ∙ ap (λ b. if b then asks_in_expr own parent place else is_statement (kind_at parent) && asks_in_statement own parent) (expr_of_form (kind_at parent) holder)
    ∙ settled (is_called_field own parent) (is_followed_by_block parent) (is_cut_by_block own) (is_valueless own) (like_postfix (powers_of parent)) (is_jump (precedence_of own)) (is_before_logic (kind_next parent place))
    (is_before_angle (kind_next parent place)) (ends_in_cast_name own) (is_and parent) (has_let own) (binds_less own parent place)
    (not_cut own s self) (valueless (kind_at own) own f) (jumps (kind_at own) own f) (none_sought Let own (right_term (focus own) s self))
    ∙ ap (λ b. (b && is_before_angle (kind_next parent place)) || (if is_called_field own parent then true else binds_less own parent place)) (cast_names_agree own s self)
    ∙ ap (λ b. (ends_in_cast (leaves_of (focus own)) && b) || (if is_called_field own parent then true else binds_less own parent place)) (angle_next parent place u shows at)
    ∙ ap (λ b. (ends_in_cast (leaves_of (focus own)) && begins_with_angle (leaves_behind place.tree place.place)) || b) (powers_ask own parent place f g.0)
    ∙ ap (λ b. cond b false (operators_ask own parent place (begins_with_angle (leaves_behind place.tree place.place)))) (sym g.1)

pub arguments_ask : (own parent place : Cursor) → is_arguments (form_at parent) ≡ true → asks own parent place ≡ pairs.asks own parent place
arguments_ask own parent place holder =
    ap (λ b. if not (is_at_or_above parent place) then false else (if b then asks_in_expr own parent place else is_statement (kind_at parent) && asks_in_statement own parent)) (no_expr (kind_at parent) holder)
    ∙ ap (λ b. if not (is_at_or_above parent place) then false else b && asks_in_statement own parent) (no_statement (kind_at parent) holder)
    ∙ by (not (is_at_or_above parent place))
    ∙ ap (λ b. cond b false (operators_ask own parent place (begins_with_angle (leaves_behind place.tree place.place)))) (sym holder)
  where
    by : (b : Bool) → (if b then false else false) ≡ false
    by true = refl
    by false = refl

-- ---- at the operands of an operator tree

one_or_other : (own parent place : Cursor) (s u : Term) → meaning (focus own) ≡ IsTerm s → meaning (focus place) ≡ IsTerm u → parent_of place ≡ Some parent
    → is_term_form (form_at parent) || is_arguments (form_at parent) ≡ true → asks own parent place ≡ pairs.asks own parent place
one_or_other own parent place s u self shows at holds = by (is_term_form (form_at parent)) refl holds
  where
    by : (b : Bool) → is_term_form (form_at parent) ≡ b → b || is_arguments (form_at parent) ≡ true → asks own parent place ≡ pairs.asks own parent place
    by true e h = asked_by_operators own parent place s u self shows at e
    by false e h = arguments_ask own parent place h

pub operand_asked : (r : Cursor) (t s : Term) (i : ℕ) (q : List ℕ) (held : Part) (own parent place : Cursor) (b : Bool) → b ≡ asks own parent place → meaning (focus r) ≡ IsTerm t → operand t (i ∷ q) ≡ Some held
    → place ≡ operand_cursor r t (i ∷ q) → parent_of place ≡ Some parent → meaning (focus own) ≡ IsTerm s → b ≡ pairs.asks own parent place
operand_asked r t s i q held own parent place b is_b shows is at above self =
    let a : AskedAt r t (i ∷ q) held = asked_at r t i q held shows is in
    let both : Some a.parent ≡ Some parent = sym a.is_parent ∙ ap parent_of (sym at) ∙ above in
    let same : a.parent ≡ parent = cc in
    is_b ∙ one_or_other own parent place s held.term self (ap (λ o. meaning (focus o)) at ∙ operand_shown r t (i ∷ q) held shows is) above
    (subst (λ p. is_term_form (form_at p) || is_arguments (form_at p) ≡ true) same a.holds)
