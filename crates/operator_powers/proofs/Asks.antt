-- The rules on powers and starts, asked at an operand of a node that shows a term, are the test
-- over terms.
use Rattle.std.proofs.Common.{◌≡◌, ◌≤◌, ◌<◌, ◌-◌, ℕ, zero, suc, List, [], ◌∷◌, Bool, true, false, ◌&&◌, map, length, get_or, Some, IfSome, nat_eq, refl, sym, ap, subst, ◌∙◌, arith}
use Rattle.tree_model.specs.Tree.{Forest, forest_text}
use Rattle.operator_terms.specs.Operators.{Operator, Compute, Add, Subtract, Multiply, Divide, Remainder, ShiftLeft, ShiftRight, BitXor, BitOr, BitAnd, Dereference, Not, Negate}
use Rattle.operator_terms.specs.Term.{Term, Literal, Name, Paren, Field, Await, Try, Cast, Method, Call, Index, Prefix, Borrow, Binary, RangeFull, RangeFrom, RangeTo, Range}
use Rattle.operator_terms.specs.Places.{Part, part}
use Rattle.operator_terms.specs.Powers.{powers, operator_powers, part_before}
use Rattle.operator_trees.specs.declared.form.Form.{Form}
use Rattle.operator_trees.specs.Shown.{IsTerm, IsNothing, means, meanings, meaning}
use Rattle.operator_trees.specs.Shape.{kid_meanings, term_form}
use Rattle.operator_trees.specs.Before.{stands_before, Kid, kid_end, kids, no_kid, From, part_kid, is_direct}
use Rattle.std.proofs.Common.{if◌then◌else◌}
use Rattle.operator_terms.specs.Term.{is_field}
use Rattle.operator_terms.specs.Powers.{is_call, is_comparison, is_compare, is_range, needs_pair_by_power}
use Rattle.operator_trees.proofs.Inversion.{no, term_parts, term_formed}
use Rattle.operator_trees.proofs.Sides.{meanings-kids, From-kids, in_order, From-start, term_has_text, stands_before-side, side_right, is_some, part_stands}
use Rattle.std.proofs.lemmas.List.{length-map}
use Rattle.operator_powers.proofs.Orders.{StartIs, start_shown, powers_shown, node_order}
use Rattle.operator_powers.specs.Rules.{operator_start, by_power, is_field_form, is_call_form, asks}

-- ---- what forms and powers tell of a term

field-form : (t : Term) → is_field_form (term_form t) ≡ is_field t
field-form (Paren e) = refl
field-form _ = refl

call-form : (t : Term) → is_call_form (term_form t) ≡ is_call t
call-form (Paren e) = refl
call-form _ = refl

compare-power : (op : Operator) → nat_eq (operator_powers op).left 11 ≡ is_compare op
compare-power (Compute Add) = refl
compare-power (Compute Subtract) = refl
compare-power (Compute Multiply) = refl
compare-power (Compute Divide) = refl
compare-power (Compute Remainder) = refl
compare-power (Compute ShiftLeft) = refl
compare-power (Compute ShiftRight) = refl
compare-power (Compute BitXor) = refl
compare-power (Compute BitOr) = refl
compare-power (Compute BitAnd) = refl
compare-power _ = refl

comparison-power : (t : Term) → nat_eq (powers t).left 11 ≡ is_comparison t
comparison-power (Binary op l r) = compare-power op
comparison-power _ = refl

no-range : (op : Operator) → nat_eq (operator_powers op).left 5 ≡ false
no-range (Compute Add) = refl
no-range (Compute Subtract) = refl
no-range (Compute Multiply) = refl
no-range (Compute Divide) = refl
no-range (Compute Remainder) = refl
no-range (Compute ShiftLeft) = refl
no-range (Compute ShiftRight) = refl
no-range (Compute BitXor) = refl
no-range (Compute BitOr) = refl
no-range (Compute BitAnd) = refl
no-range _ = refl

range-power : (t : Term) → nat_eq (powers t).left 5 ≡ is_range t
range-power (Binary op l r) = no-range op
range-power _ = refl

pub by-power : (s t : Term) (before : Bool) → (if is_field_form (term_form s) && is_call_form (term_form t) then true else by_power (powers s) (powers t) before) ≡ needs_pair_by_power s t before
by-power s t before = rw (field-form s, call-form t, comparison-power s, comparison-power t, range-power s, range-power t) refl

-- ---- on which side the parent's operator starts

abbrev Side : Bool → ℕ → ℕ → ℕ → Type 0
Side true from to o = to ≤ o
Side false from to o = o ≤ from

side_start : (before : Bool) (b n : ℕ) (ks : List Kid) (i j o : ℕ) → From b ks → n ≡ length ks → side_right n before i j ≡ true → o ≡ (get_or ks j no_kid).start
    → Side before (get_or ks i no_kid).start (kid_end (get_or ks i no_kid)) o
side_start true b n ks i j o w e s at =
    let lt : i < j = grind arith in
    let in_list : j < length ks = grind arith in
    omega (arith, in_order b ks i j w lt in_list)
side_start false b n ks i j o w e s at =
    let lt : j < i = grind arith in
    let in_list : i < length ks = grind arith in
    omega (arith, in_order b ks j i w lt in_list)

call_side : (b n : ℕ) (ks : List Kid) (o : ℕ) → From b ks → 2 ≡ length ks → (get_or ks 1 no_kid).start ≤ o → kid_end (get_or ks 0 no_kid) ≤ o
call_side b n ks o w e h = omega (arith, in_order b ks 0 1 w (omega arith) (omega arith))

front_side : (b : ℕ) (ks : List Kid) (i o : ℕ) → From b ks → i < length ks → o ≡ b → o ≤ (get_or ks i no_kid).start
front_side b ks i o w h e = omega (arith, From-start b ks i w h)

parent_side : (t : Term) (b : ℕ) (ks : List Kid) (i o : ℕ) → From b ks → length (kid_meanings t) ≡ length ks → is_some (part t i) ≡ true → is_direct t i ≡ true → StartIs t ks b o
    → Side (part_before t i) (get_or ks (part_kid t i) no_kid).start (kid_end (get_or ks (part_kid t i) no_kid)) o
parent_side (Literal k x) b ks i o w n h d at = absurd (no h)
parent_side (Name x) b ks i o w n h d at = absurd (no h)
parent_side RangeFull b ks i o w n h d at = absurd (no h)
parent_side (Paren e) b ks zero o w n h d at = front_side b ks 1 o w (omega arith) at
parent_side (Prefix Not e) b ks zero o w n h d at = front_side b ks 1 o w (omega arith) at
parent_side (Prefix Dereference e) b ks zero o w n h d at = front_side b ks 1 o w (omega arith) at
parent_side (Prefix Negate e) b ks zero o w n h d at = front_side b ks 1 o w (omega arith) at
parent_side (Call e args) b ks zero o w n h d at = call_side b 2 ks o w n at.0
parent_side (Call e args) b ks (suc i) o w n h d at = absurd (no d)
parent_side (Method e m args) b ks zero o w n h d at = side_start true b 4 ks 0 1 o w n refl at
parent_side (Method e m args) b ks (suc i) o w n h d at = absurd (no d)
parent_side (Field e m) b ks zero o w n h d at = side_start true b 3 ks 0 1 o w n refl at
parent_side (Await e) b ks zero o w n h d at = side_start true b 3 ks 0 1 o w n refl at
parent_side (Try e) b ks zero o w n h d at = side_start true b 2 ks 0 1 o w n refl at
parent_side (Cast e m) b ks zero o w n h d at = side_start true b 3 ks 0 1 o w n refl at
parent_side (Index e i) b ks zero o w n h d at = side_start true b 4 ks 0 1 o w n refl at
parent_side (Index e i) b ks (suc zero) o w n h d at = side_start false b 4 ks 2 1 o w n refl at
parent_side (Borrow true e) b ks zero o w n h d at = side_start false b 3 ks 2 0 o w n refl at
parent_side (Borrow false e) b ks zero o w n h d at = side_start false b 2 ks 1 0 o w n refl at
parent_side (Binary op l r) b ks zero o w n h d at = side_start true b 3 ks 0 1 o w n refl at
parent_side (Binary op l r) b ks (suc zero) o w n h d at = side_start false b 3 ks 2 1 o w n refl at
parent_side (RangeFrom l) b ks zero o w n h d at = side_start true b 2 ks 0 1 o w n refl at
parent_side (RangeTo inclusive r) b ks zero o w n h d at = side_start false b 2 ks 1 0 o w n refl at
parent_side (Range inclusive l r) b ks zero o w n h d at = side_start true b 3 ks 0 1 o w n refl at
parent_side (Range inclusive l r) b ks (suc zero) o w n h d at = side_start false b 3 ks 2 1 o w n refl at
parent_side t b ks i o w n h d at = absurd (no h)

before_by_side : (before : Bool) (order size from to o : ℕ) → order < size → from < to → Side before from to o → stands_before order size from to o ≡ before
before_by_side true order size from to o h g s = stands_before-side order size from to o h g ∙ (grind arith)
before_by_side false order size from to o h g s = stands_before-side order size from to o h g ∙ (grind arith)

-- The rules, asked of what shows a term in place of the part's kid, are the test over terms. The
-- kid starts at byte `from`.
pub asks_right : (own : Form) (oc : Forest) (os : ℕ) (s : Term) (parent : Form) (pc : Forest) (ps : ℕ) (t : Term) (i : ℕ) (p : Part) (kid : Kid)
    → means own (meanings oc) ≡ IsTerm s → means parent (meanings pc) ≡ IsTerm t → part t i ≡ Some p → is_direct t i ≡ true
    → kid ≡ get_or (kids 0 ps pc) (part_kid t i) no_kid
    → asks own oc os (length (forest_text oc)) kid.start (kid_end kid) parent pc ps ≡ needs_pair_by_power s t (part_before t i)
asks_right own oc os s parent pc ps t i p kid self shows is direct at =
    let parts : map (λ k. meaning k.tree) (kids 0 ps pc) ≡ kid_meanings t = meanings-kids 0 ps pc ∙ term_parts parent (meanings pc) t shows in
    let count : length (kid_meanings t) ≡ length (kids 0 ps pc) = sym (ap length parts) ∙ length-map (kids 0 ps pc) (λ x. meaning x.tree) in
    let side : Side (part_before t i) kid.start (kid_end kid) (operator_start parent pc ps) =
    subst (λ k. Side (part_before t i) k.start (kid_end k) (operator_start parent pc ps)) (sym at)
    (parent_side t ps (kids 0 ps pc) i (operator_start parent pc ps) (From-kids 0 ps pc) count (ap is_some is) direct (start_shown parent pc t ps shows)) in
    let there : meaning kid.tree ≡ IsTerm p.term = ap (λ k. meaning k.tree) at ∙ get_kid (kids 0 ps pc) (part_kid t i) ∙ ap (λ ms. get_or ms (part_kid t i) IsNothing) parts ∙ subst (λ o. IfSome o (λ p. get_or (kid_meanings t) (part_kid t i) IsNothing ≡ IsTerm p.term)) is (part_stands t i direct) in
    let filled : kid.start < kid_end kid = omega (arith, term_has_text kid.tree p.term there) in
    let inside = node_order own oc s os self in
    let order : operator_start own oc os - os < length (forest_text oc) = omega (arith, inside.0, inside.1) in
    let before : stands_before (operator_start own oc os - os) (length (forest_text oc)) kid.start (kid_end kid) (operator_start parent pc ps) ≡ part_before t i =
    before_by_side (part_before t i) _ _ _ _ _ order filled side in
    rw (before, powers_shown own oc s os self, powers_shown parent pc t ps shows, term_formed own (meanings oc) s self, term_formed parent (meanings pc) t shows) (by-power s t (part_before t i))
  where
    get_kid : (ks : List Kid) (n : ℕ) → meaning (get_or ks n no_kid).tree ≡ get_or (map (λ k. meaning k.tree) ks) n IsNothing
    get_kid [] n = refl
    get_kid (k ∷ ks) zero = refl
    get_kid (k ∷ ks) (suc n) = get_kid ks n
