-- The test by powers asks for a pair exactly where the operand doesn't fit.
--
-- The test sees little of a term: of the operand only its shape, of the parent only which place of
-- which form it is. There are seven shapes, one of them with its operator, and eleven kinds of
-- places, two of them with their operator. So the test by powers and the test by levels are
-- compared by computing, one line for each kind of place and operator, and each such line covers
-- all shapes (`tests-agree`). The rest carries this over to terms and adds the rule on casts.
use Rattle.std.proofs.Common.{◌≡◌, ◌↔◌, ℕ, zero, suc, Bool, true, false, not, ◌&&◌, ◌||◌, leb, if◌then◌else◌, IfSome, refl, sym, ap, ◌∙◌, arith, leb-true, le-leb, subst}
use Rattle.operator_terms.specs.Operators.{Add, And, Assign, AssignBy, BitAnd, BitOr, BitXor, Compare, Compute, Divide, Multiply, Operator, Or, Remainder, ShiftLeft, ShiftRight, Subtract, left_demand, operator_level, right_demand}
use Rattle.operator_terms.specs.Term.{Await, Binary, Borrow, Call, Cast, Field, Index, Last, Literal, Method, More, Name, NoTerms, Paren, Prefix, Range, RangeFrom, RangeFull, RangeTo, Term, Terms, Try, is_field, level, tokens}
use Rattle.operator_terms.specs.Places.{AtLeast, Callee, Demand, Meets, argument, ends_in_cast, part, some_part}
use Rattle.operator_terms.specs.Powers.{needs_pair_at, Powers, binds_less, is_call, is_compare, is_comparison, is_excused, is_range, needs_pair_by_power, operator_powers, pow, powers, too_weak_at}
use Rattle.operator_terms.proofs.Bools.{both-true, true-both, not-true, not-false, or-false, and-known, and-of}

-- the forms, as far as the test sees them
data Shape : Type 0 where
  Whole Postfixed Fielded Prefixed Casted Ranged : Shape
  Joined : Operator → Shape

-- the places of parts, as far as the test sees them
data Spot : Type 0 where
  InParen FieldBase PostfixBase CalleeBase InIndex PrefixOperand CastBase RangeStart RangeEnd : Spot
  LeftOf RightOf : Operator → Spot

abbrev shape : Term → Shape
shape (Literal kind text) = Whole
shape (Name text) = Whole
shape (Paren e) = Whole
shape (Field e n) = Fielded
shape (Await e) = Postfixed
shape (Try e) = Postfixed
shape (Cast e n) = Casted
shape (Method e n args) = Postfixed
shape (Call e args) = Postfixed
shape (Index e i) = Postfixed
shape (Prefix op e) = Prefixed
shape (Borrow mutable e) = Prefixed
shape (Binary op l r) = Joined op
shape RangeFull = Ranged
shape (RangeFrom l) = Ranged
shape (RangeTo inclusive r) = Ranged
shape (Range inclusive l r) = Ranged

abbrev shape_powers : Shape → Powers
shape_powers Whole = pow 0 0
shape_powers Postfixed = pow 29 0
shape_powers Fielded = pow 31 32
shape_powers Prefixed = pow 0 27
shape_powers Casted = pow 25 26
shape_powers Ranged = pow 5 5
shape_powers (Joined op) = operator_powers op

abbrev shape_field : Shape → Bool
shape_field Fielded = true
shape_field _ = false

abbrev shape_compares : Shape → Bool
shape_compares (Joined op) = is_compare op
shape_compares _ = false

abbrev shape_ranges : Shape → Bool
shape_ranges Ranged = true
shape_ranges _ = false

-- a level from 0 to 14; primary is 14
abbrev shape_least : ℕ → Shape → Bool
shape_least k Whole = leb k 14
shape_least k Postfixed = leb k 13
shape_least k Fielded = leb k 13
shape_least k Prefixed = leb k 12
shape_least k Casted = leb k 11
shape_least k Ranged = leb k 1
shape_least k (Joined op) = leb k (operator_level op)

abbrev shape_meets : Demand → Shape → Bool
shape_meets (AtLeast k) s = shape_least k s
shape_meets Callee s = shape_least 13 s && not (shape_field s)

abbrev parent_shape : Spot → Shape
parent_shape InParen = Whole
parent_shape FieldBase = Fielded
parent_shape PostfixBase = Postfixed
parent_shape CalleeBase = Postfixed
parent_shape InIndex = Postfixed
parent_shape PrefixOperand = Prefixed
parent_shape CastBase = Casted
parent_shape RangeStart = Ranged
parent_shape RangeEnd = Ranged
parent_shape (LeftOf op) = Joined op
parent_shape (RightOf op) = Joined op

abbrev stands_before : Spot → Bool
stands_before InParen = false
stands_before FieldBase = true
stands_before PostfixBase = true
stands_before CalleeBase = true
stands_before InIndex = false
stands_before PrefixOperand = false
stands_before CastBase = true
stands_before RangeStart = true
stands_before RangeEnd = false
stands_before (LeftOf op) = true
stands_before (RightOf op) = false

abbrev spot_demand : Spot → Demand
spot_demand InParen = AtLeast 0
spot_demand FieldBase = AtLeast 13
spot_demand PostfixBase = AtLeast 13
spot_demand CalleeBase = Callee
spot_demand InIndex = AtLeast 0
spot_demand PrefixOperand = AtLeast 12
spot_demand CastBase = AtLeast 11
spot_demand RangeStart = AtLeast 2
spot_demand RangeEnd = AtLeast 2
spot_demand (LeftOf op) = AtLeast (left_demand op)
spot_demand (RightOf op) = AtLeast (right_demand op)

abbrev is_callee : Spot → Bool
is_callee CalleeBase = true
is_callee _ = false

abbrev shape_needs : Shape → Spot → Bool
shape_needs self spot =
    if shape_field self && is_callee spot then true
    else (if is_excused (shape_powers self) (shape_powers (parent_shape spot)) (stands_before spot) then false
    else (if (shape_compares self && shape_compares (parent_shape spot)) || (shape_ranges self && shape_ranges (parent_shape spot)) then true
    else binds_less (shape_powers self) (shape_powers (parent_shape spot)) (stands_before spot)))

-- by cases: the test by powers is the test by levels
tests-agree : (spot : Spot) (self : Shape) → shape_needs self spot ≡ not (shape_meets (spot_demand spot) self)
tests-agree InParen (Joined (Compute Add)) = refl
tests-agree InParen _ = refl
tests-agree FieldBase (Joined (Compute Add)) = refl
tests-agree FieldBase _ = refl
tests-agree PostfixBase (Joined (Compute Add)) = refl
tests-agree PostfixBase _ = refl
tests-agree CalleeBase (Joined (Compute Add)) = refl
tests-agree CalleeBase _ = refl
tests-agree InIndex (Joined (Compute Add)) = refl
tests-agree InIndex _ = refl
tests-agree PrefixOperand (Joined (Compute Add)) = refl
tests-agree PrefixOperand _ = refl
tests-agree CastBase (Joined (Compute Add)) = refl
tests-agree CastBase _ = refl
tests-agree RangeStart (Joined (Compute Add)) = refl
tests-agree RangeStart _ = refl
tests-agree RangeEnd (Joined (Compute Add)) = refl
tests-agree RangeEnd _ = refl
tests-agree (LeftOf Or) (Joined (Compute Add)) = refl
tests-agree (LeftOf Or) _ = refl
tests-agree (LeftOf And) (Joined (Compute Add)) = refl
tests-agree (LeftOf And) _ = refl
tests-agree (LeftOf (Compare c)) (Joined (Compute Add)) = refl
tests-agree (LeftOf (Compare c)) _ = refl
tests-agree (LeftOf Assign) (Joined (Compute Add)) = refl
tests-agree (LeftOf Assign) _ = refl
tests-agree (LeftOf (AssignBy a)) (Joined (Compute Add)) = refl
tests-agree (LeftOf (AssignBy a)) _ = refl
tests-agree (LeftOf (Compute Add)) (Joined (Compute Add)) = refl
tests-agree (LeftOf (Compute Add)) _ = refl
tests-agree (LeftOf (Compute Subtract)) (Joined (Compute Add)) = refl
tests-agree (LeftOf (Compute Subtract)) _ = refl
tests-agree (LeftOf (Compute Multiply)) (Joined (Compute Add)) = refl
tests-agree (LeftOf (Compute Multiply)) _ = refl
tests-agree (LeftOf (Compute Divide)) (Joined (Compute Add)) = refl
tests-agree (LeftOf (Compute Divide)) _ = refl
tests-agree (LeftOf (Compute Remainder)) (Joined (Compute Add)) = refl
tests-agree (LeftOf (Compute Remainder)) _ = refl
tests-agree (LeftOf (Compute ShiftLeft)) (Joined (Compute Add)) = refl
tests-agree (LeftOf (Compute ShiftLeft)) _ = refl
tests-agree (LeftOf (Compute ShiftRight)) (Joined (Compute Add)) = refl
tests-agree (LeftOf (Compute ShiftRight)) _ = refl
tests-agree (LeftOf (Compute BitXor)) (Joined (Compute Add)) = refl
tests-agree (LeftOf (Compute BitXor)) _ = refl
tests-agree (LeftOf (Compute BitOr)) (Joined (Compute Add)) = refl
tests-agree (LeftOf (Compute BitOr)) _ = refl
tests-agree (LeftOf (Compute BitAnd)) (Joined (Compute Add)) = refl
tests-agree (LeftOf (Compute BitAnd)) _ = refl
tests-agree (RightOf Or) (Joined (Compute Add)) = refl
tests-agree (RightOf Or) _ = refl
tests-agree (RightOf And) (Joined (Compute Add)) = refl
tests-agree (RightOf And) _ = refl
tests-agree (RightOf (Compare c)) (Joined (Compute Add)) = refl
tests-agree (RightOf (Compare c)) _ = refl
tests-agree (RightOf Assign) (Joined (Compute Add)) = refl
tests-agree (RightOf Assign) _ = refl
tests-agree (RightOf (AssignBy a)) (Joined (Compute Add)) = refl
tests-agree (RightOf (AssignBy a)) _ = refl
tests-agree (RightOf (Compute Add)) (Joined (Compute Add)) = refl
tests-agree (RightOf (Compute Add)) _ = refl
tests-agree (RightOf (Compute Subtract)) (Joined (Compute Add)) = refl
tests-agree (RightOf (Compute Subtract)) _ = refl
tests-agree (RightOf (Compute Multiply)) (Joined (Compute Add)) = refl
tests-agree (RightOf (Compute Multiply)) _ = refl
tests-agree (RightOf (Compute Divide)) (Joined (Compute Add)) = refl
tests-agree (RightOf (Compute Divide)) _ = refl
tests-agree (RightOf (Compute Remainder)) (Joined (Compute Add)) = refl
tests-agree (RightOf (Compute Remainder)) _ = refl
tests-agree (RightOf (Compute ShiftLeft)) (Joined (Compute Add)) = refl
tests-agree (RightOf (Compute ShiftLeft)) _ = refl
tests-agree (RightOf (Compute ShiftRight)) (Joined (Compute Add)) = refl
tests-agree (RightOf (Compute ShiftRight)) _ = refl
tests-agree (RightOf (Compute BitXor)) (Joined (Compute Add)) = refl
tests-agree (RightOf (Compute BitXor)) _ = refl
tests-agree (RightOf (Compute BitOr)) (Joined (Compute Add)) = refl
tests-agree (RightOf (Compute BitOr)) _ = refl
tests-agree (RightOf (Compute BitAnd)) (Joined (Compute Add)) = refl
tests-agree (RightOf (Compute BitAnd)) _ = refl

-- ---- from shapes to terms

least-shape : (k : ℕ) (t : Term) → shape_least k (shape t) ≡ leb k (level t)
least-shape k (Paren e) = refl
least-shape k _ = refl

field-shape : (t : Term) → shape_field (shape t) ≡ is_field t
field-shape (Paren e) = refl
field-shape _ = refl

-- the test, over the operand's shape
abbrev needs_by : Shape → Term → Bool → Bool
needs_by self parent before =
    if shape_field self && is_call parent then true
    else (if is_excused (shape_powers self) (powers parent) before then false
    else (if (shape_compares self && is_comparison parent) || (shape_ranges self && is_range parent) then true
    else binds_less (shape_powers self) (powers parent) before))

needs-shape : (self parent : Term) (before : Bool) → needs_pair_by_power self parent before ≡ needs_by (shape self) parent before
needs-shape (Paren e) parent before = refl
needs-shape _ parent before = refl

meets-shape : (d : Demand) (t : Term) → shape_meets d (shape t) ≡ true ↔ Meets d t
meets-shape (AtLeast k) t = (λ h. leb-true k (level t) (sym (least-shape k t) ∙ h), λ h. least-shape k t ∙ le-leb k (level t) h)
meets-shape Callee t = (
  (λ h. let parts = both-true (shape_least 13 (shape t)) (not (shape_field (shape t))) h in
      (leb-true 13 (level t) (sym (least-shape 13 t) ∙ parts.0), sym (field-shape t) ∙ not-true (shape_field (shape t)) parts.1)),
  (λ h. true-both (shape_least 13 (shape t)) (not (shape_field (shape t))) (least-shape 13 t ∙ le-leb 13 (level t) h.0) (ap not (field-shape t ∙ h.1))),
)

exact : (spot : Spot) (self : Term) (answer : Bool) → answer ≡ shape_needs (shape self) spot → answer ≡ false ↔ Meets (spot_demand spot) self
exact spot self answer e =
    let agree = tests-agree spot (shape self) in (
      (λ no. (meets-shape (spot_demand spot) self).0 (not-false _ (sym agree ∙ sym e ∙ no))),
      (λ m. e ∙ agree ∙ ap not ((meets-shape (spot_demand spot) self).1 m)),
    )

argument-asks : (es : Terms) (i : ℕ) → IfSome (argument es i) (λ p. (self : Term) → false ≡ false ↔ Meets p.demand self)
argument-asks NoTerms i = tt
argument-asks (Last e) zero = λ self. (λ no. omega arith, λ m. refl)
argument-asks (Last e) (suc i) = tt
argument-asks (More e es) zero = λ self. (λ no. omega arith, λ m. refl)
argument-asks (More e es) (suc i) = argument-asks es i

too_weak_exactly : (t : Term) (i : ℕ) → IfSome (part t i) (λ p. (self : Term) → too_weak_at t i self ≡ false ↔ Meets p.demand self)
too_weak_exactly (Method e n args) (suc i) = argument-asks args i
too_weak_exactly (Call e args) (suc i) = argument-asks args i
too_weak_exactly (Paren e) zero = λ self. exact InParen self (needs_pair_by_power self (Paren e) false) (needs-shape self (Paren e) false)
too_weak_exactly (Field e n) zero = λ self. exact FieldBase self (needs_pair_by_power self (Field e n) true) (needs-shape self (Field e n) true)
too_weak_exactly (Cast e n) zero = λ self. exact CastBase self (needs_pair_by_power self (Cast e n) true) (needs-shape self (Cast e n) true)
too_weak_exactly (Await e) zero = λ self. exact PostfixBase self (needs_pair_by_power self (Await e) true) (needs-shape self (Await e) true)
too_weak_exactly (Try e) zero = λ self. exact PostfixBase self (needs_pair_by_power self (Try e) true) (needs-shape self (Try e) true)
too_weak_exactly (Method e n args) zero = λ self. exact PostfixBase self (needs_pair_by_power self (Method e n args) true) (needs-shape self (Method e n args) true)
too_weak_exactly (Call e args) zero = λ self. exact CalleeBase self (needs_pair_by_power self (Call e args) true) (needs-shape self (Call e args) true)
too_weak_exactly (Index e i) zero = λ self. exact PostfixBase self (needs_pair_by_power self (Index e i) true) (needs-shape self (Index e i) true)
too_weak_exactly (Index e i) (suc zero) = λ self. exact InIndex self (needs_pair_by_power self (Index e i) false) (needs-shape self (Index e i) false)
too_weak_exactly (Prefix op e) zero = λ self. exact PrefixOperand self (needs_pair_by_power self (Prefix op e) false) (needs-shape self (Prefix op e) false)
too_weak_exactly (Borrow mutable e) zero = λ self. exact PrefixOperand self (needs_pair_by_power self (Borrow mutable e) false) (needs-shape self (Borrow mutable e) false)
too_weak_exactly (Binary op l r) zero = λ self. exact (LeftOf op) self (needs_pair_by_power self (Binary op l r) true) (needs-shape self (Binary op l r) true)
too_weak_exactly (Binary op l r) (suc zero) = λ self. exact (RightOf op) self (needs_pair_by_power self (Binary op l r) false) (needs-shape self (Binary op l r) false)
too_weak_exactly (RangeFrom l) zero = λ self. exact RangeStart self (needs_pair_by_power self (RangeFrom l) true) (needs-shape self (RangeFrom l) true)
too_weak_exactly (RangeTo inclusive r) zero = λ self. exact RangeEnd self (needs_pair_by_power self (RangeTo inclusive r) false) (needs-shape self (RangeTo inclusive r) false)
too_weak_exactly (Range inclusive l r) zero = λ self. exact RangeStart self (needs_pair_by_power self (Range inclusive l r) true) (needs-shape self (Range inclusive l r) true)
too_weak_exactly (Range inclusive l r) (suc zero) = λ self. exact RangeEnd self (needs_pair_by_power self (Range inclusive l r) false) (needs-shape self (Range inclusive l r) false)
too_weak_exactly _ _ = tt

-- for any operand at the place of a part
pub too_weak_where_unmet : (t : Term) (i : ℕ) (d : Demand) (e self : Term) → part t i ≡ some_part d e → too_weak_at t i self ≡ false ↔ Meets d self
too_weak_where_unmet t i d e self at = let found : (x : Term) → too_weak_at t i x ≡ false ↔ Meets d x = subst (λ o. IfSome o (λ p. (x : Term) → too_weak_at t i x ≡ false ↔ Meets p.demand x)) at (too_weak_exactly t i) in found self

-- ---- the test by powers, with the rule on casts

pub needs_where_unfit : (t : Term) (i : ℕ) (d : Demand) (e self : Term) (angle : Bool) → part t i ≡ some_part d e → needs_pair_at t i angle self ≡ false ↔ (Meets d self × (ends_in_cast (tokens self) ≡ true → angle ≡ false))
needs_where_unfit t i d e self angle at =
    let levels = too_weak_where_unmet t i d e self at in (
      (λ h. let parts = or-false (ends_in_cast (tokens self) && angle) (too_weak_at t i self) h in (levels.0 parts.1, and-known (ends_in_cast (tokens self)) angle parts.0)),
      (λ m. ap (λ b. b || too_weak_at t i self) (and-of (ends_in_cast (tokens self)) angle m.1) ∙ levels.1 m.0),
    )
