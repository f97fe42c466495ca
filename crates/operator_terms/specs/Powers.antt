-- The test for parentheses by binding powers, that of rust-analyzer's `Expr::needs_parens_in` with
-- the three exceptions in docs/DIFFERENCES.md: each form has a left and a right power, and a part
-- is before or after the operator of the form that contains it.
use Rattle.std.specs.Prelude.{ℕ, zero, suc, Bool, true, false, not, ◌&&◌, ◌||◌, nat_eq, nat_lt, if◌then◌else◌}
use Rattle.operator_terms.specs.Operators.{Arithmetic, Add, Subtract, Multiply, Divide, Remainder, ShiftLeft, ShiftRight, BitXor, BitOr, BitAnd, Operator, Or, And, Compare, Compute, Assign, AssignBy}
use Rattle.operator_terms.specs.Term.{Term, Literal, Name, Paren, Field, Await, Try, Cast, Method, Call, Index, Prefix, Borrow, Binary, RangeFull, RangeFrom, RangeTo, Range, is_field, tokens}
use Rattle.operator_terms.specs.Places.{ends_in_cast}

-- How strongly a form binds on its left and on its right. A power of 0 marks a side without an
-- operand: a prefix has none on its left, a postfix none on its right. Fields, casts and open
-- ranges are exceptions: both of their powers are nonzero.
pub record Powers : Type 0 where
  pub left : ℕ
  pub right : ℕ

abbrev pub pow : ℕ → ℕ → Powers
pow l r = record { left = l; right = r }

abbrev pub arithmetic_powers : Arithmetic → Powers
arithmetic_powers Add = pow 21 22
arithmetic_powers Subtract = pow 21 22
arithmetic_powers Multiply = pow 23 24
arithmetic_powers Divide = pow 23 24
arithmetic_powers Remainder = pow 23 24
arithmetic_powers ShiftLeft = pow 19 20
arithmetic_powers ShiftRight = pow 19 20
arithmetic_powers BitXor = pow 15 16
arithmetic_powers BitOr = pow 13 14
arithmetic_powers BitAnd = pow 17 18

abbrev pub operator_powers : Operator → Powers
operator_powers Or = pow 7 8
operator_powers And = pow 9 10
operator_powers (Compare c) = pow 11 11
operator_powers (Compute a) = arithmetic_powers a
operator_powers Assign = pow 4 3
operator_powers (AssignBy a) = pow 4 3

abbrev pub powers : Term → Powers
powers (Literal kind text) = pow 0 0
powers (Name text) = pow 0 0
powers (Paren e) = pow 0 0
powers (Field e n) = pow 31 32
powers (Await e) = pow 29 0
powers (Try e) = pow 29 0
powers (Cast e n) = pow 25 26
powers (Method e n args) = pow 29 0
powers (Call e args) = pow 29 0
powers (Index e i) = pow 29 0
powers (Prefix op e) = pow 0 27
powers (Borrow mutable e) = pow 0 27
powers (Binary op l r) = operator_powers op
powers RangeFull = pow 5 5
powers (RangeFrom l) = pow 5 5
powers (RangeTo inclusive r) = pow 5 5
powers (Range inclusive l r) = pow 5 5

abbrev pub is_compare : Operator → Bool
is_compare (Compare c) = true
is_compare _ = false

abbrev pub is_comparison : Term → Bool
is_comparison (Binary op l r) = is_compare op
is_comparison _ = false

abbrev pub is_range : Term → Bool
is_range RangeFull = true
is_range (RangeFrom l) = true
is_range (RangeTo inclusive r) = true
is_range (Range inclusive l r) = true
is_range _ = false

abbrev pub is_call : Term → Bool
is_call (Call e args) = true
is_call _ = false

-- by its powers a form is like a pair (it binds on neither side), like a prefix, or like a postfix

abbrev pub like_paren : Powers → Bool
like_paren p = nat_eq p.left 0 && nat_eq p.right 0

abbrev pub like_prefix : Powers → Bool
like_prefix p = nat_eq p.left 0 && not (nat_eq p.right 0)

abbrev pub like_postfix : Powers → Bool
like_postfix p = not (nat_eq p.left 0) && nat_eq p.right 0

-- The powers don't matter: one of the two is like a pair; or the operand is like a prefix and the
-- parent's operator is in front of it or is a prefix too; or it is like a postfix and the parent's
-- operator is after it or is a postfix.
abbrev pub is_excused : Powers → Powers → Bool → Bool
is_excused self parent before =
    like_paren self || like_paren parent
    || (like_prefix self && (like_prefix parent || not before))
    || (like_postfix self && (like_postfix parent || before))

-- the operand binds less on the side of the parent's operator than that operator does
abbrev pub binds_less : Powers → Powers → Bool → Bool
binds_less self parent before = if before then nat_lt self.right parent.left else not (nat_lt parent.right self.left)

-- An operand needs a pair in its parent where the first of these rules that applies says so. A
-- field that is called needs one. One whose powers don't matter needs none. A comparison in a
-- comparison and a range in a range need one. Else it needs one where it binds less. `before`: the
-- operand precedes the parent's operator.
abbrev pub needs_pair_by_power : Term → Term → Bool → Bool
needs_pair_by_power self parent before =
    if is_field self && is_call parent then true
    else (if is_excused (powers self) (powers parent) before then false
    else (if (is_comparison self && is_comparison parent) || (is_range self && is_range parent) then true
    else binds_less (powers self) (powers parent) before))

-- the part of this number precedes the form's operator
abbrev pub part_before : Term → ℕ → Bool
part_before (Paren e) i = false
part_before (Prefix op e) i = false
part_before (Borrow mutable e) i = false
part_before (RangeTo inclusive r) i = false
part_before t zero = true
part_before t (suc i) = false

-- The rules on powers for an operand in place of the form's part of this number. An argument's own
-- parent is the list of arguments, which is no expression and requires no pair.
abbrev pub too_weak_at : Term → ℕ → Term → Bool
too_weak_at (Method e n args) (suc i) self = false
too_weak_at (Call e args) (suc i) self = false
too_weak_at t i self = needs_pair_by_power self t (part_before t i)

-- The test: whether `self` needs a pair in place of the form's part of this number. The flag says
-- whether `<` or `<<` follows it: if it does, an operand that ends in a cast's name needs a pair,
-- whether or not it is a cast.
abbrev pub needs_pair_at : Term → ℕ → Bool → Term → Bool
needs_pair_at t i angle self = (ends_in_cast (tokens self) && angle) || too_weak_at t i self
