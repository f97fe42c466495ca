-- "Every operand has its level" by the structure of the term, and what is used of the operators'
-- numbers.
use Rattle.std.proofs.Common.{◌≡◌, ◌≤◌, suc, false, arith}
use Rattle.operator_terms.specs.Operators.{Add, And, Arithmetic, Assign, AssignBy, BitAnd, BitOr, BitXor, Compare, Compute, Divide, Multiply, Operator, Or, Remainder, ShiftLeft, ShiftRight, Subtract, arithmetic_level, left_demand, operator_level, right_demand}
use Rattle.operator_terms.specs.Term.{Await, Binary, Borrow, Call, Cast, Field, Index, Last, Literal, Method, More, Name, NoTerms, Paren, Prefix, Range, RangeFrom, RangeFull, RangeTo, Term, Terms, Try, is_field, level}

-- the parts of a term, at every depth, have the levels that their places demand
abbrev mutual
  pub PartsFit : Term → Type 0
  PartsFit (Literal kind text) = Unit {0}
  PartsFit (Name text) = Unit {0}
  PartsFit (Paren e) = PartsFit e
  PartsFit (Field e n) = (13 ≤ level e) × PartsFit e
  PartsFit (Await e) = (13 ≤ level e) × PartsFit e
  PartsFit (Cast e n) = (11 ≤ level e) × PartsFit e
  PartsFit (Try e) = (13 ≤ level e) × PartsFit e
  PartsFit (Method e n args) = (13 ≤ level e) × PartsFit e × ArgumentsFit args
  PartsFit (Call e args) = (13 ≤ level e) × (is_field e ≡ false) × PartsFit e × ArgumentsFit args
  PartsFit (Index e i) = (13 ≤ level e) × PartsFit e × PartsFit i
  PartsFit (Prefix op e) = (12 ≤ level e) × PartsFit e
  PartsFit (Borrow mutable e) = (12 ≤ level e) × PartsFit e
  PartsFit (Binary op l r) = (left_demand op ≤ level l) × (right_demand op ≤ level r) × PartsFit l × PartsFit r
  PartsFit RangeFull = Unit {0}
  PartsFit (RangeFrom l) = (2 ≤ level l) × PartsFit l
  PartsFit (RangeTo inclusive r) = (2 ≤ level r) × PartsFit r
  PartsFit (Range inclusive l r) = (2 ≤ level l) × (2 ≤ level r) × PartsFit l × PartsFit r

  pub ArgumentsFit : Terms → Type 0
  ArgumentsFit NoTerms = Unit {0}
  ArgumentsFit (Last e) = PartsFit e
  ArgumentsFit (More e es) = PartsFit e × ArgumentsFit es

pub arithmetic_range : (a : Arithmetic) → (5 ≤ arithmetic_level a) × (arithmetic_level a ≤ 10)
arithmetic_range Add = omega arith
arithmetic_range Subtract = omega arith
arithmetic_range Multiply = omega arith
arithmetic_range Divide = omega arith
arithmetic_range Remainder = omega arith
arithmetic_range ShiftLeft = omega arith
arithmetic_range ShiftRight = omega arith
arithmetic_range BitXor = omega arith
arithmetic_range BitOr = omega arith
arithmetic_range BitAnd = omega arith

-- an operator's level lies below its left demand, and both are small
pub record Numbers (op : Operator) : Type 0 where
  pub left_some : 1 ≤ left_demand op
  pub left_above : operator_level op ≤ left_demand op
  pub small : operator_level op ≤ 10
  pub right_above : 1 ≤ operator_level op → right_demand op ≡ suc (operator_level op)
  pub left_small : left_demand op ≤ 10
  pub right_small : right_demand op ≤ 11

pub numbers : (op : Operator) → Numbers op
numbers Or = omega arith
numbers And = omega arith
numbers (Compare c) = omega arith
numbers (Compute a) = let h = arithmetic_range a in omega arith
numbers Assign = omega arith
numbers (AssignBy a) = omega arith
