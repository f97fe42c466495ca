-- The coarser test by precedences alone, that of `ExprPrecedence::needs_parentheses_in`: sides
-- don't count.
use Rattle.std.specs.Prelude.{ℕ, Bool, false, ◌&&◌, nat_lt, nat_le}
use Rattle.operator_terms.specs.Operators.{Arithmetic, Operator}
use Rattle.operator_terms.specs.Operators as op
use Rattle.operator_terms.specs.Term.{Term}
use Rattle.operator_terms.specs.Term as term

-- the precedences of `ExprPrecedence`
pub data Precedence : Type 0 where
  Jump Assign Range LOr LAnd Compare BitOr BitXor BitAnd Shift Sum Product Cast Prefix Postfix Unambiguous : Precedence

-- their order, rising
abbrev pub rank : Precedence → ℕ
rank Jump = 0
rank Assign = 1
rank Range = 2
rank LOr = 3
rank LAnd = 4
rank Compare = 5
rank BitOr = 6
rank BitXor = 7
rank BitAnd = 8
rank Shift = 9
rank Sum = 10
rank Product = 11
rank Cast = 12
rank Prefix = 13
rank Postfix = 14
rank Unambiguous = 15

abbrev pub arithmetic_precedence : Arithmetic → Precedence
arithmetic_precedence op.Add = Sum
arithmetic_precedence op.Subtract = Sum
arithmetic_precedence op.Multiply = Product
arithmetic_precedence op.Divide = Product
arithmetic_precedence op.Remainder = Product
arithmetic_precedence op.ShiftLeft = Shift
arithmetic_precedence op.ShiftRight = Shift
arithmetic_precedence op.BitXor = BitXor
arithmetic_precedence op.BitOr = BitOr
arithmetic_precedence op.BitAnd = BitAnd

abbrev pub operator_precedence : Operator → Precedence
operator_precedence op.Or = LOr
operator_precedence op.And = LAnd
operator_precedence (op.Compare c) = Compare
operator_precedence (op.Compute a) = arithmetic_precedence a
operator_precedence op.Assign = Assign
operator_precedence (op.AssignBy a) = Assign

-- the precedence of an expression, as `Expr::precedence` returns it
abbrev pub precedence : Term → Precedence
precedence (term.Literal kind text) = Unambiguous
precedence (term.Name text) = Unambiguous
precedence (term.Paren e) = Unambiguous
precedence (term.Field e n) = Postfix
precedence (term.Await e) = Postfix
precedence (term.Try e) = Postfix
precedence (term.Cast e n) = Cast
precedence (term.Method e n args) = Postfix
precedence (term.Call e args) = Postfix
precedence (term.Index e i) = Postfix
precedence (term.Prefix o e) = Prefix
precedence (term.Borrow mutable e) = Prefix
precedence (term.Binary o l r) = operator_precedence o
precedence term.RangeFull = Range
precedence (term.RangeFrom l) = Range
precedence (term.RangeTo inclusive r) = Range
precedence (term.Range inclusive l r) = Range

-- Whether an expression of the first precedence needs parentheses in one of the second: never if
-- the second is unambiguous; in a postfix if it binds less; in a prefix likewise, except for a
-- jump; otherwise unless it binds more.
abbrev pub needs_parentheses_in : Precedence → Precedence → Bool
needs_parentheses_in self Unambiguous = false
needs_parentheses_in self Postfix = nat_lt (rank self) (rank Postfix)
needs_parentheses_in self Prefix = nat_lt (rank Jump) (rank self) && nat_lt (rank self) (rank Prefix)
needs_parentheses_in self other = nat_le (rank self) (rank other)
