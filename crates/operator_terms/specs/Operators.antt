-- The operators and literals of operator expressions: closed sets, each tied to the kind of its
-- token, with the level of each binary operator and what it demands of its two sides.
use Rattle.std.specs.Prelude.{ℕ, suc, Bool, true, false}
use Rattle.syntax_kind.specs.declared.syntax_kind.token_kind.TokenKind.{TokenKind}
use Rattle.syntax_kind.specs.declared.syntax_kind.token_kind.TokenKind.TheVariants as token

-- the literals that are one token (Rust Reference, "Literal expressions")
pub data LiteralKind : Type 0 where
  Int Float Char Byte Str ByteStr CStr True False : LiteralKind

abbrev pub literal_kind : LiteralKind → TokenKind
literal_kind Int = token.INT_NUMBER
literal_kind Float = token.FLOAT_NUMBER
literal_kind Char = token.CHAR
literal_kind Byte = token.BYTE
literal_kind Str = token.STRING
literal_kind ByteStr = token.BYTE_STRING
literal_kind CStr = token.C_STRING
literal_kind True = token.TRUE_KW
literal_kind False = token.FALSE_KW

-- ---- binary operators (Rust Reference, "Operator expressions")

pub data Arithmetic : Type 0 where
  Add Subtract Multiply Divide Remainder ShiftLeft ShiftRight BitXor BitOr BitAnd : Arithmetic

pub data Comparison : Type 0 where
  Equal NotEqual Less LessOrEqual Greater GreaterOrEqual : Comparison

-- `||`, `&&`, a comparison, arithmetic and bits, `=`, and the likes of `+=`
pub data Operator : Type 0 where
  Or And : Operator
  Compare : Comparison → Operator
  Compute : Arithmetic → Operator
  Assign : Operator
  AssignBy : Arithmetic → Operator

abbrev pub arithmetic_kind : Arithmetic → TokenKind
arithmetic_kind Add = token.PLUS
arithmetic_kind Subtract = token.MINUS
arithmetic_kind Multiply = token.STAR
arithmetic_kind Divide = token.SLASH
arithmetic_kind Remainder = token.PERCENT
arithmetic_kind ShiftLeft = token.SHL
arithmetic_kind ShiftRight = token.SHR
arithmetic_kind BitXor = token.CARET
arithmetic_kind BitOr = token.PIPE
arithmetic_kind BitAnd = token.AMP

abbrev pub assign_kind : Arithmetic → TokenKind
assign_kind Add = token.PLUSEQ
assign_kind Subtract = token.MINUSEQ
assign_kind Multiply = token.STAREQ
assign_kind Divide = token.SLASHEQ
assign_kind Remainder = token.PERCENTEQ
assign_kind ShiftLeft = token.SHLEQ
assign_kind ShiftRight = token.SHREQ
assign_kind BitXor = token.CARETEQ
assign_kind BitOr = token.PIPEEQ
assign_kind BitAnd = token.AMPEQ

abbrev pub comparison_kind : Comparison → TokenKind
comparison_kind Equal = token.EQ2
comparison_kind NotEqual = token.NEQ
comparison_kind Less = token.L_ANGLE
comparison_kind LessOrEqual = token.LTEQ
comparison_kind Greater = token.R_ANGLE
comparison_kind GreaterOrEqual = token.GTEQ

abbrev pub operator_kind : Operator → TokenKind
operator_kind Or = token.PIPE2
operator_kind And = token.AMP2
operator_kind (Compare c) = comparison_kind c
operator_kind (Compute a) = arithmetic_kind a
operator_kind Assign = token.EQ
operator_kind (AssignBy a) = assign_kind a

-- ---- prefix operators and ranges

pub data PrefixOperator : Type 0 where
  Dereference Not Negate : PrefixOperator

abbrev pub prefix_kind : PrefixOperator → TokenKind
prefix_kind Dereference = token.STAR
prefix_kind Not = token.BANG
prefix_kind Negate = token.MINUS

-- `..=` includes its end, `..` doesn't
abbrev pub range_kind : (inclusive : Bool) → TokenKind
range_kind true = token.DOT2EQ
range_kind false = token.DOT2

-- ---- levels, after the Rust Reference's table in "Expression precedence", from the weakest to the
-- strongest:
--   0 assignment · 1 range · 2 `||` · 3 `&&` · 4 comparison · 5 `|` · 6 `^` · 7 `&` · 8 shift · 9
--   sum · 10 product 11 cast · 12 prefix and borrow · 13 postfix · 14 literal, name, pair

abbrev pub arithmetic_level : Arithmetic → ℕ
arithmetic_level Add = 9
arithmetic_level Subtract = 9
arithmetic_level Multiply = 10
arithmetic_level Divide = 10
arithmetic_level Remainder = 10
arithmetic_level ShiftLeft = 8
arithmetic_level ShiftRight = 8
arithmetic_level BitXor = 6
arithmetic_level BitOr = 5
arithmetic_level BitAnd = 7

abbrev pub operator_level : Operator → ℕ
operator_level Or = 2
operator_level And = 3
operator_level (Compare c) = 4
operator_level (Compute a) = arithmetic_level a
operator_level Assign = 0
operator_level (AssignBy a) = 0

-- ---- what an operator demands: the least level of each side. Operators group to the left, so the
-- left side may be of the operator's own level and the right side is above it. Comparisons don't
-- group: both sides are above them. Assignments group to the right.

abbrev pub left_demand : Operator → ℕ
left_demand Or = 2
left_demand And = 3
left_demand (Compare c) = 5
left_demand (Compute a) = arithmetic_level a
left_demand Assign = 1
left_demand (AssignBy a) = 1

abbrev pub right_demand : Operator → ℕ
right_demand Or = 3
right_demand And = 4
right_demand (Compare c) = 5
right_demand (Compute a) = suc (arithmetic_level a)
right_demand Assign = 0
right_demand (AssignBy a) = 0
