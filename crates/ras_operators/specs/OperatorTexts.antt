-- The operators of the language: their tokens and their texts (Rust Reference, "Operator
-- expressions").
use Rattle.std.specs.Prelude.{true, false, Option, Some, None, List, ℕ, codes, ◌++◌}
use Rattle.syntax_kind.specs.declared.syntax_kind.SyntaxKind.{SyntaxKind}
use Rattle.syntax_kind.specs.declared.syntax_kind.SyntaxKind.TheVariants.{Token}
use Rattle.syntax_kind.specs.declared.syntax_kind.token_kind.TokenKind.TheVariants as token
use Rattle.ras_operators.specs.declared.operators.BinaryOp.{BinaryOp}
use Rattle.ras_operators.specs.declared.operators.BinaryOp.TheVariants as op
use Rattle.ras_operators.specs.declared.operators.LogicOp.{LogicOp}
use Rattle.ras_operators.specs.declared.operators.LogicOp.TheVariants as logic
use Rattle.ras_operators.specs.declared.operators.ArithOp.{ArithOp}
use Rattle.ras_operators.specs.declared.operators.ArithOp.TheVariants as arith
use Rattle.ras_operators.specs.declared.operators.CmpOp.{CmpOp}
use Rattle.ras_operators.specs.declared.operators.CmpOp.TheVariants as cmp
use Rattle.ras_operators.specs.declared.operators.Ordering.TheVariants as ordering
use Rattle.ras_operators.specs.declared.operators.UnaryOp.{UnaryOp}
use Rattle.ras_operators.specs.declared.operators.UnaryOp.TheVariants as unary
use Rattle.ras_operators.specs.declared.operators.RangeOp.{RangeOp}
use Rattle.ras_operators.specs.declared.operators.RangeOp.TheVariants as range

-- the prefix operator that a kind of token is
abbrev pub unary_op : SyntaxKind → Option UnaryOp
unary_op (Token token.STAR) = Some unary.Deref
unary_op (Token token.BANG) = Some unary.Not
unary_op (Token token.MINUS) = Some unary.Neg
unary_op _ = None

-- the range operator that a kind of token is
abbrev pub range_op : SyntaxKind → Option RangeOp
range_op (Token token.DOT2) = Some range.Exclusive
range_op (Token token.DOT2EQ) = Some range.Inclusive
range_op _ = None

-- the binary operator that a kind of token is
abbrev pub binary_op : SyntaxKind → Option BinaryOp
binary_op (Token token.PIPE2) = Some (op.LogicOp logic.Or)
binary_op (Token token.AMP2) = Some (op.LogicOp logic.And)
binary_op (Token token.EQ2) = Some (op.CmpOp (cmp.Eq false))
binary_op (Token token.NEQ) = Some (op.CmpOp (cmp.Eq true))
binary_op (Token token.LTEQ) = Some (op.CmpOp (cmp.Ord ordering.Less false))
binary_op (Token token.GTEQ) = Some (op.CmpOp (cmp.Ord ordering.Greater false))
binary_op (Token token.L_ANGLE) = Some (op.CmpOp (cmp.Ord ordering.Less true))
binary_op (Token token.R_ANGLE) = Some (op.CmpOp (cmp.Ord ordering.Greater true))
binary_op (Token token.PLUS) = Some (op.ArithOp arith.Add)
binary_op (Token token.STAR) = Some (op.ArithOp arith.Mul)
binary_op (Token token.MINUS) = Some (op.ArithOp arith.Sub)
binary_op (Token token.SLASH) = Some (op.ArithOp arith.Div)
binary_op (Token token.PERCENT) = Some (op.ArithOp arith.Rem)
binary_op (Token token.SHL) = Some (op.ArithOp arith.Shl)
binary_op (Token token.SHR) = Some (op.ArithOp arith.Shr)
binary_op (Token token.CARET) = Some (op.ArithOp arith.BitXor)
binary_op (Token token.PIPE) = Some (op.ArithOp arith.BitOr)
binary_op (Token token.AMP) = Some (op.ArithOp arith.BitAnd)
binary_op (Token token.EQ) = Some (op.Assignment None)
binary_op (Token token.PLUSEQ) = Some (op.Assignment (Some arith.Add))
binary_op (Token token.STAREQ) = Some (op.Assignment (Some arith.Mul))
binary_op (Token token.MINUSEQ) = Some (op.Assignment (Some arith.Sub))
binary_op (Token token.SLASHEQ) = Some (op.Assignment (Some arith.Div))
binary_op (Token token.PERCENTEQ) = Some (op.Assignment (Some arith.Rem))
binary_op (Token token.SHLEQ) = Some (op.Assignment (Some arith.Shl))
binary_op (Token token.SHREQ) = Some (op.Assignment (Some arith.Shr))
binary_op (Token token.CARETEQ) = Some (op.Assignment (Some arith.BitXor))
binary_op (Token token.PIPEEQ) = Some (op.Assignment (Some arith.BitOr))
binary_op (Token token.AMPEQ) = Some (op.Assignment (Some arith.BitAnd))
binary_op _ = None

-- the text of each
abbrev pub logic_text : LogicOp → List ℕ
logic_text logic.And = codes "&&"
logic_text logic.Or = codes "||"

abbrev pub arith_text : ArithOp → List ℕ
arith_text arith.Add = codes "+"
arith_text arith.Mul = codes "*"
arith_text arith.Sub = codes "-"
arith_text arith.Div = codes "/"
arith_text arith.Rem = codes "%"
arith_text arith.Shl = codes "<<"
arith_text arith.Shr = codes ">>"
arith_text arith.BitXor = codes "^"
arith_text arith.BitOr = codes "|"
arith_text arith.BitAnd = codes "&"

abbrev pub cmp_text : CmpOp → List ℕ
cmp_text (cmp.Eq false) = codes "=="
cmp_text (cmp.Eq true) = codes "!="
cmp_text (cmp.Ord ordering.Less false) = codes "<="
cmp_text (cmp.Ord ordering.Less true) = codes "<"
cmp_text (cmp.Ord ordering.Greater false) = codes ">="
cmp_text (cmp.Ord ordering.Greater true) = codes ">"

-- the text of an assignment: `=`, after its operator if it has one
abbrev pub binary_text : BinaryOp → List ℕ
binary_text (op.LogicOp o) = logic_text o
binary_text (op.ArithOp o) = arith_text o
binary_text (op.CmpOp o) = cmp_text o
binary_text (op.Assignment None) = codes "="
binary_text (op.Assignment (Some o)) = arith_text o ++ codes "="
