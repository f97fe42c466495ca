-- Short names in which worked terms are written.
use Rattle.std.specs.Prelude.{true, false, codes}
use Rattle.operator_terms.specs.Operators.{Int, Or, And, Equal, Less, LessOrEqual, Compare, Add, Subtract, Multiply, Divide, ShiftLeft, ShiftRight, BitXor, BitOr, BitAnd, Compute, Assign, AssignBy, Dereference, Not, Negate}
use Rattle.operator_terms.specs.Term.{Term, Literal, Name, Cast, Method, Call, Prefix, Borrow, Binary, RangeTo, Range, NoTerms, Last, Field}

abbrev pub a : Term
a = Name (codes "a")

abbrev pub b : Term
b = Name (codes "b")

abbrev pub c : Term
c = Name (codes "c")

abbrev pub f : Term
f = Name (codes "f")

abbrev pub x : Term
x = Name (codes "x")

abbrev pub y : Term
y = Name (codes "y")

abbrev pub one : Term
one = Literal Int (codes "1")

-- ---- binary operators

abbrev pub assign : Term → Term → Term
assign = Binary Assign

abbrev pub add_assign : Term → Term → Term
add_assign = Binary (AssignBy Add)

abbrev pub shl_assign : Term → Term → Term
shl_assign = Binary (AssignBy ShiftLeft)

abbrev pub or : Term → Term → Term
or = Binary Or

abbrev pub and : Term → Term → Term
and = Binary And

abbrev pub less : Term → Term → Term
less = Binary (Compare Less)

abbrev pub at_most : Term → Term → Term
at_most = Binary (Compare LessOrEqual)

abbrev pub equal : Term → Term → Term
equal = Binary (Compare Equal)

abbrev pub bit_or : Term → Term → Term
bit_or = Binary (Compute BitOr)

abbrev pub bit_xor : Term → Term → Term
bit_xor = Binary (Compute BitXor)

abbrev pub bit_and : Term → Term → Term
bit_and = Binary (Compute BitAnd)

abbrev pub shl : Term → Term → Term
shl = Binary (Compute ShiftLeft)

abbrev pub shr : Term → Term → Term
shr = Binary (Compute ShiftRight)

abbrev pub plus : Term → Term → Term
plus = Binary (Compute Add)

abbrev pub minus : Term → Term → Term
minus = Binary (Compute Subtract)

abbrev pub times : Term → Term → Term
times = Binary (Compute Multiply)

abbrev pub over : Term → Term → Term
over = Binary (Compute Divide)

-- `l..r`, `l..=r`, `..r`, `..=r`
abbrev pub up_to : Term → Term → Term
up_to = Range false

abbrev pub through : Term → Term → Term
through = Range true

abbrev pub to : Term → Term
to = RangeTo false

abbrev pub to_and_with : Term → Term
to_and_with = RangeTo true

-- ---- prefixes: `-e`, `!e`, `*e`, `&e`, `&mut e`

abbrev pub neg : Term → Term
neg = Prefix Negate

abbrev pub inverse : Term → Term
inverse = Prefix Not

abbrev pub deref : Term → Term
deref = Prefix Dereference

abbrev pub borrow : Term → Term
borrow = Borrow false

abbrev pub borrow_mut : Term → Term
borrow_mut = Borrow true

-- ---- postfixes and casts: `e as T`, `e as U`, `e.f`, `e.g()`, `e(r)`, `e()`

abbrev pub as_T : Term → Term
as_T e = Cast e (codes "T")

abbrev pub as_U : Term → Term
as_U e = Cast e (codes "U")

abbrev pub dot_f : Term → Term
dot_f e = Field e (codes "f")

abbrev pub dot_g : Term → Term
dot_g e = Method e (codes "g") NoTerms

abbrev pub calling_nothing : Term → Term
calling_nothing e = Call e NoTerms

abbrev pub calling : Term → Term → Term
calling e r = Call e (Last r)
