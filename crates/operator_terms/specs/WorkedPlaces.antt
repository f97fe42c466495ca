-- For each place of an operand, with one operator of each level: which forms need a pair there, and
-- which may be bare, by the test by binding powers. The forms are samples of each level and shape.
use Rattle.std.specs.Prelude.{◌≡◌, ℕ, List, [], ◌∷◌, ◌++◌, Bool, true, false}
use Rattle.operator_terms.specs.Term.{Term, Paren, Await, Try, Index, RangeFull, RangeFrom}
use Rattle.operator_terms.specs.Powers.{needs_pair_at}
use Rattle.operator_terms.specs.Precedence.{Precedence, needs_parentheses_in}
use Rattle.operator_terms.specs.Precedence as of
use Rattle.operator_terms.specs.Headline.{angle_behind}
use Rattle.operator_terms.specs.WorkedTerms.{EachRow}
use Rattle.operator_terms.specs.Notation.{a, b, x, y, one, assign, add_assign, or, and, less, at_most, equal, bit_or, bit_xor, bit_and, shl, shr, plus, minus, times, over, up_to, through, to, to_and_with, neg, inverse, deref, borrow, borrow_mut, as_T, dot_f, dot_g, calling}

-- ---- the samples, from the weakest to the strongest

abbrev pub assignments : List Term
assignments = assign a b ∷ add_assign a b ∷ []

abbrev pub ranges : List Term
ranges = RangeFull ∷ RangeFrom a ∷ to a ∷ to_and_with a ∷ up_to a b ∷ through a b ∷ []

abbrev pub ors : List Term
ors = or a b ∷ []

abbrev pub ands : List Term
ands = and a b ∷ []

abbrev pub comparisons : List Term
comparisons = less a b ∷ at_most a b ∷ equal a b ∷ []

abbrev pub bit_ors : List Term
bit_ors = bit_or a b ∷ []

abbrev pub bit_xors : List Term
bit_xors = bit_xor a b ∷ []

abbrev pub bit_ands : List Term
bit_ands = bit_and a b ∷ []

abbrev pub shifts : List Term
shifts = shl a b ∷ shr a b ∷ []

abbrev pub sums : List Term
sums = plus a b ∷ minus a b ∷ []

abbrev pub products : List Term
products = times a b ∷ over a b ∷ []

abbrev pub casts : List Term
casts = as_T a ∷ []

abbrev pub prefixes : List Term
prefixes = neg a ∷ inverse a ∷ deref a ∷ borrow a ∷ borrow_mut a ∷ []

abbrev pub fields : List Term
fields = dot_f a ∷ []

abbrev pub postfixes : List Term
postfixes = Await a ∷ Try a ∷ dot_g a ∷ calling a b ∷ Index a b ∷ []

abbrev pub primaries : List Term
primaries = one ∷ a ∷ Paren a ∷ []

-- ---- all of one strength or more, and all below it

abbrev pub from_unfielded : List Term
from_unfielded = postfixes ++ primaries

abbrev pub from_postfixes : List Term
from_postfixes = fields ++ from_unfielded

abbrev pub from_prefixes : List Term
from_prefixes = prefixes ++ from_postfixes

abbrev pub from_casts : List Term
from_casts = casts ++ from_prefixes

abbrev pub from_products : List Term
from_products = products ++ from_casts

abbrev pub from_sums : List Term
from_sums = sums ++ from_products

abbrev pub from_shifts : List Term
from_shifts = shifts ++ from_sums

abbrev pub from_bit_ands : List Term
from_bit_ands = bit_ands ++ from_shifts

abbrev pub from_bit_xors : List Term
from_bit_xors = bit_xors ++ from_bit_ands

abbrev pub from_bit_ors : List Term
from_bit_ors = bit_ors ++ from_bit_xors

abbrev pub from_comparisons : List Term
from_comparisons = comparisons ++ from_bit_ors

abbrev pub from_ands : List Term
from_ands = ands ++ from_comparisons

abbrev pub from_ors : List Term
from_ors = ors ++ from_ands

abbrev pub from_ranges : List Term
from_ranges = ranges ++ from_ors

abbrev pub any : List Term
any = assignments ++ from_ranges

abbrev pub none : List Term
none = []

abbrev pub below_ranges : List Term
below_ranges = assignments

abbrev pub below_ors : List Term
below_ors = ranges ++ below_ranges

abbrev pub below_ands : List Term
below_ands = ors ++ below_ors

abbrev pub below_comparisons : List Term
below_comparisons = ands ++ below_ands

abbrev pub below_bit_ors : List Term
below_bit_ors = comparisons ++ below_comparisons

abbrev pub below_bit_xors : List Term
below_bit_xors = bit_ors ++ below_bit_ors

abbrev pub below_bit_ands : List Term
below_bit_ands = bit_xors ++ below_bit_xors

abbrev pub below_shifts : List Term
below_shifts = bit_ands ++ below_bit_ands

abbrev pub below_sums : List Term
below_sums = shifts ++ below_shifts

abbrev pub below_products : List Term
below_products = sums ++ below_sums

abbrev pub below_casts : List Term
below_casts = products ++ below_products

abbrev pub below_prefixes : List Term
below_prefixes = casts ++ below_casts

abbrev pub below_postfixes : List Term
below_postfixes = prefixes ++ below_prefixes

-- ---- the places

-- the part of this number in a form; which samples may be there bare, and which need a pair
pub record Place : Type 0 where
  pub holder : Term
  pub number : ℕ
  pub bare : List Term
  pub wrapped : List Term

abbrev pub at : Term → ℕ → List Term → List Term → Place
at t i bare wrapped = record { holder = t; number = i; bare = bare; wrapped = wrapped }

-- the test says what the row says; whether `<` or `<<` follows is seen at the holder's own tokens
abbrev pub IsRightAt : Place → Type 0
IsRightAt p =
    EachRow (λ e. needs_pair_at p.holder p.number (angle_behind [] p.holder [] p.number) e ≡ false) p.bare
    × EachRow (λ e. needs_pair_at p.holder p.number (angle_behind [] p.holder [] p.number) e ≡ true) p.wrapped

-- in delimiters, below postfixes, prefixes and casts
abbrev pub strong_places : List Place
strong_places =
    at (Paren x) 0 any none  -- `(_)`
    ∷ at (Index x y) 1 any none  -- `x[_]`
    ∷ at (calling x y) 1 any none  -- `x(_)`
    ∷ at (dot_f x) 0 from_postfixes below_postfixes  -- `_.f`
    ∷ at (Await x) 0 from_postfixes below_postfixes  -- `_.await`
    ∷ at (Try x) 0 from_postfixes below_postfixes  -- `_?`
    ∷ at (dot_g x) 0 from_postfixes below_postfixes  -- `_.g()`
    ∷ at (Index x y) 0 from_postfixes below_postfixes  -- `_[y]`
    ∷ at (calling x y) 0 from_unfielded (fields ++ below_postfixes)  -- `_(y)`
    ∷ at (neg x) 0 from_prefixes below_prefixes  -- `-_`
    ∷ at (inverse x) 0 from_prefixes below_prefixes  -- `!_`
    ∷ at (deref x) 0 from_prefixes below_prefixes  -- `*_`
    ∷ at (borrow x) 0 from_prefixes below_prefixes  -- `&_`
    ∷ at (borrow_mut x) 0 from_prefixes below_prefixes  -- `&mut _`
    ∷ at (as_T x) 0 from_casts below_casts  -- `_ as T`
    ∷ []

-- on both sides of each binary operator, and at the ends of ranges
abbrev pub sides : List Place
sides =
    at (times x y) 0 from_products below_products  -- `_ * y`
    ∷ at (times x y) 1 from_casts below_casts  -- `x * _`
    ∷ at (minus x y) 0 from_sums below_sums  -- `_ - y`
    ∷ at (minus x y) 1 from_products below_products  -- `x - _`
    ∷ at (shr x y) 0 from_shifts below_shifts  -- `_ >> y`
    ∷ at (shr x y) 1 from_sums below_sums  -- `x >> _`
    ∷ at (shl x y) 0 (shifts ++ sums ++ products ++ from_prefixes) (casts ++ below_shifts)  -- `_ << y`
    ∷ at (shl x y) 1 from_sums below_sums  -- `x << _`
    ∷ at (bit_and x y) 0 from_bit_ands below_bit_ands  -- `_ & y`
    ∷ at (bit_and x y) 1 from_shifts below_shifts  -- `x & _`
    ∷ at (bit_xor x y) 0 from_bit_xors below_bit_xors  -- `_ ^ y`
    ∷ at (bit_xor x y) 1 from_bit_ands below_bit_ands  -- `x ^ _`
    ∷ at (bit_or x y) 0 from_bit_ors below_bit_ors  -- `_ | y`
    ∷ at (bit_or x y) 1 from_bit_xors below_bit_xors  -- `x | _`
    ∷ at (at_most x y) 0 from_bit_ors below_bit_ors  -- `_ <= y`
    ∷ at (at_most x y) 1 from_bit_ors below_bit_ors  -- `x <= _`
    ∷ at (less x y) 0 (bit_ors ++ bit_xors ++ bit_ands ++ shifts ++ sums ++ products ++ from_prefixes) (casts ++ below_bit_ors)  -- `_ < y`
    ∷ at (less x y) 1 from_bit_ors below_bit_ors  -- `x < _`
    ∷ at (and x y) 0 from_ands below_ands  -- `_ && y`
    ∷ at (and x y) 1 from_comparisons below_comparisons  -- `x && _`
    ∷ at (or x y) 0 from_ors below_ors  -- `_ || y`
    ∷ at (or x y) 1 from_ands below_ands  -- `x || _`
    ∷ at (up_to x y) 0 from_ors below_ors  -- `_..y`
    ∷ at (up_to x y) 1 from_ors below_ors  -- `x.._`
    ∷ at (through x y) 0 from_ors below_ors  -- `_..=y`
    ∷ at (through x y) 1 from_ors below_ors  -- `x..=_`
    ∷ at (RangeFrom x) 0 from_ors below_ors  -- `_..`
    ∷ at (to x) 0 from_ors below_ors  -- `.._`
    ∷ at (to_and_with x) 0 from_ors below_ors  -- `..=_`
    ∷ at (assign x y) 0 from_ranges below_ranges  -- `_ = y`
    ∷ at (assign x y) 1 any none  -- `x = _`
    ∷ at (add_assign x y) 0 from_ranges below_ranges  -- `_ += y`
    ∷ at (add_assign x y) 1 any none  -- `x += _`
    ∷ []

-- ---- the coarser test

-- an expression of the first precedence, in one of the second, and whether it needs parentheses
pub record Precedences : Type 0 where
  pub self : Precedence
  pub other : Precedence
  pub needs : Bool

abbrev pub bare_in : Precedence → Precedence → Precedences
bare_in self other = record { self = self; other = other; needs = false }

abbrev pub wrapped_in : Precedence → Precedence → Precedences
wrapped_in self other = record { self = self; other = other; needs = true }

abbrev pub IsRightIn : Precedences → Type 0
IsRightIn p = needs_parentheses_in p.self p.other ≡ p.needs

abbrev pub precedences : List Precedences
precedences =
    wrapped_in of.Sum of.Sum  -- sides don't count, so also where `(a + b) + c` could do without
    ∷ wrapped_in of.Sum of.Product
    ∷ bare_in of.Product of.Sum
    ∷ wrapped_in of.Compare of.Compare
    ∷ bare_in of.Range of.Assign
    ∷ wrapped_in of.Assign of.Range
    ∷ wrapped_in of.Assign of.Assign
    ∷ wrapped_in of.Jump of.Assign
    ∷ bare_in of.Jump of.Prefix  -- `-return`
    ∷ wrapped_in of.Cast of.Prefix
    ∷ bare_in of.Prefix of.Prefix
    ∷ bare_in of.Prefix of.Cast
    ∷ wrapped_in of.Cast of.Cast
    ∷ wrapped_in of.Prefix of.Postfix
    ∷ wrapped_in of.Jump of.Postfix
    ∷ bare_in of.Postfix of.Postfix
    ∷ bare_in of.Jump of.Unambiguous
    ∷ bare_in of.Unambiguous of.Product
    ∷ []
