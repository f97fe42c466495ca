-- Worked terms, and whether every operand fits: so whether the tokens read as the term. In the text
-- beside a term, the brackets ⟨ ⟩ are round an operand that doesn't fit. They are no tokens: they
-- only show which term is meant.
use Rattle.std.specs.Prelude.{◌≡◌, List, [], ◌∷◌, Bool, true, false}
use Rattle.operator_terms.specs.Term.{Term, Paren, Call, Await, Try, Index, RangeFull, RangeFrom, NoTerms, Last, More}
use Rattle.operator_terms.specs.AllFit.{all_fit}
use Rattle.operator_terms.specs.Notation.{a, b, c, f, x, one, assign, add_assign, shl_assign, or, and, less, at_most, equal, bit_or, bit_xor, bit_and, shl, shr, plus, minus, times, up_to, through, to, to_and_with, neg, inverse, deref, borrow, borrow_mut, as_T, as_U, dot_f, dot_g, calling, calling_nothing}

-- P holds of each row of a table
abbrev pub EachRow : {R : Type 0} → (R → Type 0) → List R → Type 0
EachRow P [] = Unit {0}
EachRow P (r ∷ rs) = P r × EachRow P rs

pub record Row : Type 0 where
  pub term : Term
  pub fits : Bool

abbrev pub reads : Term → Row
reads t = record { term = t; fits = true }

abbrev pub fails : Term → Row
fails t = record { term = t; fits = false }

-- the test says what the row says
abbrev pub IsRight : Row → Type 0
IsRight r = all_fit r.term ≡ r.fits

-- operators that group to the left, and what groups not at all or to the right
abbrev pub grouping : List Row
grouping =
    reads (plus one b)  -- `1 + b`
    ∷ reads (Paren a)  -- `(a)`
    ∷ reads (plus (Paren a) b)  -- `(a) + b`
    ∷ reads (plus (times a b) c)  -- `a * b + c`
    ∷ reads (plus a (times b c))  -- `a + b * c`
    ∷ fails (times (plus a b) c)  -- `⟨a + b⟩ * c`
    ∷ reads (times (Paren (plus a b)) c)  -- `(a + b) * c`
    ∷ reads (times (Paren (Paren (plus a b))) c)  -- `((a + b)) * c`
    ∷ reads (minus (minus a b) c)  -- `a - b - c`
    ∷ fails (minus a (minus b c))  -- `a - ⟨b - c⟩`
    ∷ reads (minus a (Paren (minus b c)))  -- `a - (b - c)`
    ∷ reads (shl a (plus b c))  -- `a << b + c`
    ∷ fails (plus (shl a b) c)  -- `⟨a << b⟩ + c`
    ∷ reads (bit_or a (bit_xor b (bit_and c (shl a b))))  -- `a | b ^ c & a << b`
    ∷ fails (bit_and (bit_or a b) c)  -- `⟨a | b⟩ & c`
    ∷ fails (bit_xor a (bit_or b c))  -- `a ^ ⟨b | c⟩`
    ∷ reads (equal (bit_and a b) c)  -- `a & b == c`
    ∷ fails (bit_and a (equal b c))  -- `a & ⟨b == c⟩`
    ∷ reads (or a (and b (less c one)))  -- `a || b && c < 1`
    ∷ fails (and (or a b) c)  -- `⟨a || b⟩ && c`
    ∷ fails (or a (or b c))  -- `a || ⟨b || c⟩`
    ∷ fails (less (less a b) c)  -- `⟨a < b⟩ < c`
    ∷ fails (less a (less b c))  -- `a < ⟨b < c⟩`
    ∷ fails (equal (less a b) c)  -- `⟨a < b⟩ == c`
    ∷ reads (less (Paren (less a b)) c)  -- `(a < b) < c`
    ∷ reads (and (less a b) (less b c))  -- `a < b && b < c`
    ∷ reads (assign a (assign b c))  -- `a = b = c`
    ∷ fails (assign (assign a b) c)  -- `⟨a = b⟩ = c`
    ∷ reads (assign (Paren (assign a b)) c)  -- `(a = b) = c`
    ∷ reads (add_assign a (assign b c))  -- `a += b = c`
    ∷ fails (plus a (assign b c))  -- `a + ⟨b = c⟩`
    ∷ reads (assign (plus a b) c)  -- `a + b = c`
    ∷ []

-- ranges, with both ends, one or none
abbrev pub ranges : List Row
ranges =
    reads (up_to a (plus b c))  -- `a..b + c`
    ∷ reads (up_to (or a b) c)  -- `a || b..c`
    ∷ fails (or a (up_to b c))  -- `a || ⟨b..c⟩`
    ∷ fails (less a (up_to b c))  -- `a < ⟨b..c⟩`
    ∷ reads (through a b)  -- `a..=b`
    ∷ reads (to_and_with (or a b))  -- `..=a || b`
    ∷ fails (up_to (up_to a b) c)  -- `⟨a..b⟩..c`
    ∷ fails (up_to a (up_to b c))  -- `a..⟨b..c⟩`
    ∷ reads (up_to (Paren (up_to a b)) c)  -- `(a..b)..c`
    ∷ fails (RangeFrom (RangeFrom a))  -- `⟨a..⟩..`
    ∷ fails (to (RangeFrom a))  -- `..⟨a..⟩`
    ∷ reads (assign (RangeFrom a) b)  -- `a.. = b`
    ∷ reads (assign RangeFull a)  -- `.. = a`
    ∷ reads (assign (to a) b)  -- `..a = b`
    ∷ fails (to (assign a b))  -- `..⟨a = b⟩`
    ∷ reads (assign a (up_to b c))  -- `a = b..c`
    ∷ reads (up_to a (neg b))  -- `a .. - b`
    ∷ fails (minus (RangeFrom a) b)  -- `⟨a ..⟩ - b`
    ∷ reads (up_to a (deref b))  -- `a .. * b`
    ∷ reads (up_to a (borrow b))  -- `a .. & b`
    ∷ reads (up_to a (Paren b))  -- `a..(b)`
    ∷ fails (calling (RangeFrom a) b)  -- `⟨a..⟩(b)`
    ∷ fails (plus b (to a))  -- `b + ⟨..a⟩`
    ∷ fails (neg (RangeFrom a))  -- `-⟨a..⟩`
    ∷ reads (RangeFrom (neg a))  -- `-a..`
    ∷ []

-- prefixes and borrows; `-`, `*` and `&` are binary operators too
abbrev pub prefixes : List Row
prefixes =
    reads (times (neg a) b)  -- `-a * b`
    ∷ fails (neg (times a b))  -- `-⟨a * b⟩`
    ∷ reads (neg (Paren (times a b)))  -- `-(a * b)`
    ∷ reads (times a (neg b))  -- `a * -b`
    ∷ reads (minus a (neg b))  -- `a - -b`
    ∷ reads (times a (deref b))  -- `a * *b`
    ∷ reads (bit_and a (borrow b))  -- `a & &b`
    ∷ reads (and a (borrow b))  -- `a && &b`
    ∷ reads (neg (inverse (deref (borrow (borrow_mut a)))))  -- `-!*& &mut a`
    ∷ fails (inverse (equal a b))  -- `!⟨a == b⟩`
    ∷ reads (equal (inverse a) b)  -- `!a == b`
    ∷ []

-- fields, calls, indexes and the other postfixes
abbrev pub postfixes : List Row
postfixes =
    reads (neg (dot_f a))  -- `-a.f`
    ∷ fails (dot_f (neg a))  -- `⟨-a⟩.f`
    ∷ reads (dot_f (Paren (neg a)))  -- `(-a).f`
    ∷ reads (deref (dot_g a))  -- `*a.g()`
    ∷ fails (Try (deref a))  -- `⟨*a⟩?`
    ∷ reads (Try (Await (dot_g (dot_f a))))  -- `a.f.g().await?`
    ∷ reads (neg (calling_nothing a))  -- `-a()`
    ∷ fails (calling_nothing (neg a))  -- `⟨-a⟩()`
    ∷ reads (dot_f (calling_nothing a))  -- `a().f`
    ∷ reads (calling_nothing (calling_nothing a))  -- `a()()`
    ∷ reads (calling (dot_g a) x)  -- `a.g()(x)`
    ∷ reads (calling (Await a) x)  -- `a.await(x)`
    ∷ reads (calling (Index a b) x)  -- `a[b](x)`
    ∷ fails (calling (dot_f a) x)  -- `⟨a.f⟩(x)`
    ∷ reads (calling (Paren (dot_f a)) x)  -- `(a.f)(x)`
    ∷ reads (dot_g (dot_f a))  -- `a.f.g()`
    ∷ reads (Index a (assign b c))  -- `a[b = c]`
    ∷ fails (Index (plus a b) c)  -- `⟨a + b⟩[c]`
    ∷ reads (Call f (More (assign a b) (Last (to c))))  -- `f(a = b, ..c)`
    ∷ reads (Call f (More a NoTerms))  -- `f(a,)`
    ∷ fails (Call f (More a (Last (times (plus a b) c))))  -- `f(a, ⟨a + b⟩ * c)`
    ∷ fails (dot_f (plus a b))  -- `⟨a + b⟩.f`
    ∷ []

-- casts, and what precedes `<` and `<<`
abbrev pub casts : List Row
casts =
    reads (as_U (as_T a))  -- `a as T as U`
    ∷ reads (as_T (neg a))  -- `-a as T`
    ∷ fails (neg (as_T a))  -- `-⟨a as T⟩`
    ∷ reads (neg (Paren (as_T a)))  -- `-(a as T)`
    ∷ reads (plus a (as_T b))  -- `a + b as T`
    ∷ fails (as_T (plus a b))  -- `⟨a + b⟩ as T`
    ∷ reads (as_T (Paren (plus a b)))  -- `(a + b) as T`
    ∷ reads (times (as_T a) b)  -- `a as T * b`
    ∷ fails (dot_f (as_T a))  -- `⟨a as T⟩.f`
    ∷ reads (dot_f (Paren (as_T a)))  -- `(a as T).f`
    ∷ fails (less (as_T a) b)  -- `⟨a as T⟩ < b`
    ∷ reads (less (Paren (as_T a)) b)  -- `(a as T) < b`
    ∷ reads (less a (as_T b))  -- `a < b as T`
    ∷ fails (shl (as_T a) b)  -- `⟨a as T⟩ << b`
    ∷ reads (shr (as_T a) b)  -- `a as T >> b`
    ∷ reads (at_most (as_T a) b)  -- `a as T <= b`
    ∷ reads (shl_assign (as_T a) b)  -- `a as T <<= b`
    ∷ fails (less (plus a (as_T b)) c)  -- `⟨a + ⟨b as T⟩⟩ < c`
    ∷ reads (less (plus a (Paren (as_T b))) c)  -- `a + (b as T) < c`
    ∷ reads (less (Paren (plus a (as_T b))) c)  -- `(a + b as T) < c`
    ∷ reads (at_most (plus a (as_T b)) c)  -- `a + b as T <= c`
    ∷ reads (at_most (Paren (plus a (as_T b))) c)  -- `(a + b as T) <= c`
    ∷ reads (less (plus a b) c)  -- `a + b < c`
    ∷ fails (Paren (less (as_T a) b))  -- `(⟨a as T⟩ < b)`
    ∷ reads (less (calling f (as_T a)) b)  -- `f(a as T) < b`
    ∷ fails (shl (times a (as_T b)) c)  -- `⟨a * ⟨b as T⟩⟩ << c`
    ∷ fails (up_to a (less (as_T b) c))  -- `a..⟨b as T⟩ < c`
    ∷ reads (up_to a (less b (as_T c)))  -- `a..b < c as T`
    ∷ []
