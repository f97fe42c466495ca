-- Worked terms with pairs of parentheses: which pairs may go, and which are put in.
use Rattle.std.specs.Prelude.{◌≡◌, ℕ, List, [], ◌∷◌, ◌++◌, Bool, true, false, not, Option, Some, option_and_then, option_map}
use Rattle.operator_terms.specs.Term.{Term, Paren, Call, Index, RangeFrom, Last, More}
use Rattle.operator_terms.specs.Places.{part, operand}
use Rattle.operator_terms.specs.Pairs.{inside, without, paired}
use Rattle.operator_terms.specs.AllFit.{all_fit}
use Rattle.operator_terms.specs.Powers.{needs_pair_at}
use Rattle.operator_terms.specs.Headline.{angle_behind}
use Rattle.operator_terms.specs.Notation.{a, b, c, f, x, assign, and, less, at_most, equal, bit_and, shl, shr, plus, minus, times, up_to, to, neg, deref, as_T, as_U, dot_f, dot_g, calling, calling_nothing}

-- ---- pairs that may go

-- a term, a pair in it (the part number `number` of the operand at the place `above`), and whether
-- this pair may go
pub record Pair : Type 0 where
  pub term : Term
  pub above : List ℕ
  pub number : ℕ
  pub may_go : Bool

abbrev pub needless : Term → List ℕ → ℕ → Pair
needless t q i = record { term = t; above = q; number = i; may_go = true }

abbrev pub needed : Term → List ℕ → ℕ → Pair
needed t q i = record { term = t; above = q; number = i; may_go = false }

-- the test's result for the contents of the pair, in the pair's place; `None` if there is no such
-- part
abbrev pub asked : Pair → Option Bool
asked p =
    option_and_then (λ holder.
    option_map (λ held. needs_pair_at holder.term p.number (angle_behind [] p.term p.above p.number) (inside held.term)) (part holder.term p.number))
    (operand p.term p.above)

-- The term reads; the test requires a pair exactly if the pair may not go; and without the pair the
-- term reads exactly if it may.
abbrev pub IsRightPair : Pair → Type 0
IsRightPair p = (all_fit p.term ≡ true) × (asked p ≡ Some (not p.may_go)) × (all_fit (without (p.above ++ (p.number ∷ [])) p.term) ≡ p.may_go)

-- the pair is the left operand of the whole term, unless said otherwise
abbrev pub pairs : List Pair
pairs =
    needed (times (Paren (plus a b)) c) [] 0  -- `(a + b) * c`
    ∷ needless (plus (Paren a) b) [] 0  -- `(a) + b`
    ∷ needless (plus a (Paren (times b c))) [] 1  -- `a + (b * c)`, on the right
    ∷ needless (minus (Paren (minus a b)) c) [] 0  -- `(a - b) - c`
    ∷ needed (minus a (Paren (minus b c))) [] 1  -- `a - (b - c)`, on the right
    ∷ needless (times (Paren (Paren (plus a b))) c) [] 0  -- `((a + b)) * c`, the outer pair
    ∷ needless (times (Paren (Paren (plus a b))) c) (0 ∷ []) 0  -- `((a + b)) * c`, the inner pair; see the first row for both
    ∷ needed (assign (Paren (assign a b)) c) [] 0  -- `(a = b) = c`
    ∷ needless (assign a (Paren (assign b c))) [] 1  -- `a = (b = c)`, on the right
    ∷ needed (less (Paren (less a b)) c) [] 0  -- `(a < b) < c`
    ∷ needless (and (Paren (less a b)) c) [] 0  -- `(a < b) && c`
    ∷ needed (bit_and a (Paren (equal b c))) [] 1  -- `a & (b == c)`, on the right
    ∷ needed (up_to (Paren (up_to a b)) c) [] 0  -- `(a..b)..c`
    ∷ needless (assign (Paren (RangeFrom a)) b) [] 0  -- `(a..) = b`
    ∷ needless (up_to a (Paren (neg b))) [] 1  -- `a..(-b)`, on the right
    ∷ needed (up_to a (Paren (to b))) [] 1  -- `a..(..b)`, on the right
    ∷ needed (plus a (Paren (to b))) [] 1  -- `a + (..b)`, on the right
    ∷ needed (neg (Paren (RangeFrom a))) [] 0  -- `-(a..)`, below the prefix
    ∷ needless (minus a (Paren (neg b))) [] 1  -- `a - (-b)`, on the right
    ∷ needless (times (Paren (neg a)) b) [] 0  -- `(-a) * b`
    ∷ needless (neg (Paren (dot_f a))) [] 0  -- `-(a.f)`, below the prefix
    ∷ needed (dot_f (Paren (neg a))) [] 0  -- `(-a).f`
    ∷ needed (calling (Paren (dot_f a)) x) [] 0  -- `(a.f)(x)`
    ∷ needless (dot_g (Paren (dot_f a))) [] 0  -- `(a.f).g()`
    ∷ needless (calling_nothing (Paren (dot_g a))) [] 0  -- `(a.g())()`
    ∷ needless (Index a (Paren (assign b c))) [] 1  -- `a[(b = c)]`, the index
    ∷ needless (Call f (More (Paren a) (Last (assign b (Paren c))))) [] 1  -- `f((a), b = (c))`, the first argument
    ∷ needless (Call f (More (Paren a) (Last (assign b (Paren c))))) (2 ∷ []) 1  -- `f((a), b = (c))`, in the second argument
    ∷ needless (as_U (Paren (as_T a))) [] 0  -- `(a as T) as U`
    ∷ needless (as_T (Paren (neg a))) [] 0  -- `(-a) as T`
    ∷ needed (neg (Paren (as_T a))) [] 0  -- `-(a as T)`, below the prefix
    ∷ needed (dot_f (Paren (as_T a))) [] 0  -- `(a as T).f`
    ∷ needed (less (Paren (as_T a)) b) [] 0  -- `(a as T) < b`
    ∷ needless (less a (Paren (as_T b))) [] 1  -- `a < (b as T)`, on the right
    ∷ needed (shl (Paren (as_T a)) b) [] 0  -- `(a as T) << b`
    ∷ needless (shr (Paren (as_T a)) b) [] 0  -- `(a as T) >> b`
    ∷ needed (less (Paren (plus a (as_T b))) c) [] 0  -- `(a + b as T) < c`
    ∷ needless (at_most (Paren (plus a (as_T b))) c) [] 0  -- `(a + b as T) <= c`
    ∷ needed (less (plus x (Paren (as_T a))) c) (0 ∷ []) 1  -- `x + (a as T) < c`, on the right of the sum
    ∷ needless (less (Paren (plus a b)) c) [] 0  -- `(a + b) < c`
    ∷ []

-- ---- pairs that are put in

pub record Change : Type 0 where
  pub term : Term
  pub changed : Term

abbrev pub becomes : Term → Term → Change
becomes t u = record { term = t; changed = u }

abbrev pub IsRightChange : Change → Type 0
IsRightChange c = paired c.term ≡ c.changed

abbrev pub changes : List Change
changes =
    becomes (plus a (times b c)) (plus a (times b c))  -- `a + b * c` stays
    ∷ becomes (times (plus a b) c) (times (Paren (plus a b)) c)  -- `(a + b) * c`
    ∷ becomes (minus a (minus b c)) (minus a (Paren (minus b c)))  -- `a - (b - c)`
    ∷ becomes (assign (assign a b) c) (assign (Paren (assign a b)) c)  -- `(a = b) = c`
    ∷ becomes (less (less a b) c) (less (Paren (less a b)) c)  -- `(a < b) < c`
    ∷ becomes (minus (RangeFrom a) b) (minus (Paren (RangeFrom a)) b)  -- `(a..) - b`
    ∷ becomes (calling (dot_f a) x) (calling (Paren (dot_f a)) x)  -- `(a.f)(x)`
    ∷ becomes (dot_f (neg (times a b))) (dot_f (Paren (neg (Paren (times a b)))))  -- `(-(a * b)).f`
    ∷ becomes (neg (as_T (plus a b))) (neg (Paren (as_T (Paren (plus a b)))))  -- `-((a + b) as T)`
    ∷ becomes (less (plus a (as_T b)) c) (less (Paren (plus a (Paren (as_T b)))) c)  -- `(a + (b as T)) < c`
    ∷ becomes (at_most (plus a (as_T b)) c) (at_most (plus a (as_T b)) c)  -- `a + b as T <= c` stays
    ∷ becomes (times (Paren (plus a b)) (deref c)) (times (Paren (plus a b)) (deref c))  -- `(a + b) * *c` stays
    ∷ []
