-- The machine: a parser by shift and reduce, with which it is proved that tokens read as one term
-- at most.
--
-- It goes over the signs of the tokens once, with a stack of what waits for an operand. Each entry
-- of the stack is kept as the function from that operand to the term that will be made, so three
-- kinds of entries serve all forms: after an operator or a prefix (with the level that it demands
-- of the operand), in brackets round one term, in brackets round arguments.
--
-- The machine needn't refuse what isn't in the grammar, and nothing is claimed of it there. `step`
-- is one case a state, and `run` a fold over the list, so there is nothing to show about its end.
use Rattle.std.proofs.Common.{ℕ, suc, List, [], ◌∷◌, Bool, true, false, cond, leb, Option, Some, None}
use Rattle.operator_terms.specs.Operators.{BitAnd, Compute, Dereference, Multiply, Negate, Not, Operator, PrefixOperator, Subtract, operator_level, right_demand}
use Rattle.operator_terms.specs.Term.{Await, Binary, Borrow, Call, Cast, Field, Index, Last, Literal, Method, More, Name, NoTerms, Paren, Prefix, Range, RangeFrom, RangeFull, RangeTo, Term, Terms, Try}
use Rattle.operator_terms.specs.Sign.{As, AwaitWord, Bang, Closes, ClosesIndex, Comma, Dot, Lit, MutWord, Op, Opens, OpensIndex, Question, Sign, To, Word}

abbrev pub prefix_sign : PrefixOperator → Sign
prefix_sign Dereference = Op (Compute Multiply)
prefix_sign Not = Bang
prefix_sign Negate = Op (Compute Subtract)

abbrev pub borrow_signs : Bool → List Sign → List Sign
borrow_signs true rest = Op (Compute BitAnd) ∷ MutWord ∷ rest
borrow_signs false rest = Op (Compute BitAnd) ∷ rest

-- the signs of a term, before others
abbrev mutual
  pub emit : Term → List Sign → List Sign
  emit (Literal kind text) rest = Lit kind text ∷ rest
  emit (Name text) rest = Word text ∷ rest
  emit (Paren e) rest = Opens ∷ emit e (Closes ∷ rest)
  emit (Field e n) rest = emit e (Dot ∷ Word n ∷ rest)
  emit (Await e) rest = emit e (Dot ∷ AwaitWord ∷ rest)
  emit (Cast e n) rest = emit e (As ∷ Word n ∷ rest)
  emit (Try e) rest = emit e (Question ∷ rest)
  emit (Method e n args) rest = emit e (Dot ∷ Word n ∷ Opens ∷ emit_all args (Closes ∷ rest))
  emit (Call e args) rest = emit e (Opens ∷ emit_all args (Closes ∷ rest))
  emit (Index e i) rest = emit e (OpensIndex ∷ emit i (ClosesIndex ∷ rest))
  emit (Prefix op e) rest = prefix_sign op ∷ emit e rest
  emit (Borrow mutable e) rest = borrow_signs mutable (emit e rest)
  emit (Binary op l r) rest = emit l (Op op ∷ emit r rest)
  emit RangeFull rest = To false ∷ rest
  emit (RangeFrom l) rest = emit l (To false ∷ rest)
  emit (RangeTo inclusive r) rest = To inclusive ∷ emit r rest
  emit (Range inclusive l r) rest = emit l (To inclusive ∷ emit r rest)

  pub emit_all : Terms → List Sign → List Sign
  emit_all NoTerms rest = rest
  emit_all (Last e) rest = emit e rest
  emit_all (More e es) rest = emit e (Comma ∷ emit_all es rest)

-- What waits for an operand: an operator that demands a level, brackets round one term, brackets
-- round arguments.
pub data Stack : Type 0 where
  Bottom : Stack
  After : ℕ → (Term → Term) → Stack → Stack
  Enclosed : (Term → Term) → Stack → Stack
  Arguments : (Terms → Term) → Stack → Stack

-- An operand is wanted, or one was read, or a dot after one, or a `&` in front of one, or an `as`
-- after one; or no reading goes on from here.
pub data State : Type 0 where
  Wants : Stack → State
  Has : Stack → Term → State
  Dotted : Stack → Term → State
  Borrows : Stack → State
  Typing : Stack → Term → State
  Stuck : State

-- the operand takes what demands at least the limit
abbrev pub reduce : ℕ → Stack → Term → Stack × Term
reduce limit Bottom t = (Bottom, t)
reduce limit (After d f s) t = cond (leb limit d) (reduce limit s (f t)) (After d f s, t)
reduce limit (Enclosed f s) t = (Enclosed f s, t)
reduce limit (Arguments f s) t = (Arguments f s, t)

-- the signs that may begin an operand
abbrev pub starts : Operator → Bool
starts (Compute Subtract) = true
starts (Compute Multiply) = true
starts (Compute BitAnd) = true
starts _ = false

abbrev pub starter : Sign → Bool
starter (Lit kind text) = true
starter (Word text) = true
starter Opens = true
starter Bang = true
starter (To inclusive) = true
starter (Op op) = starts op
starter _ = false

abbrev pub begin_operator : Operator → Stack → State
begin_operator (Compute Subtract) s = Wants (After 12 (Prefix Negate) s)
begin_operator (Compute Multiply) s = Wants (After 12 (Prefix Dereference) s)
begin_operator (Compute BitAnd) s = Borrows s
begin_operator _ s = Stuck

abbrev pub begin_range : Bool → Stack → State
begin_range true s = Wants (After 2 (RangeTo true) s)
begin_range false s = Has s RangeFull

abbrev pub no_more : Stack → State
no_more (Arguments f s) = Has s (f NoTerms)
no_more _ = Stuck

-- a sign where an operand is wanted
abbrev pub begin : Sign → Stack → State
begin (Lit kind text) s = Has s (Literal kind text)
begin (Word text) s = Has s (Name text)
begin Opens s = Wants (Enclosed Paren s)
begin Bang s = Wants (After 12 (Prefix Not) s)
begin (To inclusive) s = begin_range inclusive s
begin (Op op) s = begin_operator op s
begin Closes s = no_more s
begin _ s = Stuck

abbrev pub close_at : Stack → Term → State
close_at (Enclosed f s) t = Has s (f t)
close_at (Arguments f s) t = Has s (f (Last t))
close_at _ t = Stuck

abbrev pub comma_at : Stack → Term → State
comma_at (Arguments f s) t = Wants (Arguments (λ ts. f (More t ts)) s)
comma_at _ t = Stuck

abbrev pub operate : Operator → Stack × Term → State
operate op p = Wants (After (right_demand op) (Binary op p.1) p.0)

abbrev pub ranged : Bool → Stack × Term → State
ranged true p = Wants (After 2 (Range true p.1) p.0)
ranged false p = Has p.0 (RangeFrom p.1)

abbrev pub called : Term → Terms → Term
called (Field e n) args = Method e n args
called t args = Call t args

abbrev pub closed : Stack × Term → State
closed p = close_at p.0 p.1

abbrev pub separated : Stack × Term → State
separated p = comma_at p.0 p.1

abbrev pub casting : Stack × Term → State
casting p = Typing p.0 p.1

-- a sign after an operand
abbrev pub proceed : Sign → Stack → Term → State
proceed Dot s t = Dotted s t
proceed As s t = casting (reduce 12 s t)
proceed Question s t = Has s (Try t)
proceed Opens s t = Wants (Arguments (called t) s)
proceed OpensIndex s t = Wants (Enclosed (Index t) s)
proceed (Op op) s t = operate op (reduce (suc (operator_level op)) s t)
proceed (To inclusive) s t = ranged inclusive (reduce 2 s t)
proceed Closes s t = closed (reduce 0 s t)
proceed ClosesIndex s t = closed (reduce 0 s t)
proceed Comma s t = separated (reduce 0 s t)
proceed _ s t = Stuck

-- the stack above a range without an end, where an end begins after all
abbrev pub reopened : Term → Stack → Option Stack
reopened RangeFull s = Some (After 2 (RangeTo false) s)
reopened (RangeFrom l) s = Some (After 2 (Range false l) s)
reopened _ s = None

abbrev pub begin_or_proceed : Option Stack → Sign → Stack → Term → State
begin_or_proceed (Some o) c s t = begin c o
begin_or_proceed None c s t = proceed c s t

abbrev pub after_dot : Sign → Stack → Term → State
after_dot (Word n) s t = Has s (Field t n)
after_dot AwaitWord s t = Has s (Await t)
after_dot _ s t = Stuck

abbrev pub after_as : Sign → Stack → Term → State
after_as (Word n) s t = Has s (Cast t n)
after_as _ s t = Stuck

abbrev pub after_borrow : Sign → Stack → State
after_borrow MutWord s = Wants (After 12 (Borrow true) s)
after_borrow _ s = Stuck

abbrev pub step : State → Sign → State
step (Wants s) c = begin c s
step (Has s t) c = cond (starter c) (begin_or_proceed (reopened t s) c s t) (proceed c s t)
step (Dotted s t) c = after_dot c s t
step (Borrows s) c = cond (starter c) (begin c (After 12 (Borrow false) s)) (after_borrow c s)
step (Typing s t) c = after_as c s t
step Stuck c = Stuck

abbrev pub run : State → List Sign → State
run q [] = q
run q (c ∷ cs) = run (step q c) cs

abbrev pub has : Stack × Term → State
has p = Has p.0 p.1

-- the stack and the operand after the signs of a term
abbrev pub push : Term → Stack → Stack × Term
push (Literal kind text) s = (s, Literal kind text)
push (Name text) s = (s, Name text)
push (Paren e) s = (s, Paren e)
push (Field e n) s = (s, Field e n)
push (Await e) s = (s, Await e)
push (Cast e n) s = (s, Cast e n)
push (Try e) s = (s, Try e)
push (Method e n args) s = (s, Method e n args)
push (Call e args) s = (s, Call e args)
push (Index e i) s = (s, Index e i)
push (Prefix op e) s = push e (After 12 (Prefix op) s)
push (Borrow mutable e) s = push e (After 12 (Borrow mutable) s)
push (Binary op l r) s = push r (After (right_demand op) (Binary op l) s)
push RangeFull s = (s, RangeFull)
push (RangeFrom l) s = (s, RangeFrom l)
push (RangeTo inclusive r) s = push r (After 2 (RangeTo inclusive) s)
push (Range inclusive l r) s = push r (After 2 (Range inclusive l) s)
