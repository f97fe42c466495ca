-- Where the test by precedences asks for no parentheses, the operand has its level, and so the test
-- by powers asks for none: but for a field that is called and a cast's name before `<`. A
-- precedence is one more than the level, since jumps are below all of these forms.
use Rattle.std.proofs.Common.{◌≡◌, ◌≤◌, ◌<◌, ℕ, zero, suc, Bool, true, false, ◌&&◌, nat_lt, nat_le, IfSome, refl, sym, ◌∙◌, arith, subst, ap, lt-ltb, ltb-false, leb-false}
use Rattle.operator_terms.specs.Operators.{Operator, Or, And, Compare, Compute, Assign, AssignBy, Arithmetic, Add, operator_level, left_demand, right_demand, arithmetic_level}
use Rattle.operator_terms.specs.Term.{Term, Paren, Field, Await, Try, Cast, Method, Call, Index, Prefix, Borrow, Binary, RangeFrom, RangeTo, Range, Terms, NoTerms, Last, More, level, is_field, tokens}
use Rattle.operator_terms.specs.Places.{Demand, AtLeast, Callee, Meets, Part, some_part, argument, part, ends_in_cast}
use Rattle.operator_terms.specs.Powers.{needs_pair_at}
use Rattle.operator_terms.specs.Precedence.{Precedence, rank, arithmetic_precedence, operator_precedence, precedence, needs_parentheses_in}
use Rattle.operator_terms.proofs.Power.{needs_where_unfit}

-- ---- precedences are levels, one higher, since a jump is below all of them

rank-arithmetic : (a : Arithmetic) → rank (arithmetic_precedence a) ≡ suc (arithmetic_level a)
rank-arithmetic Add = refl
rank-arithmetic _ = refl

rank-operator : (op : Operator) → rank (operator_precedence op) ≡ suc (operator_level op)
rank-operator (Compute a) = rank-arithmetic a
rank-operator _ = refl

rank-level : (t : Term) → rank (precedence t) ≡ suc (level t)
rank-level (Binary op l r) = rank-operator op
rank-level _ = refl

-- what the demand says of the level alone
abbrev Reaches : Demand → Term → Type 0
Reaches (AtLeast k) t = k ≤ level t
Reaches Callee t = 13 ≤ level t

abbrev Asked : Term → Part → Type 0
Asked t p = needs_parentheses_in (precedence p.term) (precedence t) ≡ false → Reaches p.demand p.term

-- ---- the parents, by their precedence

high : (e : Term) → nat_lt (rank (precedence e)) 14 ≡ false → 13 ≤ level e
high e h = let more : 14 ≤ rank (precedence e) = ltb-false (rank (precedence e)) 14 h in omega (arith, rank-level e)

prefixed : (e : Term) → nat_lt 0 (rank (precedence e)) && nat_lt (rank (precedence e)) 13 ≡ false → 12 ≤ level e
prefixed e h =
    let some : 0 < rank (precedence e) = omega (arith, rank-level e) in
    let below : nat_lt (rank (precedence e)) 13 ≡ false = sym (ap (λ b. b && nat_lt (rank (precedence e)) 13) (lt-ltb 0 (rank (precedence e)) some)) ∙ h in
    let more : 13 ≤ rank (precedence e) = ltb-false (rank (precedence e)) 13 below in
    omega (arith, rank-level e)

above : (e : Term) (k : ℕ) → nat_le (rank (precedence e)) k ≡ false → k ≤ level e
above e k h = let more : k < rank (precedence e) = leb-false (rank (precedence e)) k h in omega (arith, rank-level e)

by_operator : (p : Precedence) (op : Operator) → needs_parentheses_in p (operator_precedence op) ≡ nat_le (rank p) (rank (operator_precedence op))
by_operator p (Compute Add) = refl
by_operator p _ = refl

near : (op : Operator) → (left_demand op ≤ suc (operator_level op)) × (right_demand op ≤ suc (operator_level op))
near Or = omega arith
near And = omega arith
near (Compare c) = omega arith
near (Compute a) = omega arith
near Assign = omega arith
near (AssignBy a) = omega arith

reaches : (op : Operator) (e : Term) → needs_parentheses_in (precedence e) (operator_precedence op) ≡ false → suc (operator_level op) ≤ level e
reaches op e h = above e (suc (operator_level op)) (ap (nat_le (rank (precedence e))) (sym (rank-operator op)) ∙ sym (by_operator (precedence e) op) ∙ h)

left : (op : Operator) (e : Term) → needs_parentheses_in (precedence e) (operator_precedence op) ≡ false → left_demand op ≤ level e
left op e h = let more = reaches op e h in let close = near op in omega arith

right : (op : Operator) (e : Term) → needs_parentheses_in (precedence e) (operator_precedence op) ≡ false → right_demand op ≤ level e
right op e h = let more = reaches op e h in let close = near op in omega arith

-- ---- the parts

argument-reaches : (t : Term) (es : Terms) (i : ℕ) → IfSome (argument es i) (Asked t)
argument-reaches t NoTerms i = tt
argument-reaches t (Last e) zero = λ h. omega arith
argument-reaches t (Last e) (suc i) = tt
argument-reaches t (More e es) zero = λ h. omega arith
argument-reaches t (More e es) (suc i) = argument-reaches t es i

reaches_at : (t : Term) (i : ℕ) → IfSome (part t i) (Asked t)
reaches_at (Paren e) zero = λ h. omega arith
reaches_at (Field e n) zero = high e
reaches_at (Await e) zero = high e
reaches_at (Try e) zero = high e
reaches_at (Cast e n) zero = (λ h. let more = above e 12 h in omega arith)
reaches_at (Method e n args) zero = high e
reaches_at (Method e n args) (suc i) = argument-reaches (Method e n args) args i
reaches_at (Call e args) zero = high e
reaches_at (Call e args) (suc i) = argument-reaches (Call e args) args i
reaches_at (Index e i) zero = high e
reaches_at (Index e i) (suc zero) = λ h. omega arith
reaches_at (Prefix op e) zero = prefixed e
reaches_at (Borrow mutable e) zero = prefixed e
reaches_at (Binary op l r) zero = left op l
reaches_at (Binary op l r) (suc zero) = right op r
reaches_at (RangeFrom l) zero = (λ h. above l 2 h)
reaches_at (RangeTo inclusive r) zero = (λ h. above r 2 h)
reaches_at (Range inclusive l r) zero = (λ h. above l 2 h)
reaches_at (Range inclusive l r) (suc zero) = (λ h. above r 2 h)
reaches_at _ _ = tt

met : (d : Demand) (e : Term) → (d ≡ Callee → is_field e ≡ false) → Reaches d e → Meets d e
met (AtLeast k) e no_field h = h
met Callee e no_field h = (h, no_field refl)

pub none_needed : (t : Term) (i : ℕ) (d : Demand) (e : Term) (angle : Bool) → part t i ≡ some_part d e → needs_parentheses_in (precedence e) (precedence t) ≡ false → (d ≡ Callee → is_field e ≡ false) → (ends_in_cast (tokens e) ≡ true → angle ≡ false) → needs_pair_at t i angle e ≡ false
none_needed t i d e angle at none no_field no_cast =
    let reached : Reaches d e = subst (λ o. IfSome o (Asked t)) at (reaches_at t i) none in
    (needs_where_unfit t i d e e angle at).1 (met d e no_field reached, no_cast)
