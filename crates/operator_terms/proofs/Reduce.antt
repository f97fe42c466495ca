-- What the machine's stack gives back.
--
-- After a term the stack holds the term's right edge: what it pushed for its last operand, that
-- operand's last operand, and so on. A weaker sign takes all of this back (`reduce-push`), since
-- each demand on the right edge of a term that fits lies above the term's own level
-- (`Edge_of_fit`); and it stops at what waited before (`reduce-stops`). The lemmas `step-..` say
-- what the machine does with the sign after a form's left operand.
use Rattle.std.proofs.Common.{◌≡◌, ◌≤◌, ◌<◌, ◌⊎◌, inl, inr, ℕ, suc, Bool, true, false, cond, None, refl, ap, ◌∙◌, arith, le-leb, le_refl}
use Rattle.operator_terms.specs.Operators.{And, Assign, AssignBy, Compare, Compute, Operator, Or, left_demand, operator_level, right_demand}
use Rattle.operator_terms.specs.Term.{Await, Binary, Borrow, Call, Cast, Field, Index, Literal, Method, Name, Paren, Prefix, Range, RangeFrom, RangeFull, RangeTo, Term, Try, is_field, level}
use borrow.Author.Tests.{lt-leb}
use Rattle.operator_terms.proofs.Parts.{PartsFit, numbers, arithmetic_range}
use Rattle.operator_terms.specs.Sign.{Sign, As, Opens, Op, To}
use Rattle.operator_terms.proofs.Machine.{Typing, casting, Stack, Bottom, After, Enclosed, Arguments, Wants, Has, reduce, starts, starter, operate, ranged, proceed, reopened, begin_or_proceed, step, has, push}

-- the top of the stack demands no more than k
abbrev pub Holds : ℕ → Stack → Type 0
Holds k Bottom = Unit {0}
Holds k (After d f s) = d ≤ k
Holds k (Enclosed f s) = Unit {0}
Holds k (Arguments f s) = Unit {0}

pub Holds-more : (j k : ℕ) (s : Stack) → j ≤ k → Holds j s → Holds k s
Holds-more j k Bottom h top = tt
Holds-more j k (After d f s) h top = omega arith
Holds-more j k (Enclosed f s) h top = tt
Holds-more j k (Arguments f s) h top = tt

pub reduce-stops : (k limit : ℕ) (s : Stack) (t : Term) → Holds k s → k < limit → reduce limit s t ≡ (s, t)
reduce-stops k limit Bottom t top h = refl
reduce-stops k limit (After d f s) t top h = ap (λ b. cond b (reduce limit s (f t)) (After d f s, t)) (lt-leb limit d (omega arith))
reduce-stops k limit (Enclosed f s) t top h = refl
reduce-stops k limit (Arguments f s) t top h = refl

-- each demand on the right edge of the term is at least the limit
abbrev pub Edge : ℕ → Term → Type 0
Edge limit (Prefix op e) = (limit ≤ 12) × Edge limit e
Edge limit (Borrow mutable e) = (limit ≤ 12) × Edge limit e
Edge limit (Binary op l r) = (limit ≤ right_demand op) × Edge limit r
Edge limit (RangeTo inclusive r) = (limit ≤ 2) × Edge limit r
Edge limit (Range inclusive l r) = (limit ≤ 2) × Edge limit r
Edge limit _ = Unit {0}

-- what was pushed is taken back
pub reduce-push : (t : Term) (limit : ℕ) (s : Stack) → Edge limit t → reduce limit (push t s).0 (push t s).1 ≡ reduce limit s t
reduce-push (Prefix op e) limit s h = reduce-push e limit (After 12 (Prefix op) s) h.1 ∙ ap (λ b. cond b (reduce limit s (Prefix op e)) (After 12 (Prefix op) s, e)) (le-leb limit 12 h.0)
reduce-push (Borrow mutable e) limit s h = reduce-push e limit (After 12 (Borrow mutable) s) h.1 ∙ ap (λ b. cond b (reduce limit s (Borrow mutable e)) (After 12 (Borrow mutable) s, e)) (le-leb limit 12 h.0)
reduce-push (Binary op l r) limit s h =
    reduce-push r limit (After (right_demand op) (Binary op l) s) h.1
    ∙ ap (λ b. cond b (reduce limit s (Binary op l r)) (After (right_demand op) (Binary op l) s, r)) (le-leb limit (right_demand op) h.0)
reduce-push (RangeTo inclusive r) limit s h = reduce-push r limit (After 2 (RangeTo inclusive) s) h.1 ∙ ap (λ b. cond b (reduce limit s (RangeTo inclusive r)) (After 2 (RangeTo inclusive) s, r)) (le-leb limit 2 h.0)
reduce-push (Range inclusive l r) limit s h =
    reduce-push r limit (After 2 (Range inclusive l) s) h.1 ∙ ap (λ b. cond b (reduce limit s (Range inclusive l r)) (After 2 (Range inclusive l) s, r)) (le-leb limit 2 h.0)
reduce-push (Literal kind text) limit s h = refl
reduce-push (Name text) limit s h = refl
reduce-push (Paren e) limit s h = refl
reduce-push (Field e n) limit s h = refl
reduce-push (Await e) limit s h = refl
reduce-push (Try e) limit s h = refl
reduce-push (Cast e n) limit s h = refl
reduce-push (Method e n args) limit s h = refl
reduce-push (Call e args) limit s h = refl
reduce-push (Index e i) limit s h = refl
reduce-push RangeFull limit s h = refl
reduce-push (RangeFrom l) limit s h = refl

pub Edge-zero : (t : Term) → Edge 0 t
Edge-zero (Prefix op e) = (omega arith, Edge-zero e)
Edge-zero (Borrow mutable e) = (omega arith, Edge-zero e)
Edge-zero (Binary op l r) = (omega arith, Edge-zero r)
Edge-zero (RangeTo inclusive r) = (omega arith, Edge-zero r)
Edge-zero (Range inclusive l r) = (omega arith, Edge-zero r)
Edge-zero (Literal kind text) = tt
Edge-zero (Name text) = tt
Edge-zero (Paren e) = tt
Edge-zero (Field e n) = tt
Edge-zero (Await e) = tt
Edge-zero (Try e) = tt
Edge-zero (Cast e n) = tt
Edge-zero (Method e n args) = tt
Edge-zero (Call e args) = tt
Edge-zero (Index e i) = tt
Edge-zero RangeFull = tt
Edge-zero (RangeFrom l) = tt

-- a term that fits above assignment demands more on its right edge than its own level
pub Edge_of_fit : (t : Term) (k limit : ℕ) → k ≤ level t → PartsFit t → 1 ≤ k → limit ≤ suc k → limit ≤ 12 → Edge limit t
Edge_of_fit (Prefix op e) k limit h parts some near small = (small, Edge_of_fit e 12 limit parts.0 parts.1 (omega arith) (omega arith) small)
Edge_of_fit (Borrow mutable e) k limit h parts some near small = (small, Edge_of_fit e 12 limit parts.0 parts.1 (omega arith) (omega arith) small)
Edge_of_fit (Binary op l r) k limit h parts some near small =
    let about = numbers op in
    let above : right_demand op ≡ suc (operator_level op) = about.right_above (omega arith) in
    (omega arith, Edge_of_fit r (right_demand op) limit parts.1 parts.3 (omega arith) (omega arith) small)
Edge_of_fit (RangeTo inclusive r) k limit h parts some near small = (omega arith, Edge_of_fit r 2 limit parts.0 parts.1 (omega arith) (omega arith) small)
Edge_of_fit (Range inclusive l r) k limit h parts some near small = (omega arith, Edge_of_fit r 2 limit parts.1 parts.3 (omega arith) (omega arith) small)
Edge_of_fit (Literal kind text) k limit h parts some near small = tt
Edge_of_fit (Name text) k limit h parts some near small = tt
Edge_of_fit (Paren e) k limit h parts some near small = tt
Edge_of_fit (Field e n) k limit h parts some near small = tt
Edge_of_fit (Await e) k limit h parts some near small = tt
Edge_of_fit (Try e) k limit h parts some near small = tt
Edge_of_fit (Cast e n) k limit h parts some near small = tt
Edge_of_fit (Method e n args) k limit h parts some near small = tt
Edge_of_fit (Call e args) k limit h parts some near small = tt
Edge_of_fit (Index e i) k limit h parts some near small = tt
Edge_of_fit RangeFull k limit h parts some near small = tt
Edge_of_fit (RangeFrom l) k limit h parts some near small = tt

-- ---- a sign after a term

cond_same : {A : Type 0} (b : Bool) (x : A) → cond b x x ≡ x
cond_same true x = refl
cond_same false x = refl

step-ended : (c : Sign) (s : Stack) (t : Term) → reopened t s ≡ None → step (Has s t) c ≡ proceed c s t
step-ended c s t e = ap (λ o. cond (starter c) (begin_or_proceed o c s t) (proceed c s t)) e ∙ cond_same (starter c) (proceed c s t)

step-behind : (c : Sign) (s : Stack) (t : Term) → starter c ≡ false → step (Has s t) c ≡ proceed c s t
step-behind c s t e = ap (λ b. cond b (begin_or_proceed (reopened t s) c s t) (proceed c s t)) e

-- above ranges the right edge is no range without an end
ended : (t : Term) (s r : Stack) → 2 ≤ level t → PartsFit t → reopened (push t s).1 r ≡ None
ended (Prefix op e) s r h parts = ended e _ r (omega arith) parts.1
ended (Borrow mutable e) s r h parts = ended e _ r (omega arith) parts.1
ended (Binary op x y) s r h parts =
    let about = numbers op in
    let above : right_demand op ≡ suc (operator_level op) = about.right_above (omega arith) in
    ended y _ r (omega arith) parts.3
ended (RangeTo inclusive y) s r h parts = absurd (omega arith)
ended (Range inclusive x y) s r h parts = absurd (omega arith)
ended RangeFull s r h parts = absurd (omega arith)
ended (RangeFrom x) s r h parts = absurd (omega arith)
ended (Literal kind text) s r h parts = refl
ended (Name text) s r h parts = refl
ended (Paren e) s r h parts = refl
ended (Field e n) s r h parts = refl
ended (Await e) s r h parts = refl
ended (Try e) s r h parts = refl
ended (Cast e n) s r h parts = refl
ended (Method e n args) s r h parts = refl
ended (Call e args) s r h parts = refl
ended (Index e i) s r h parts = refl

starts_or_high : (op : Operator) → (starts op ≡ false) ⊎ (2 ≤ left_demand op)
starts_or_high Or = inl refl
starts_or_high And = inl refl
starts_or_high (Compare c) = inl refl
starts_or_high (Compute a) = let h = arithmetic_range a in inr (omega arith)
starts_or_high Assign = inl refl
starts_or_high (AssignBy a) = inl refl

-- an operator after its left operand
pub step-operator : (op : Operator) (l : Term) (s : Stack) → left_demand op ≤ level l → PartsFit l → Holds (operator_level op) s → step (has (push l s)) (Op op) ≡ Wants (After (right_demand op) (Binary op l) s)
step-operator op l s h parts top =
    let about = numbers op in
    let edge : Edge (suc (operator_level op)) l = Edge_of_fit l (left_demand op) (suc (operator_level op)) h parts about.left_some (omega arith) (omega arith) in
    goes (starts_or_high op)
    ∙ ap (operate op) (reduce-push l (suc (operator_level op)) s edge ∙ reduce-stops (operator_level op) (suc (operator_level op)) s l top (le_refl _))
  where
    goes : (starts op ≡ false) ⊎ (2 ≤ left_demand op) → step (has (push l s)) (Op op) ≡ proceed (Op op) (push l s).0 (push l s).1
    goes (inl none) = step-behind (Op op) (push l s).0 (push l s).1 none
    goes (inr high) = step-ended (Op op) (push l s).0 (push l s).1 (ended l s (push l s).0 (omega arith) parts)

-- a range's operator after its start
pub step-range : (inclusive : Bool) (l : Term) (s : Stack) → 2 ≤ level l → PartsFit l → Holds 1 s → step (has (push l s)) (To inclusive) ≡ ranged inclusive (s, l)
step-range inclusive l s h parts top =
    step-ended (To inclusive) (push l s).0 (push l s).1 (ended l s (push l s).0 h parts)
    ∙ ap (ranged inclusive) (reduce-push l 2 s (Edge_of_fit l 2 2 h parts (omega arith) (omega arith) (omega arith)) ∙ reduce-stops 1 2 s l top (omega arith))

-- `as` after what is cast
pub step-cast : (e : Term) (s : Stack) → 11 ≤ level e → PartsFit e → Holds 11 s → step (has (push e s)) As ≡ Typing s e
step-cast e s h parts top = ap casting (reduce-push e 12 s (Edge_of_fit e 11 12 h parts (omega arith) (omega arith) (omega arith)) ∙ reduce-stops 11 12 s e top (omega arith))

-- a postfix operand stays as it is
pub push-postfix : (t : Term) (s : Stack) → 13 ≤ level t → push t s ≡ (s, t)
push-postfix (Prefix op e) s h = absurd (omega arith)
push-postfix (Borrow mutable e) s h = absurd (omega arith)
push-postfix (Binary op l r) s h = let about = numbers op in absurd (omega arith)
push-postfix (RangeTo inclusive r) s h = absurd (omega arith)
push-postfix (Range inclusive l r) s h = absurd (omega arith)
push-postfix RangeFull s h = absurd (omega arith)
push-postfix (RangeFrom l) s h = absurd (omega arith)
push-postfix (Cast e n) s h = absurd (omega arith)
push-postfix (Literal kind text) s h = refl
push-postfix (Name text) s h = refl
push-postfix (Paren e) s h = refl
push-postfix (Field e n) s h = refl
push-postfix (Await e) s h = refl
push-postfix (Try e) s h = refl
push-postfix (Method e n args) s h = refl
push-postfix (Call e args) s h = refl
push-postfix (Index e i) s h = refl

-- arguments after a callee that is no field
pub step-call : (t : Term) (s : Stack) → 13 ≤ level t → is_field t ≡ false → step (Has s t) Opens ≡ Wants (Arguments (Call t) s)
step-call (Prefix op e) s h callee = absurd (omega arith)
step-call (Borrow mutable e) s h callee = absurd (omega arith)
step-call (Binary op l r) s h callee = let about = numbers op in absurd (omega arith)
step-call (RangeTo inclusive r) s h callee = absurd (omega arith)
step-call (Range inclusive l r) s h callee = absurd (omega arith)
step-call RangeFull s h callee = absurd (omega arith)
step-call (RangeFrom l) s h callee = absurd (omega arith)
step-call (Cast e n) s h callee = absurd (omega arith)
step-call (Field e n) s h callee = absurd (cc)
step-call (Literal kind text) s h callee = refl
step-call (Name text) s h callee = refl
step-call (Paren e) s h callee = refl
step-call (Await e) s h callee = refl
step-call (Try e) s h callee = refl
step-call (Method e n args) s h callee = refl
step-call (Call e args) s h callee = refl
step-call (Index e i) s h callee = refl
