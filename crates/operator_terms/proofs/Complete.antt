-- The machine reads the tokens of each term that fits, whatever follows. This is the heart of the
-- uniqueness proof.
--
-- `reading`: where an operand is wanted, at a stack whose top demands no more than k, and the term
-- t has level k at least and fits, going over t's signs leads to the stack with t's right edge
-- pushed on it. By induction on the term. For a form with a left operand: read that operand, let
-- its right edge be taken back by the form's own sign (`Reduce`), and go on.
use Rattle.std.proofs.Common.{◌≡◌, ◌≤◌, ℕ, List, ◌∷◌, true, false, cond, refl, ap, ◌∙◌, arith, le_refl}
use Rattle.operator_terms.specs.Operators.{BitAnd, Compute, Dereference, Multiply, Negate, Not, Subtract, left_demand, operator_level, right_demand}
use Rattle.operator_terms.specs.Term.{Await, Binary, Borrow, Call, Cast, Field, Index, Last, Literal, Method, More, Name, NoTerms, Paren, Prefix, Range, RangeFrom, RangeFull, RangeTo, Term, Terms, Try, level}
use Rattle.operator_terms.proofs.Parts.{PartsFit, ArgumentsFit, numbers}
use Rattle.operator_terms.specs.Sign.{Sign, Lit, Word, Opens, Closes, OpensIndex, ClosesIndex, Comma, Dot, Question, As, AwaitWord, MutWord, Bang, Op, To}
use Rattle.operator_terms.proofs.Machine.{emit, emit_all, Stack, After, Enclosed, Arguments, State, Wants, Has, Borrows, starter, closed, separated, proceed, after_borrow, step, run, has, push}
use Rattle.operator_terms.proofs.Reduce.{Holds, Holds-more, reduce-push, Edge-zero, step-operator, step-range, step-cast, push-postfix, step-call}

-- A term's first sign may begin an operand: so two states that go on alike there go on alike for
-- the term.
begins : (p q : State) → ((c : Sign) → starter c ≡ true → step p c ≡ step q c) → (t : Term) (rest : List Sign) → run p (emit t rest) ≡ run q (emit t rest)
begins p q same (Literal kind text) rest = ap (λ x. run x rest) (same (Lit kind text) refl)
begins p q same (Name text) rest = ap (λ x. run x rest) (same (Word text) refl)
begins p q same (Paren e) rest = ap (λ x. run x (emit e (Closes ∷ rest))) (same Opens refl)
begins p q same (Field e n) rest = begins p q same e _
begins p q same (Await e) rest = begins p q same e _
begins p q same (Cast e n) rest = begins p q same e _
begins p q same (Try e) rest = begins p q same e _
begins p q same (Method e n args) rest = begins p q same e _
begins p q same (Call e args) rest = begins p q same e _
begins p q same (Index e i) rest = begins p q same e _
begins p q same (Prefix Dereference e) rest = ap (λ x. run x (emit e rest)) (same (Op (Compute Multiply)) refl)
begins p q same (Prefix Not e) rest = ap (λ x. run x (emit e rest)) (same Bang refl)
begins p q same (Prefix Negate e) rest = ap (λ x. run x (emit e rest)) (same (Op (Compute Subtract)) refl)
begins p q same (Borrow true e) rest = ap (λ x. run x (MutWord ∷ emit e rest)) (same (Op (Compute BitAnd)) refl)
begins p q same (Borrow false e) rest = ap (λ x. run x (emit e rest)) (same (Op (Compute BitAnd)) refl)
begins p q same (Binary op l r) rest = begins p q same l _
begins p q same RangeFull rest = ap (λ x. run x rest) (same (To false) refl)
begins p q same (RangeFrom l) rest = begins p q same l _
begins p q same (RangeTo inclusive r) rest = ap (λ x. run x (emit r rest)) (same (To inclusive) refl)
begins p q same (Range inclusive l r) rest = begins p q same l _

-- after a range's operator without an end, and after a `&`

after_full : (s : Stack) (c : Sign) → starter c ≡ true → step (Has s RangeFull) c ≡ step (Wants (After 2 (RangeTo false) s)) c
after_full s c e = ap (λ b. cond b (step (Wants (After 2 (RangeTo false) s)) c) (proceed c s RangeFull)) e

after_from : (s : Stack) (l : Term) (c : Sign) → starter c ≡ true → step (Has s (RangeFrom l)) c ≡ step (Wants (After 2 (Range false l) s)) c
after_from s l c e = ap (λ b. cond b (step (Wants (After 2 (Range false l) s)) c) (proceed c s (RangeFrom l))) e

after_amp : (s : Stack) (c : Sign) → starter c ≡ true → step (Borrows s) c ≡ step (Wants (After 12 (Borrow false) s)) c
after_amp s c e = ap (λ b. cond b (step (Wants (After 12 (Borrow false) s)) c) (after_borrow c s)) e

mutual
  pub reading : (t : Term) (k : ℕ) (s : Stack) (rest : List Sign) → k ≤ level t → PartsFit t → Holds k s → run (Wants s) (emit t rest) ≡ run (has (push t s)) rest
  reading (Literal kind text) k s rest h parts top = refl
  reading (Name text) k s rest h parts top = refl
  reading (Paren e) k s rest h parts top =
      reading e 0 (Enclosed Paren s) (Closes ∷ rest) (omega arith) parts tt
      ∙ ap (λ p. run (closed p) rest) (reduce-push e 0 (Enclosed Paren s) (Edge-zero e))
  reading (Field e n) k s rest h parts top =
      reading e 13 s (Dot ∷ Word n ∷ rest) parts.0 parts.1 (Holds-more k 13 s h top)
      ∙ ap (λ p. run (has p) (Dot ∷ Word n ∷ rest)) (push-postfix e s parts.0)
  reading (Await e) k s rest h parts top =
      reading e 13 s (Dot ∷ AwaitWord ∷ rest) parts.0 parts.1 (Holds-more k 13 s h top)
      ∙ ap (λ p. run (has p) (Dot ∷ AwaitWord ∷ rest)) (push-postfix e s parts.0)
  reading (Cast e n) k s rest h parts top =
      reading e 11 s (As ∷ Word n ∷ rest) parts.0 parts.1 (Holds-more k 11 s h top)
      ∙ ap (λ q. run q (Word n ∷ rest)) (step-cast e s parts.0 parts.1 (Holds-more k 11 s h top))
  reading (Try e) k s rest h parts top =
      reading e 13 s (Question ∷ rest) parts.0 parts.1 (Holds-more k 13 s h top)
      ∙ ap (λ p. run (has p) (Question ∷ rest)) (push-postfix e s parts.0)
  reading (Method e n args) k s rest h parts top =
      let others = Dot ∷ Word n ∷ Opens ∷ emit_all args (Closes ∷ rest) in
      reading e 13 s others parts.0 parts.1 (Holds-more k 13 s h top)
      ∙ ap (λ p. run (has p) others) (push-postfix e s parts.0)
      ∙ arguments args (Method e n) s rest parts.2
  reading (Call e args) k s rest h parts top =
      let others = Opens ∷ emit_all args (Closes ∷ rest) in
      reading e 13 s others parts.0 parts.2 (Holds-more k 13 s h top)
      ∙ ap (λ p. run (has p) others) (push-postfix e s parts.0)
      ∙ ap (λ q. run q (emit_all args (Closes ∷ rest))) (step-call e s parts.0 parts.1)
      ∙ arguments args (Call e) s rest parts.3
  reading (Index e i) k s rest h parts top =
      let others = OpensIndex ∷ emit i (ClosesIndex ∷ rest) in
      reading e 13 s others parts.0 parts.1 (Holds-more k 13 s h top)
      ∙ ap (λ p. run (has p) others) (push-postfix e s parts.0)
      ∙ reading i 0 (Enclosed (Index e) s) (ClosesIndex ∷ rest) (omega arith) parts.2 tt
      ∙ ap (λ p. run (closed p) rest) (reduce-push i 0 (Enclosed (Index e) s) (Edge-zero i))
  reading (Prefix Dereference e) k s rest h parts top = reading e 12 (After 12 (Prefix Dereference) s) rest parts.0 parts.1 (omega arith)
  reading (Prefix Not e) k s rest h parts top = reading e 12 (After 12 (Prefix Not) s) rest parts.0 parts.1 (omega arith)
  reading (Prefix Negate e) k s rest h parts top = reading e 12 (After 12 (Prefix Negate) s) rest parts.0 parts.1 (omega arith)
  reading (Borrow true e) k s rest h parts top = reading e 12 (After 12 (Borrow true) s) rest parts.0 parts.1 (omega arith)
  reading (Borrow false e) k s rest h parts top =
      begins (Borrows s) (Wants (After 12 (Borrow false) s)) (after_amp s) e rest
      ∙ reading e 12 (After 12 (Borrow false) s) rest parts.0 parts.1 (omega arith)
  reading (Binary op l r) k s rest h parts top =
      let about = numbers op in
      let here : Holds (operator_level op) s = Holds-more k (operator_level op) s h top in
      let left : Holds (left_demand op) s = Holds-more k (left_demand op) s (omega arith) top in
      reading l (left_demand op) s (Op op ∷ emit r rest) parts.0 parts.2 left
      ∙ ap (λ q. run q (emit r rest)) (step-operator op l s parts.0 parts.2 here)
      ∙ reading r (right_demand op) (After (right_demand op) (Binary op l) s) rest parts.1 parts.3 (le_refl _)
  reading RangeFull k s rest h parts top = refl
  reading (RangeFrom l) k s rest h parts top =
      reading l 2 s (To false ∷ rest) parts.0 parts.1 (Holds-more k 2 s (omega arith) top)
      ∙ ap (λ q. run q rest) (step-range false l s parts.0 parts.1 (Holds-more k 1 s h top))
  reading (RangeTo true r) k s rest h parts top = reading r 2 (After 2 (RangeTo true) s) rest parts.0 parts.1 (omega arith)
  reading (RangeTo false r) k s rest h parts top =
      begins (Has s RangeFull) (Wants (After 2 (RangeTo false) s)) (after_full s) r rest
      ∙ reading r 2 (After 2 (RangeTo false) s) rest parts.0 parts.1 (omega arith)
  reading (Range true l r) k s rest h parts top =
      reading l 2 s (To true ∷ emit r rest) parts.0 parts.2 (Holds-more k 2 s (omega arith) top)
      ∙ ap (λ q. run q (emit r rest)) (step-range true l s parts.0 parts.2 (Holds-more k 1 s h top))
      ∙ reading r 2 (After 2 (Range true l) s) rest parts.1 parts.3 (omega arith)
  reading (Range false l r) k s rest h parts top =
      reading l 2 s (To false ∷ emit r rest) parts.0 parts.2 (Holds-more k 2 s (omega arith) top)
      ∙ ap (λ q. run q (emit r rest)) (step-range false l s parts.0 parts.2 (Holds-more k 1 s h top))
      ∙ begins (Has s (RangeFrom l)) (Wants (After 2 (Range false l) s)) (after_from s l) r rest
      ∙ reading r 2 (After 2 (Range false l) s) rest parts.1 parts.3 (omega arith)

  arguments : (ts : Terms) (f : Terms → Term) (s : Stack) (rest : List Sign) → ArgumentsFit ts → run (Wants (Arguments f s)) (emit_all ts (Closes ∷ rest)) ≡ run (Has s (f ts)) rest
  arguments NoTerms f s rest parts = refl
  arguments (Last e) f s rest parts =
      reading e 0 (Arguments f s) (Closes ∷ rest) (omega arith) parts tt
      ∙ ap (λ p. run (closed p) rest) (reduce-push e 0 (Arguments f s) (Edge-zero e))
  arguments (More e es) f s rest parts =
      reading e 0 (Arguments f s) (Comma ∷ emit_all es (Closes ∷ rest)) (omega arith) parts.0 tt
      ∙ ap (λ p. run (separated p) (emit_all es (Closes ∷ rest))) (reduce-push e 0 (Arguments f s) (Edge-zero e))
      ∙ arguments es (λ ts. f (More e ts)) s rest parts.1
