-- What the grammar derives, and that it derives one term only.
--
-- A derivation's tokens are the term's (`Derives-tokens`), its parts fit (`Derives-parts`), and
-- where all parts fit there is a derivation (`Derives_of_parts`): three inductions that follow the
-- clauses of `Derives`. So `parse`, the machine run on a token list, ends with any term that the
-- list derives (`parse-Derives`), and two such terms are equal.
use Rattle.std.proofs.Common.{◌≡◌, ◌≤◌, ℕ, List, [], ◌∷◌, ◌++◌, Option, Some, None, refl, sym, ap, ap₂, ◌∙◌, arith}
use Rattle.syntax_kind.specs.declared.syntax_kind.token_kind.TokenKind.TheVariants as token
use Rattle.operator_terms.specs.Token.{Token, fixed}
use Rattle.operator_terms.specs.Operators.{left_demand, operator_kind, prefix_kind, range_kind, right_demand}
use Rattle.operator_terms.specs.Term.{Await, Binary, Borrow, Call, Cast, Field, Index, Last, Literal, Method, More, Name, NoTerms, Paren, Prefix, Range, RangeFrom, RangeFull, RangeTo, Term, Terms, Try, argument_tokens, borrow_tokens, level, name, tokens}
use Rattle.operator_terms.specs.Reading.{Derives, DerivesAll}
use Rattle.operator_terms.proofs.Parts.{PartsFit, ArgumentsFit}
use Rattle.operator_terms.proofs.Machine.{Bottom, State, Wants, Has, Dotted, Borrows, Typing, Stuck, reduce, run}
use Rattle.operator_terms.proofs.Reduce.{reduce-push, Edge-zero}
use Rattle.operator_terms.proofs.Complete.{reading}
use Rattle.operator_terms.proofs.Signs.{signs, signs-tokens}

-- what is read are the term's tokens
mutual
  unfolding Derives tokens

  pub Derives-tokens : (t : Term) (k : ℕ) (ts : List Token) → Derives k ts t → ts ≡ tokens t
  Derives-tokens (Literal kind text) k ts h = h.1
  Derives-tokens (Name text) k ts h = h.1
  Derives-tokens (Paren e) k ts h = h.2 ∙ ap (λ xs. fixed token.L_PAREN ∷ (xs ++ (fixed token.R_PAREN ∷ []))) (Derives-tokens e 0 h.1 h.3)
  Derives-tokens (Field e n) k ts h = h.2 ∙ ap (λ xs. xs ++ (fixed token.DOT ∷ name n ∷ [])) (Derives-tokens e 13 h.1 h.3)
  Derives-tokens (Await e) k ts h = h.2 ∙ ap (λ xs. xs ++ (fixed token.DOT ∷ fixed token.AWAIT_KW ∷ [])) (Derives-tokens e 13 h.1 h.3)
  Derives-tokens (Cast e n) k ts h = h.2 ∙ ap (λ xs. xs ++ (fixed token.AS_KW ∷ name n ∷ [])) (Derives-tokens e 11 h.1 h.3)
  Derives-tokens (Try e) k ts h = h.2 ∙ ap (λ xs. xs ++ (fixed token.QUESTION ∷ [])) (Derives-tokens e 13 h.1 h.3)
  Derives-tokens (Method e n args) k ts h =
      h.3 ∙ ap₂ (λ xs ys. xs ++ (fixed token.DOT ∷ name n ∷ fixed token.L_PAREN ∷ (ys ++ (fixed token.R_PAREN ∷ [])))) (Derives-tokens e 13 h.1 h.4) (DerivesAll-tokens args h.2 h.5)
  Derives-tokens (Call e args) k ts h =
      h.3 ∙ ap₂ (λ xs ys. xs ++ (fixed token.L_PAREN ∷ (ys ++ (fixed token.R_PAREN ∷ [])))) (Derives-tokens e 13 h.1 h.4) (DerivesAll-tokens args h.2 h.6)
  Derives-tokens (Index e i) k ts h =
      h.3 ∙ ap₂ (λ xs ys. xs ++ (fixed token.L_BRACK ∷ (ys ++ (fixed token.R_BRACK ∷ [])))) (Derives-tokens e 13 h.1 h.4) (Derives-tokens i 0 h.2 h.5)
  Derives-tokens (Prefix op e) k ts h = h.2 ∙ ap (◌∷◌ (fixed (prefix_kind op))) (Derives-tokens e 12 h.1 h.3)
  Derives-tokens (Borrow mutable e) k ts h = h.2 ∙ ap (◌++◌ (borrow_tokens mutable)) (Derives-tokens e 12 h.1 h.3)
  Derives-tokens (Binary op l r) k ts h =
      h.3 ∙ ap₂ (λ xs ys. xs ++ (fixed (operator_kind op) ∷ ys)) (Derives-tokens l (left_demand op) h.1 h.4) (Derives-tokens r (right_demand op) h.2 h.5)
  Derives-tokens RangeFull k ts h = h.1
  Derives-tokens (RangeFrom l) k ts h = h.2 ∙ ap (λ xs. xs ++ (fixed token.DOT2 ∷ [])) (Derives-tokens l 2 h.1 h.3)
  Derives-tokens (RangeTo inclusive r) k ts h = h.2 ∙ ap (◌∷◌ (fixed (range_kind inclusive))) (Derives-tokens r 2 h.1 h.3)
  Derives-tokens (Range inclusive l r) k ts h =
      h.3 ∙ ap₂ (λ xs ys. xs ++ (fixed (range_kind inclusive) ∷ ys)) (Derives-tokens l 2 h.1 h.4) (Derives-tokens r 2 h.2 h.5)

  DerivesAll-tokens : (es : Terms) (ts : List Token) → DerivesAll ts es → ts ≡ argument_tokens es
  DerivesAll-tokens NoTerms ts h = h
  DerivesAll-tokens (Last e) ts h = Derives-tokens e 0 ts h
  DerivesAll-tokens (More e es) ts h = h.2 ∙ ap₂ (λ xs ys. xs ++ (fixed token.COMMA ∷ ys)) (Derives-tokens e 0 h.0 h.3) (DerivesAll-tokens es h.1 h.4)

-- and the term's parts fit
mutual
  unfolding Derives

  pub Derives-level : (t : Term) (k : ℕ) (ts : List Token) → Derives k ts t → k ≤ level t
  Derives-level (Literal kind text) k ts h = h.0
  Derives-level (Name text) k ts h = h.0
  Derives-level (Paren e) k ts h = h.0
  Derives-level (Field e n) k ts h = h.0
  Derives-level (Await e) k ts h = h.0
  Derives-level (Try e) k ts h = h.0
  Derives-level (Cast e n) k ts h = h.0
  Derives-level (Method e n args) k ts h = h.0
  Derives-level (Call e args) k ts h = h.0
  Derives-level (Index e i) k ts h = h.0
  Derives-level (Prefix op e) k ts h = h.0
  Derives-level (Borrow mutable e) k ts h = h.0
  Derives-level (Binary op l r) k ts h = h.0
  Derives-level RangeFull k ts h = h.0
  Derives-level (RangeFrom l) k ts h = h.0
  Derives-level (RangeTo inclusive r) k ts h = h.0
  Derives-level (Range inclusive l r) k ts h = h.0

mutual
  unfolding Derives

  pub Derives-parts : (t : Term) (k : ℕ) (ts : List Token) → Derives k ts t → PartsFit t
  Derives-parts (Literal kind text) k ts h = tt
  Derives-parts (Name text) k ts h = tt
  Derives-parts (Paren e) k ts h = Derives-parts e 0 h.1 h.3
  Derives-parts (Field e n) k ts h = (Derives-level e 13 h.1 h.3, Derives-parts e 13 h.1 h.3)
  Derives-parts (Await e) k ts h = (Derives-level e 13 h.1 h.3, Derives-parts e 13 h.1 h.3)
  Derives-parts (Cast e n) k ts h = (Derives-level e 11 h.1 h.3, Derives-parts e 11 h.1 h.3)
  Derives-parts (Try e) k ts h = (Derives-level e 13 h.1 h.3, Derives-parts e 13 h.1 h.3)
  Derives-parts (Method e n args) k ts h = (Derives-level e 13 h.1 h.4, Derives-parts e 13 h.1 h.4, DerivesAll-parts args h.2 h.5)
  Derives-parts (Call e args) k ts h = (Derives-level e 13 h.1 h.4, h.5, Derives-parts e 13 h.1 h.4, DerivesAll-parts args h.2 h.6)
  Derives-parts (Index e i) k ts h = (Derives-level e 13 h.1 h.4, Derives-parts e 13 h.1 h.4, Derives-parts i 0 h.2 h.5)
  Derives-parts (Prefix op e) k ts h = (Derives-level e 12 h.1 h.3, Derives-parts e 12 h.1 h.3)
  Derives-parts (Borrow mutable e) k ts h = (Derives-level e 12 h.1 h.3, Derives-parts e 12 h.1 h.3)
  Derives-parts (Binary op l r) k ts h =
      (Derives-level l (left_demand op) h.1 h.4, Derives-level r (right_demand op) h.2 h.5, Derives-parts l (left_demand op) h.1 h.4, Derives-parts r (right_demand op) h.2 h.5)
  Derives-parts RangeFull k ts h = tt
  Derives-parts (RangeFrom l) k ts h = (Derives-level l 2 h.1 h.3, Derives-parts l 2 h.1 h.3)
  Derives-parts (RangeTo inclusive r) k ts h = (Derives-level r 2 h.1 h.3, Derives-parts r 2 h.1 h.3)
  Derives-parts (Range inclusive l r) k ts h = (Derives-level l 2 h.1 h.4, Derives-level r 2 h.2 h.5, Derives-parts l 2 h.1 h.4, Derives-parts r 2 h.2 h.5)

  DerivesAll-parts : (es : Terms) (ts : List Token) → DerivesAll ts es → ArgumentsFit es
  DerivesAll-parts NoTerms ts h = tt
  DerivesAll-parts (Last e) ts h = Derives-parts e 0 ts h
  DerivesAll-parts (More e es) ts h = (Derives-parts e 0 h.0 h.3, DerivesAll-parts es h.1 h.4)

-- the other way: where all parts fit, the tokens read as the term
mutual
  unfolding Derives tokens

  pub Derives_of_parts : (t : Term) (k : ℕ) → k ≤ level t → PartsFit t → Derives k (tokens t) t
  Derives_of_parts (Literal kind text) k h parts = (h, refl)
  Derives_of_parts (Name text) k h parts = (h, refl)
  Derives_of_parts (Paren e) k h parts = (h, tokens e, refl, Derives_of_parts e 0 (omega arith) parts)
  Derives_of_parts (Field e n) k h parts = (h, tokens e, refl, Derives_of_parts e 13 parts.0 parts.1)
  Derives_of_parts (Await e) k h parts = (h, tokens e, refl, Derives_of_parts e 13 parts.0 parts.1)
  Derives_of_parts (Cast e n) k h parts = (h, tokens e, refl, Derives_of_parts e 11 parts.0 parts.1)
  Derives_of_parts (Try e) k h parts = (h, tokens e, refl, Derives_of_parts e 13 parts.0 parts.1)
  Derives_of_parts (Method e n args) k h parts = (h, tokens e, argument_tokens args, refl, Derives_of_parts e 13 parts.0 parts.1, DerivesAll_of_parts args parts.2)
  Derives_of_parts (Call e args) k h parts = (h, tokens e, argument_tokens args, refl, Derives_of_parts e 13 parts.0 parts.2, parts.1, DerivesAll_of_parts args parts.3)
  Derives_of_parts (Index e i) k h parts = (h, tokens e, tokens i, refl, Derives_of_parts e 13 parts.0 parts.1, Derives_of_parts i 0 (omega arith) parts.2)
  Derives_of_parts (Prefix op e) k h parts = (h, tokens e, refl, Derives_of_parts e 12 parts.0 parts.1)
  Derives_of_parts (Borrow mutable e) k h parts = (h, tokens e, refl, Derives_of_parts e 12 parts.0 parts.1)
  Derives_of_parts (Binary op l r) k h parts =
      (h, tokens l, tokens r, refl, Derives_of_parts l (left_demand op) parts.0 parts.2, Derives_of_parts r (right_demand op) parts.1 parts.3)
  Derives_of_parts RangeFull k h parts = (h, refl)
  Derives_of_parts (RangeFrom l) k h parts = (h, tokens l, refl, Derives_of_parts l 2 parts.0 parts.1)
  Derives_of_parts (RangeTo inclusive r) k h parts = (h, tokens r, refl, Derives_of_parts r 2 parts.0 parts.1)
  Derives_of_parts (Range inclusive l r) k h parts = (h, tokens l, tokens r, refl, Derives_of_parts l 2 parts.0 parts.2, Derives_of_parts r 2 parts.1 parts.3)

  DerivesAll_of_parts : (es : Terms) → ArgumentsFit es → DerivesAll (argument_tokens es) es
  DerivesAll_of_parts NoTerms parts = refl
  DerivesAll_of_parts (Last e) parts = Derives_of_parts e 0 (omega arith) parts
  DerivesAll_of_parts (More e es) parts = (tokens e, argument_tokens es, refl, Derives_of_parts e 0 (omega arith) parts.0, DerivesAll_of_parts es parts.1)

-- ---- there is one reading

-- what the machine has read, once all operators took their operands
abbrev whole : State → Option Term
whole (Has s t) = Some (reduce 0 s t).1
whole (Wants s) = None
whole (Dotted s t) = None
whole (Borrows s) = None
whole (Typing s t) = None
whole Stuck = None

pub parse : List Token → Option Term
parse ts = whole (run (Wants Bottom) (signs ts []))

pub parse-Derives : (k : ℕ) (ts : List Token) (t : Term) → Derives k ts t → parse ts ≡ Some t
unfolding parse
parse-Derives k ts t h =
    ap (λ xs. whole (run (Wants Bottom) (signs xs []))) (Derives-tokens t k ts h)
    ∙ ap (λ cs. whole (run (Wants Bottom) cs)) (signs-tokens t [])
    ∙ ap whole (reading t 0 Bottom [] (omega arith) (Derives-parts t k ts h) tt)
    ∙ ap (λ p. Some p.1) (reduce-push t 0 Bottom (Edge-zero t))

-- two readings of the same tokens are one, at whatever levels
pub one_derivation : (j k : ℕ) (ts : List Token) (t u : Term) → Derives j ts t → Derives k ts u → t ≡ u
one_derivation j k ts t u h i = let same : Some t ≡ Some u = sym (parse-Derives j ts t h) ∙ parse-Derives k ts u i in cc
