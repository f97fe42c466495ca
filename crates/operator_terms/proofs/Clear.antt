-- The rule on casts, from tokens to terms.
--
-- `no_cast_before_angle` speaks of neighbours in a token list. `Clear angle t` says the same by the
-- structure of the term: no cast in t precedes `<` or `<<`, where `angle` says whether one of these
-- follows t. The flag goes down the right edge of the term; the left operand of an operator gets
-- the operator itself; inside delimiters it is false. `rule-term` is the equivalence, with any
-- tokens following.
use Rattle.std.proofs.Common.{◌≡◌, ◌↔◌, List, [], ◌∷◌, ◌++◌, Bool, true, false, not, ◌&&◌, refl, ap, subst, append_assoc}
use Rattle.syntax_kind.specs.declared.syntax_kind.SyntaxKind.TheVariants.{Token as OfToken}
use Rattle.syntax_kind.specs.declared.syntax_kind.token_kind.TokenKind.TheVariants as token
use Rattle.operator_terms.specs.Token.{Token, fixed}
use Rattle.operator_terms.specs.Operators.{Add, AssignBy, Compare, Compute, Int, Less, LiteralKind, Not, Operator, PrefixOperator, literal_kind, operator_kind, prefix_kind, range_kind}
use Rattle.operator_terms.specs.Term.{Await, Binary, Borrow, Call, Cast, Field, Index, Last, Literal, Method, More, Name, NoTerms, Paren, Prefix, Range, RangeFrom, RangeFull, RangeTo, Term, Terms, Try, argument_tokens, literal, name, tokens}
use Rattle.operator_terms.specs.Reading.{begins_with_angle, begins_with_name_and_angle, is_angle, is_as, is_name, no_cast_before_angle}
use Rattle.operator_terms.specs.Pairs.{is_angle_operator}
use Rattle.operator_terms.proofs.Bools.{both-true, true-both, not-true}

-- The rule as a chain of facts, one for each token.
abbrev pub NoCastBeforeAngle : List Token → Type 0
NoCastBeforeAngle [] = Unit {0}
NoCastBeforeAngle (t ∷ ts) = (is_as t.kind && begins_with_name_and_angle ts ≡ false) × NoCastBeforeAngle ts

pub facts_of_rule : (ts : List Token) → no_cast_before_angle ts ≡ true → NoCastBeforeAngle ts
facts_of_rule [] h = tt
facts_of_rule (t ∷ ts) h = let parts = both-true (not (is_as t.kind && begins_with_name_and_angle ts)) (no_cast_before_angle ts) h in (not-true (is_as t.kind && begins_with_name_and_angle ts) parts.0, facts_of_rule ts parts.1)

pub rule_of_facts : (ts : List Token) → NoCastBeforeAngle ts → no_cast_before_angle ts ≡ true
rule_of_facts [] h = refl
rule_of_facts (t ∷ ts) h = true-both (not (is_as t.kind && begins_with_name_and_angle ts)) (no_cast_before_angle ts) (ap not h.0) (rule_of_facts ts h.1)

-- a cast is at the right edge
abbrev pub cast_at_end : Term → Bool
cast_at_end (Cast e n) = true
cast_at_end (Prefix op e) = cast_at_end e
cast_at_end (Borrow mutable e) = cast_at_end e
cast_at_end (Binary op l r) = cast_at_end r
cast_at_end (RangeTo inclusive r) = cast_at_end r
cast_at_end (Range inclusive l r) = cast_at_end r
cast_at_end _ = false

-- no cast in the term precedes `<` or `<<`; the flag says whether the term does
abbrev mutual
  pub Clear : Bool → Term → Type 0
  Clear next (Literal kind text) = Unit {0}
  Clear next (Name text) = Unit {0}
  Clear next (Paren e) = Clear false e
  Clear next (Field e n) = Clear false e
  Clear next (Await e) = Clear false e
  Clear next (Try e) = Clear false e
  Clear next (Cast e n) = (next ≡ false) × Clear false e
  Clear next (Method e n args) = Clear false e × AllClear args
  Clear next (Call e args) = Clear false e × AllClear args
  Clear next (Index e i) = Clear false e × Clear false i
  Clear next (Prefix op e) = Clear next e
  Clear next (Borrow mutable e) = Clear next e
  Clear next (Binary op l r) = Clear (is_angle_operator op) l × Clear next r
  Clear next RangeFull = Unit {0}
  Clear next (RangeFrom l) = Clear false l
  Clear next (RangeTo inclusive r) = Clear next r
  Clear next (Range inclusive l r) = Clear false l × Clear next r

  pub AllClear : Terms → Type 0
  AllClear NoTerms = Unit {0}
  AllClear (Last e) = Clear false e
  AllClear (More e es) = Clear false e × AllClear es

-- ---- the tokens that are no `as` and no name

pub plain_operator : (op : Operator) → (is_as (OfToken (operator_kind op)) ≡ false) × (is_name (OfToken (operator_kind op)) ≡ false)
plain_operator (Compare Less) = (refl, refl)
plain_operator (Compute Add) = (refl, refl)
plain_operator (AssignBy Add) = (refl, refl)
plain_operator _ = (refl, refl)

pub plain_prefix : (op : PrefixOperator) → is_as (OfToken (prefix_kind op)) ≡ false
plain_prefix Not = refl
plain_prefix _ = refl

pub plain_range : (inclusive : Bool) → (is_as (OfToken (range_kind inclusive)) ≡ false) × (is_name (OfToken (range_kind inclusive)) ≡ false) × (is_angle (OfToken (range_kind inclusive)) ≡ false)
plain_range true = (refl, refl, refl)
plain_range false = (refl, refl, refl)

pub plain_literal : (kind : LiteralKind) → is_as (OfToken (literal_kind kind)) ≡ false
plain_literal Int = refl
plain_literal _ = refl

-- a token that is no `as` adds nothing
skip : (t : Token) (ts : List Token) → is_as t.kind ≡ false → NoCastBeforeAngle (t ∷ ts) ↔ NoCastBeforeAngle ts
skip t ts e = (λ h. h.1, λ h. (ap (λ b. b && begins_with_name_and_angle ts) e, h))

through : {A B C : Type 0} → A ↔ B → B ↔ C → A ↔ C
through f g = (λ a. g.0 (f.0 a), λ c. f.1 (g.1 c))

beside : {A B C : Type 0} → B ↔ C → (A × B) ↔ (A × C)
beside f = (λ x. (x.0, f.0 x.1), λ x. (x.0, f.1 x.1))

regroup : {A B C : Type 0} → (A × (B × C)) ↔ ((A × B) × C)
regroup = (λ x. ((x.0, x.1.0), x.1.1), λ x. (x.0.0, (x.0.1, x.1)))

alone : {A : Type 0} → A ↔ (Unit {0} × A)
alone = (λ a. (tt, a), λ x. x.1)

-- The tokens of a term and what follows are as the rule asks where the term is clear and what
-- follows is as the rule asks.
mutual
  unfolding tokens

  pub rule-term : (t : Term) (rest : List Token) → NoCastBeforeAngle (tokens t ++ rest) ↔ (Clear (begins_with_angle rest) t × NoCastBeforeAngle rest)
  rule-term (Literal kind text) rest = through (skip (literal kind text) rest (plain_literal kind)) alone
  rule-term (Name text) rest = through (skip (name text) rest refl) alone
  rule-term (Paren e) rest =
      through (skip (fixed token.L_PAREN) _ refl) (simp append_assoc (through (rule-term e (fixed token.R_PAREN ∷ rest)) (beside (skip (fixed token.R_PAREN) rest refl))))
  rule-term (Field e n) rest =
      simp append_assoc (through (rule-term e (fixed token.DOT ∷ name n ∷ rest)) (beside (through (skip (fixed token.DOT) (name n ∷ rest) refl) (skip (name n) rest refl))))
  rule-term (Await e) rest =
      simp append_assoc (through (rule-term e (fixed token.DOT ∷ fixed token.AWAIT_KW ∷ rest)) (beside (through (skip (fixed token.DOT) (fixed token.AWAIT_KW ∷ rest) refl) (skip (fixed token.AWAIT_KW) rest refl))))
  rule-term (Try e) rest = simp append_assoc (through (rule-term e (fixed token.QUESTION ∷ rest)) (beside (skip (fixed token.QUESTION) rest refl)))
  rule-term (Cast e n) rest =
      simp append_assoc (through (rule-term e (fixed token.AS_KW ∷ name n ∷ rest)) (λ x. ((x.1.0, x.0), x.1.1.1), λ x. (x.0.1, (x.0.0, (refl, x.1)))))
  rule-term (Method e n args) rest =
      simp append_assoc (through (rule-term e (fixed token.DOT ∷ name n ∷ fixed token.L_PAREN ∷ (argument_tokens args ++ (fixed token.R_PAREN ∷ rest))))
      (through (beside (through (skip (fixed token.DOT) (name n ∷ fixed token.L_PAREN ∷ (argument_tokens args ++ (fixed token.R_PAREN ∷ rest))) refl) (through (skip (name n) (fixed token.L_PAREN ∷ (argument_tokens args ++ (fixed token.R_PAREN ∷ rest))) refl) (through (skip (fixed token.L_PAREN) _ refl) (through (rule-arguments args (fixed token.R_PAREN ∷ rest) refl) (beside (skip (fixed token.R_PAREN) rest refl))))))) regroup))
  rule-term (Call e args) rest =
      simp append_assoc (through (rule-term e (fixed token.L_PAREN ∷ (argument_tokens args ++ (fixed token.R_PAREN ∷ rest))))
      (through (beside (through (skip (fixed token.L_PAREN) _ refl) (through (rule-arguments args (fixed token.R_PAREN ∷ rest) refl) (beside (skip (fixed token.R_PAREN) rest refl))))) regroup))
  rule-term (Index e i) rest =
      simp append_assoc (through (rule-term e (fixed token.L_BRACK ∷ (tokens i ++ (fixed token.R_BRACK ∷ rest))))
      (through (beside (through (skip (fixed token.L_BRACK) _ refl) (through (rule-term i (fixed token.R_BRACK ∷ rest)) (beside (skip (fixed token.R_BRACK) rest refl))))) regroup))
  rule-term (Prefix op e) rest = through (skip (fixed (prefix_kind op)) _ (plain_prefix op)) (rule-term e rest)
  rule-term (Borrow true e) rest = through (skip (fixed token.AMP) (fixed token.MUT_KW ∷ (tokens e ++ rest)) refl) (through (skip (fixed token.MUT_KW) _ refl) (rule-term e rest))
  rule-term (Borrow false e) rest = through (skip (fixed token.AMP) _ refl) (rule-term e rest)
  rule-term (Binary op l r) rest =
      simp append_assoc (through (rule-term l (fixed (operator_kind op) ∷ (tokens r ++ rest)))
      (through (beside (through (skip (fixed (operator_kind op)) _ (plain_operator op).0) (rule-term r rest))) regroup))
  rule-term RangeFull rest = through (skip (fixed token.DOT2) rest refl) alone
  rule-term (RangeFrom l) rest = simp append_assoc (through (rule-term l (fixed token.DOT2 ∷ rest)) (beside (skip (fixed token.DOT2) rest refl)))
  rule-term (RangeTo inclusive r) rest = through (skip (fixed (range_kind inclusive)) _ (plain_range inclusive).0) (rule-term r rest)
  rule-term (Range true l r) rest =
      simp append_assoc (through (rule-term l (fixed token.DOT2EQ ∷ (tokens r ++ rest))) (through (beside (through (skip (fixed token.DOT2EQ) _ refl) (rule-term r rest))) regroup))
  rule-term (Range false l r) rest =
      simp append_assoc (through (rule-term l (fixed token.DOT2 ∷ (tokens r ++ rest))) (through (beside (through (skip (fixed token.DOT2) _ refl) (rule-term r rest))) regroup))

  pub rule-arguments : (es : Terms) (rest : List Token) → begins_with_angle rest ≡ false → NoCastBeforeAngle (argument_tokens es ++ rest) ↔ (AllClear es × NoCastBeforeAngle rest)
  rule-arguments NoTerms rest none = alone
  rule-arguments (Last e) rest none = subst (λ b. NoCastBeforeAngle (tokens e ++ rest) ↔ (Clear b e × NoCastBeforeAngle rest)) none (rule-term e rest)
  rule-arguments (More e es) rest none =
      simp append_assoc (through (rule-term e (fixed token.COMMA ∷ (argument_tokens es ++ rest))) (through (beside (through (skip (fixed token.COMMA) _ refl) (rule-arguments es rest none))) regroup))
