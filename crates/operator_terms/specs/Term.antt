-- Operator expressions as terms, the level of each form, and the tokens of a term.
use Rattle.std.specs.Prelude.{ℕ, List, [], ◌∷◌, ◌++◌, Bool, true, false}
use Rattle.operator_terms.specs.Token.{Token, fixed, free}
use Rattle.operator_terms.specs.Operators.{LiteralKind, Operator, PrefixOperator, operator_level, literal_kind, operator_kind, prefix_kind, range_kind}
use Rattle.syntax_kind.specs.declared.syntax_kind.token_kind.TokenKind.TheVariants as token

-- The forms. A range has both ends (`Range`), one (`RangeFrom`, `RangeTo`) or none (`RangeFull`):
-- so `..=` always has its end. `Cast` is to a type of one name. Arguments are none (`NoTerms`), a
-- last one (`Last`), or one with a comma after it and then others (`More`): so `f(a)` is `Last a`,
-- `f(a,)` is `More a NoTerms`, and `f(a, b)` is `More a (Last b)`.
mutual
  pub data Term : Type 0 where
    Literal : LiteralKind → (text : List ℕ) → Term
    Name : (text : List ℕ) → Term
    Paren : Term → Term
    Field : Term → (name : List ℕ) → Term
    Await : Term → Term
    Try : Term → Term
    Cast : Term → (to : List ℕ) → Term
    Method : Term → (name : List ℕ) → Terms → Term
    Call : Term → Terms → Term
    Index : Term → Term → Term
    Prefix : PrefixOperator → Term → Term
    Borrow : (mutable : Bool) → Term → Term
    Binary : Operator → Term → Term → Term
    RangeFull : Term
    RangeFrom : Term → Term
    RangeTo : (inclusive : Bool) → Term → Term
    Range : (inclusive : Bool) → Term → Term → Term

  pub data Terms : Type 0 where
    NoTerms : Terms
    Last : Term → Terms
    More : Term → Terms → Terms

-- how strongly a form holds its parts together
abbrev pub level : Term → ℕ
level (Literal kind text) = 14
level (Name text) = 14
level (Paren e) = 14
level (Field e n) = 13
level (Await e) = 13
level (Try e) = 13
level (Cast e n) = 11
level (Method e n args) = 13
level (Call e args) = 13
level (Index e i) = 13
level (Prefix op e) = 12
level (Borrow mutable e) = 12
level (Binary op l r) = operator_level op
level RangeFull = 1
level (RangeFrom l) = 1
level (RangeTo inclusive r) = 1
level (Range inclusive l r) = 1

abbrev pub is_field : Term → Bool
is_field (Field e n) = true
is_field _ = false

-- ---- tokens

abbrev pub literal : LiteralKind → List ℕ → Token
literal k text = free (literal_kind k) text

abbrev pub name : List ℕ → Token
name text = free token.IDENT text

-- what a borrow begins with: `&` or `& mut`
abbrev pub borrow_tokens : (mutable : Bool) → List Token
borrow_tokens true = fixed token.AMP ∷ fixed token.MUT_KW ∷ []
borrow_tokens false = fixed token.AMP ∷ []

-- the tokens of a term, in order
unfoldable mutual
  pub tokens : Term → List Token
  tokens (Literal kind text) = literal kind text ∷ []
  tokens (Name text) = name text ∷ []
  tokens (Paren e) = fixed token.L_PAREN ∷ (tokens e ++ (fixed token.R_PAREN ∷ []))
  tokens (Field e n) = tokens e ++ (fixed token.DOT ∷ name n ∷ [])
  tokens (Await e) = tokens e ++ (fixed token.DOT ∷ fixed token.AWAIT_KW ∷ [])
  tokens (Try e) = tokens e ++ (fixed token.QUESTION ∷ [])
  tokens (Cast e n) = tokens e ++ (fixed token.AS_KW ∷ name n ∷ [])
  tokens (Method e n args) = tokens e ++ (fixed token.DOT ∷ name n ∷ fixed token.L_PAREN ∷ (argument_tokens args ++ (fixed token.R_PAREN ∷ [])))
  tokens (Call e args) = tokens e ++ (fixed token.L_PAREN ∷ (argument_tokens args ++ (fixed token.R_PAREN ∷ [])))
  tokens (Index e i) = tokens e ++ (fixed token.L_BRACK ∷ (tokens i ++ (fixed token.R_BRACK ∷ [])))
  tokens (Prefix op e) = fixed (prefix_kind op) ∷ tokens e
  tokens (Borrow mutable e) = borrow_tokens mutable ++ tokens e
  tokens (Binary op l r) = tokens l ++ (fixed (operator_kind op) ∷ tokens r)
  tokens RangeFull = fixed token.DOT2 ∷ []
  tokens (RangeFrom l) = tokens l ++ (fixed token.DOT2 ∷ [])
  tokens (RangeTo inclusive r) = fixed (range_kind inclusive) ∷ tokens r
  tokens (Range inclusive l r) = tokens l ++ (fixed (range_kind inclusive) ∷ tokens r)

  pub argument_tokens : Terms → List Token
  argument_tokens NoTerms = []
  argument_tokens (Last e) = tokens e
  argument_tokens (More e es) = tokens e ++ (fixed token.COMMA ∷ argument_tokens es)
