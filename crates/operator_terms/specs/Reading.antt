-- How tokens read as a term: the layered grammar of operator expressions, after the Rust
-- Reference's table in "Expression precedence", and one rule on casts.
use Rattle.std.specs.Prelude.{◌≡◌, ◌≤◌, ℕ, List, [], ◌∷◌, ◌++◌, Bool, true, false, not, ◌&&◌}
use Rattle.syntax_kind.specs.declared.syntax_kind.SyntaxKind.{SyntaxKind}
use Rattle.syntax_kind.specs.declared.syntax_kind.SyntaxKind.TheVariants.{Token as OfToken}
use Rattle.syntax_kind.specs.declared.syntax_kind.token_kind.TokenKind.TheVariants as token
use Rattle.operator_terms.specs.Token.{Token, fixed}
use Rattle.operator_terms.specs.Operators.{operator_level, left_demand, right_demand, operator_kind, prefix_kind, range_kind}
use Rattle.operator_terms.specs.Term.{Term, Literal, Name, Paren, Field, Await, Try, Cast, Method, Call, Index, Prefix, Borrow, Binary, RangeFull, RangeFrom, RangeTo, Range, Terms, NoTerms, Last, More, is_field, literal, name, borrow_tokens}

-- `Derives k ts t`: where a term of level k at least is wanted, the grammar makes the term t of the
-- tokens ts. The clause of a form says three things: k is at most the form's level; the tokens are
-- cut into the form's own tokens and a piece for each part; each piece makes its part, at the level
-- that its place demands. Only a call demands more of a part than a level: `a.f(x)` is a method
-- call and never a call of the field `a.f`.
unfoldable mutual
  pub Derives : ℕ → List Token → Term → Type 0
  Derives k ts (Literal kind text) = (k ≤ 14) × (ts ≡ literal kind text ∷ [])
  Derives k ts (Name text) = (k ≤ 14) × (ts ≡ name text ∷ [])
  Derives k ts (Paren e) =
      (k ≤ 14) × (inner : List Token) × (ts ≡ fixed token.L_PAREN ∷ (inner ++ (fixed token.R_PAREN ∷ []))) × Derives 0 inner e
  Derives k ts (Field e n) = (k ≤ 13) × (base : List Token) × (ts ≡ base ++ (fixed token.DOT ∷ name n ∷ [])) × Derives 13 base e
  Derives k ts (Await e) =
      (k ≤ 13) × (base : List Token) × (ts ≡ base ++ (fixed token.DOT ∷ fixed token.AWAIT_KW ∷ [])) × Derives 13 base e
  Derives k ts (Try e) = (k ≤ 13) × (base : List Token) × (ts ≡ base ++ (fixed token.QUESTION ∷ [])) × Derives 13 base e
  Derives k ts (Cast e n) = (k ≤ 11) × (base : List Token) × (ts ≡ base ++ (fixed token.AS_KW ∷ name n ∷ [])) × Derives 11 base e
  Derives k ts (Method e n args) =
      (k ≤ 13) × (base : List Token) × (inner : List Token)
      × (ts ≡ base ++ (fixed token.DOT ∷ name n ∷ fixed token.L_PAREN ∷ (inner ++ (fixed token.R_PAREN ∷ []))))
      × Derives 13 base e × DerivesAll inner args
  Derives k ts (Call e args) =
      (k ≤ 13) × (base : List Token) × (inner : List Token)
      × (ts ≡ base ++ (fixed token.L_PAREN ∷ (inner ++ (fixed token.R_PAREN ∷ []))))
      × Derives 13 base e × (is_field e ≡ false) × DerivesAll inner args
  Derives k ts (Index e i) =
      (k ≤ 13) × (base : List Token) × (inner : List Token)
      × (ts ≡ base ++ (fixed token.L_BRACK ∷ (inner ++ (fixed token.R_BRACK ∷ [])))) × Derives 13 base e × Derives 0 inner i
  Derives k ts (Prefix op e) = (k ≤ 12) × (after : List Token) × (ts ≡ fixed (prefix_kind op) ∷ after) × Derives 12 after e
  Derives k ts (Borrow mutable e) = (k ≤ 12) × (after : List Token) × (ts ≡ borrow_tokens mutable ++ after) × Derives 12 after e
  Derives k ts (Binary op l r) =
      (k ≤ operator_level op) × (before : List Token) × (after : List Token)
      × (ts ≡ before ++ (fixed (operator_kind op) ∷ after)) × Derives (left_demand op) before l × Derives (right_demand op) after r
  Derives k ts RangeFull = (k ≤ 1) × (ts ≡ fixed token.DOT2 ∷ [])
  Derives k ts (RangeFrom l) = (k ≤ 1) × (before : List Token) × (ts ≡ before ++ (fixed token.DOT2 ∷ [])) × Derives 2 before l
  Derives k ts (RangeTo inclusive r) =
      (k ≤ 1) × (after : List Token) × (ts ≡ fixed (range_kind inclusive) ∷ after) × Derives 2 after r
  Derives k ts (Range inclusive l r) =
      (k ≤ 1) × (before : List Token) × (after : List Token)
      × (ts ≡ before ++ (fixed (range_kind inclusive) ∷ after)) × Derives 2 before l × Derives 2 after r

  -- arguments, with a comma after each but perhaps the last
  pub DerivesAll : List Token → Terms → Type 0
  DerivesAll ts NoTerms = ts ≡ []
  DerivesAll ts (Last e) = Derives 0 ts e
  DerivesAll ts (More e es) =
      (first : List Token) × (others : List Token) × (ts ≡ first ++ (fixed token.COMMA ∷ others)) × Derives 0 first e × DerivesAll others es

-- ---- the rule on casts: after `as T` a `<` or `<<` would begin the generic arguments of the type
-- T, so `a as T < b` is no comparison (Rust Reference, "Type cast expressions" and "Paths in
-- types")

abbrev pub is_as : SyntaxKind → Bool
is_as (OfToken token.AS_KW) = true
is_as _ = false

abbrev pub is_name : SyntaxKind → Bool
is_name (OfToken token.IDENT) = true
is_name _ = false

abbrev pub is_angle : SyntaxKind → Bool
is_angle (OfToken token.L_ANGLE) = true
is_angle (OfToken token.SHL) = true
is_angle _ = false

-- the first token is `<` or `<<`
abbrev pub begins_with_angle : List Token → Bool
begins_with_angle [] = false
begins_with_angle (t ∷ ts) = is_angle t.kind

-- the first two tokens are a name, and `<` or `<<`
abbrev pub begins_with_name_and_angle : List Token → Bool
begins_with_name_and_angle [] = false
begins_with_name_and_angle (t ∷ ts) = is_name t.kind && begins_with_angle ts

-- no three neighbours are `as`, a name, and `<` or `<<`
abbrev pub no_cast_before_angle : List Token → Bool
no_cast_before_angle [] = true
no_cast_before_angle (t ∷ ts) = not (is_as t.kind && begins_with_name_and_angle ts) && no_cast_before_angle ts

-- `Reads k ts t`: the tokens ts read as the term t where level k at least is wanted. Level 0 is
-- that of an expression.
unfoldable pub Reads : ℕ → List Token → Term → Type 0
Reads k ts t = Derives k ts t × (no_cast_before_angle ts ≡ true)
