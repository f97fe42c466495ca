-- The parts of a term, what each place demands of its part, what follows a part, and which operands
-- fit.
use Rattle.std.specs.Prelude.{◌≡◌, ◌≤◌, ℕ, zero, suc, List, [], ◌∷◌, ◌++◌, Bool, true, false, not, ◌&&◌, ◌||◌, leb, Option, Some, None, IfSome, option_and_then}
use Rattle.syntax_kind.specs.declared.syntax_kind.token_kind.TokenKind.TheVariants as token
use Rattle.operator_terms.specs.Token.{Token, fixed}
use Rattle.operator_terms.specs.Operators.{left_demand, right_demand, operator_kind, range_kind}
use Rattle.operator_terms.specs.Term.{Term, Paren, Field, Await, Try, Cast, Method, Call, Index, Prefix, Borrow, Binary, RangeFrom, RangeTo, Range, Terms, NoTerms, Last, More, level, is_field, name, tokens, argument_tokens}
use Rattle.operator_terms.specs.Reading.{is_as, is_name, begins_with_angle}

-- What a place demands of its part: at least some level; a called expression must also not be a
-- field, since `a.f(x)` is a method call.
pub data Demand : Type 0 where
  AtLeast : ℕ → Demand
  Callee : Demand

abbrev pub Meets : Demand → Term → Type 0
Meets (AtLeast k) t = k ≤ level t
Meets Callee t = (13 ≤ level t) × (is_field t ≡ false)

-- the same as a `Bool`
abbrev pub meets : Demand → Term → Bool
meets (AtLeast k) t = leb k (level t)
meets Callee t = leb 13 (level t) && not (is_field t)

-- a term that a form holds, and what its place demands
pub record Part : Type 0 where
  pub demand : Demand
  pub term : Term

abbrev pub some_part : Demand → Term → Option Part
some_part d t = Some (record { demand = d; term = t })

abbrev pub argument : Terms → ℕ → Option Part
argument NoTerms i = None
argument (Last e) zero = some_part (AtLeast 0) e
argument (Last e) (suc i) = None
argument (More e es) zero = some_part (AtLeast 0) e
argument (More e es) (suc i) = argument es i

-- The part of this number, counted from 0 as they are in the text; the argument i of a call or
-- method call is its part i + 1.
abbrev pub part : Term → ℕ → Option Part
part (Paren e) zero = some_part (AtLeast 0) e
part (Field e n) zero = some_part (AtLeast 13) e
part (Await e) zero = some_part (AtLeast 13) e
part (Try e) zero = some_part (AtLeast 13) e
part (Cast e n) zero = some_part (AtLeast 11) e
part (Method e n args) zero = some_part (AtLeast 13) e
part (Method e n args) (suc i) = argument args i
part (Call e args) zero = some_part Callee e
part (Call e args) (suc i) = argument args i
part (Index e i) zero = some_part (AtLeast 13) e
part (Index e i) (suc zero) = some_part (AtLeast 0) i
part (Prefix op e) zero = some_part (AtLeast 12) e
part (Borrow mutable e) zero = some_part (AtLeast 12) e
part (Binary op l r) zero = some_part (AtLeast (left_demand op)) l
part (Binary op l r) (suc zero) = some_part (AtLeast (right_demand op)) r
part (RangeFrom l) zero = some_part (AtLeast 2) l
part (RangeTo inclusive r) zero = some_part (AtLeast 2) r
part (Range inclusive l r) zero = some_part (AtLeast 2) l
part (Range inclusive l r) (suc zero) = some_part (AtLeast 2) r
part _ _ = None

-- A place is a list of part numbers from the root down. The empty list is the root, where d is
-- demanded.
abbrev pub part_at : Demand → Term → List ℕ → Option Part
part_at d t [] = some_part d t
part_at d t (i ∷ q) = option_and_then (λ p. part_at p.demand p.term q) (part t i)

-- the operand at a place: a part at any depth, or the whole term
abbrev pub operand : Term → List ℕ → Option Part
operand t q = part_at (AtLeast 0) t q

-- ---- what follows

abbrev pub behind_argument : Terms → ℕ → List Token
behind_argument NoTerms i = []
behind_argument (Last e) i = []
behind_argument (More e es) zero = fixed token.COMMA ∷ argument_tokens es
behind_argument (More e es) (suc i) = behind_argument es i

-- the tokens of the form that follow its part of this number
abbrev pub behind_part : Term → ℕ → List Token
behind_part (Paren e) i = fixed token.R_PAREN ∷ []
behind_part (Field e n) i = fixed token.DOT ∷ name n ∷ []
behind_part (Await e) i = fixed token.DOT ∷ fixed token.AWAIT_KW ∷ []
behind_part (Try e) i = fixed token.QUESTION ∷ []
behind_part (Cast e n) i = fixed token.AS_KW ∷ name n ∷ []
behind_part (Method e n args) zero = fixed token.DOT ∷ name n ∷ fixed token.L_PAREN ∷ (argument_tokens args ++ (fixed token.R_PAREN ∷ []))
behind_part (Method e n args) (suc i) = behind_argument args i ++ (fixed token.R_PAREN ∷ [])
behind_part (Call e args) zero = fixed token.L_PAREN ∷ (argument_tokens args ++ (fixed token.R_PAREN ∷ []))
behind_part (Call e args) (suc i) = behind_argument args i ++ (fixed token.R_PAREN ∷ [])
behind_part (Index e i) zero = fixed token.L_BRACK ∷ (tokens i ++ (fixed token.R_BRACK ∷ []))
behind_part (Index e i) (suc j) = fixed token.R_BRACK ∷ []
behind_part (Binary op l r) zero = fixed (operator_kind op) ∷ tokens r
behind_part (RangeFrom l) i = fixed token.DOT2 ∷ []
behind_part (Range inclusive l r) zero = fixed (range_kind inclusive) ∷ tokens r
behind_part _ _ = []

abbrev pub behind_in : (Term → List Token) → Option Part → List Token → List Token
behind_in f None ts = []
behind_in f (Some p) ts = f p.term ++ ts

-- the tokens of the whole term that follow the operand at a place
abbrev pub tokens_behind : List ℕ → Term → List Token
tokens_behind [] t = []
tokens_behind (i ∷ q) t = behind_in (tokens_behind q) (part t i) (behind_part t i)

-- ---- fitting

abbrev pub is_one_name : List Token → Bool
is_one_name [] = false
is_one_name (t ∷ []) = is_name t.kind
is_one_name (t ∷ u ∷ ts) = false

-- the last two tokens are `as` and a name
abbrev pub ends_in_cast : List Token → Bool
ends_in_cast [] = false
ends_in_cast (t ∷ ts) = (is_as t.kind && is_one_name ts) || ends_in_cast ts

-- A term fits a place: it meets what is demanded there, and if it ends in a cast's name, neither
-- `<` nor `<<` follows. The flag says whether one of them does.
abbrev pub FitsPlace : Demand → (angle : Bool) → Term → Type 0
FitsPlace d angle e = Meets d e × (ends_in_cast (tokens e) ≡ true → angle ≡ false)

-- The operand at the place q fits, before the tokens that follow it in the whole term. (Nothing is
-- required if q is not a place of the term.)
abbrev pub Fits : Term → List ℕ → Type 0
Fits t q = IfSome (operand t q) (λ p. FitsPlace p.demand (begins_with_angle (tokens_behind q t)) p.term)

-- a whole term may precede these tokens: if it ends in a cast's name, they don't begin with `<` or
-- `<<`
abbrev pub MayStandBefore : List Token → Term → Type 0
MayStandBefore following t = ends_in_cast (tokens t) ≡ true → begins_with_angle following ≡ false
