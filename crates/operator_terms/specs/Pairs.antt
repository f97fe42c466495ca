-- Pairs of parentheses: put round each operand that doesn't fit, and one pair taken out.
use Rattle.std.specs.Prelude.{ℕ, zero, suc, List, [], ◌∷◌, Bool, true, false, not, ◌&&◌}
use Rattle.syntax_kind.specs.declared.syntax_kind.SyntaxKind.TheVariants.{Token as OfToken}
use Rattle.operator_terms.specs.Operators.{Operator, left_demand, right_demand, operator_kind}
use Rattle.operator_terms.specs.Term.{Term, Literal, Name, Paren, Field, Await, Try, Cast, Method, Call, Index, Prefix, Borrow, Binary, RangeFull, RangeFrom, RangeTo, Range, Terms, NoTerms, Last, More, tokens}
use Rattle.operator_terms.specs.Reading.{is_angle}
use Rattle.operator_terms.specs.Places.{Demand, AtLeast, Callee, meets, ends_in_cast}

abbrev pub pair_unless : Bool → Term → Term
pair_unless true t = t
pair_unless false t = Paren t

-- The operand fits its place. The flag says whether `<` or `<<` follows it.
abbrev pub fits_before : Demand → Bool → Term → Bool
fits_before d angle e = meets d e && not (ends_in_cast (tokens e) && angle)

abbrev pub is_angle_operator : Operator → Bool
is_angle_operator op = is_angle (OfToken (operator_kind op))

-- The term with a pair round each operand that doesn't fit, at every depth at once. The flag says
-- whether `<` or `<<` follows the term in the original whole term: it is passed on to the last part
-- of a form, and for a left operand it says whether the form's own operator is `<` or `<<`. Each
-- operand is tested in the original term, before any pair is inserted, also inside an operand that
-- gets one.
abbrev mutual
  pub paired_before : Bool → Term → Term
  paired_before angle (Literal kind text) = Literal kind text
  paired_before angle (Name text) = Name text
  paired_before angle (Paren e) = Paren (paired_before false e)
  paired_before angle (Field e n) = Field (pair_unless (fits_before (AtLeast 13) false e) (paired_before false e)) n
  paired_before angle (Await e) = Await (pair_unless (fits_before (AtLeast 13) false e) (paired_before false e))
  paired_before angle (Try e) = Try (pair_unless (fits_before (AtLeast 13) false e) (paired_before false e))
  paired_before angle (Cast e n) = Cast (pair_unless (fits_before (AtLeast 11) false e) (paired_before false e)) n
  paired_before angle (Method e n args) = Method (pair_unless (fits_before (AtLeast 13) false e) (paired_before false e)) n (all_paired args)
  paired_before angle (Call e args) = Call (pair_unless (fits_before Callee false e) (paired_before false e)) (all_paired args)
  paired_before angle (Index e i) = Index (pair_unless (fits_before (AtLeast 13) false e) (paired_before false e)) (paired_before false i)
  paired_before angle (Prefix op e) = Prefix op (pair_unless (fits_before (AtLeast 12) angle e) (paired_before angle e))
  paired_before angle (Borrow mutable e) = Borrow mutable (pair_unless (fits_before (AtLeast 12) angle e) (paired_before angle e))
  paired_before angle (Binary op l r) =
      Binary op
      (pair_unless (fits_before (AtLeast (left_demand op)) (is_angle_operator op) l) (paired_before (is_angle_operator op) l))
      (pair_unless (fits_before (AtLeast (right_demand op)) angle r) (paired_before angle r))
  paired_before angle RangeFull = RangeFull
  paired_before angle (RangeFrom l) = RangeFrom (pair_unless (fits_before (AtLeast 2) false l) (paired_before false l))
  paired_before angle (RangeTo inclusive r) = RangeTo inclusive (pair_unless (fits_before (AtLeast 2) angle r) (paired_before angle r))
  paired_before angle (Range inclusive l r) =
      Range inclusive
      (pair_unless (fits_before (AtLeast 2) false l) (paired_before false l))
      (pair_unless (fits_before (AtLeast 2) angle r) (paired_before angle r))

  pub all_paired : Terms → Terms
  all_paired NoTerms = NoTerms
  all_paired (Last e) = Last (paired_before false e)
  all_paired (More e es) = More (paired_before false e) (all_paired es)

abbrev pub paired : Term → Term
paired t = paired_before false t

-- ---- one pair taken out

-- the contents of a pair
abbrev pub inside : Term → Term
inside (Paren e) = e
inside t = t

abbrev pub change_argument : (Term → Term) → Terms → ℕ → Terms
change_argument f NoTerms i = NoTerms
change_argument f (Last e) zero = Last (f e)
change_argument f (Last e) (suc i) = Last e
change_argument f (More e es) zero = More (f e) es
change_argument f (More e es) (suc i) = More e (change_argument f es i)

-- the term with its part of this number changed
abbrev pub change_part : (Term → Term) → Term → ℕ → Term
change_part f (Paren e) zero = Paren (f e)
change_part f (Field e n) zero = Field (f e) n
change_part f (Await e) zero = Await (f e)
change_part f (Try e) zero = Try (f e)
change_part f (Cast e n) zero = Cast (f e) n
change_part f (Method e n args) zero = Method (f e) n args
change_part f (Method e n args) (suc i) = Method e n (change_argument f args i)
change_part f (Call e args) zero = Call (f e) args
change_part f (Call e args) (suc i) = Call e (change_argument f args i)
change_part f (Index e i) zero = Index (f e) i
change_part f (Index e i) (suc zero) = Index e (f i)
change_part f (Prefix op e) zero = Prefix op (f e)
change_part f (Borrow mutable e) zero = Borrow mutable (f e)
change_part f (Binary op l r) zero = Binary op (f l) r
change_part f (Binary op l r) (suc zero) = Binary op l (f r)
change_part f (RangeFrom l) zero = RangeFrom (f l)
change_part f (RangeTo inclusive r) zero = RangeTo inclusive (f r)
change_part f (Range inclusive l r) zero = Range inclusive (f l) r
change_part f (Range inclusive l r) (suc zero) = Range inclusive l (f r)
change_part f t i = t

-- the term with the pair at the place replaced by its contents
abbrev pub without : List ℕ → Term → Term
without [] t = inside t
without (i ∷ q) t = change_part (without q) t i
