-- A test of a whole term: does every operand fit? It computes, so worked terms are checked by
-- running it.
use Rattle.std.specs.Prelude.{Bool, true, ◌&&◌}
use Rattle.operator_terms.specs.Operators.{left_demand, right_demand}
use Rattle.operator_terms.specs.Term.{Term, Literal, Name, Paren, Field, Await, Try, Cast, Method, Call, Index, Prefix, Borrow, Binary, RangeFull, RangeFrom, RangeTo, Range, Terms, NoTerms, Last, More, tokens}
use Rattle.operator_terms.specs.Reading.{no_cast_before_angle}
use Rattle.operator_terms.specs.Places.{AtLeast, Callee, meets}

-- The form's direct parts meet their demands. Arguments, and the contents of parentheses and
-- brackets, may be any terms.
abbrev pub parts_meet : Term → Bool
parts_meet (Field e n) = meets (AtLeast 13) e
parts_meet (Await e) = meets (AtLeast 13) e
parts_meet (Try e) = meets (AtLeast 13) e
parts_meet (Cast e n) = meets (AtLeast 11) e
parts_meet (Method e n args) = meets (AtLeast 13) e
parts_meet (Call e args) = meets Callee e
parts_meet (Index e i) = meets (AtLeast 13) e
parts_meet (Prefix op e) = meets (AtLeast 12) e
parts_meet (Borrow mutable e) = meets (AtLeast 12) e
parts_meet (Binary op l r) = meets (AtLeast (left_demand op)) l && meets (AtLeast (right_demand op)) r
parts_meet (RangeFrom l) = meets (AtLeast 2) l
parts_meet (RangeTo inclusive r) = meets (AtLeast 2) r
parts_meet (Range inclusive l r) = meets (AtLeast 2) l && meets (AtLeast 2) r
parts_meet _ = true

-- so do the parts of each part, at every depth
abbrev mutual
  pub demands_met : Term → Bool
  demands_met (Literal kind text) = true
  demands_met (Name text) = true
  demands_met (Paren e) = demands_met e
  demands_met (Field e n) = parts_meet (Field e n) && demands_met e
  demands_met (Await e) = parts_meet (Await e) && demands_met e
  demands_met (Try e) = parts_meet (Try e) && demands_met e
  demands_met (Cast e n) = parts_meet (Cast e n) && demands_met e
  demands_met (Method e n args) = parts_meet (Method e n args) && (demands_met e && all_demands_met args)
  demands_met (Call e args) = parts_meet (Call e args) && (demands_met e && all_demands_met args)
  demands_met (Index e i) = parts_meet (Index e i) && (demands_met e && demands_met i)
  demands_met (Prefix op e) = parts_meet (Prefix op e) && demands_met e
  demands_met (Borrow mutable e) = parts_meet (Borrow mutable e) && demands_met e
  demands_met (Binary op l r) = parts_meet (Binary op l r) && (demands_met l && demands_met r)
  demands_met RangeFull = true
  demands_met (RangeFrom l) = parts_meet (RangeFrom l) && demands_met l
  demands_met (RangeTo inclusive r) = parts_meet (RangeTo inclusive r) && demands_met r
  demands_met (Range inclusive l r) = parts_meet (Range inclusive l r) && (demands_met l && demands_met r)

  pub all_demands_met : Terms → Bool
  all_demands_met NoTerms = true
  all_demands_met (Last e) = demands_met e
  all_demands_met (More e es) = demands_met e && all_demands_met es

-- every operand fits: each has the level that is demanded, and no cast's name precedes `<` or `<<`
abbrev pub all_fit : Term → Bool
all_fit t = demands_met t && no_cast_before_angle (tokens t)
