-- The test `all_fit` decides whether every operand fits. Half by half: `demands_met` decides the
-- structural form `PartsFit` (an induction on the term), and the rule on casts is a test of the
-- tokens already.
use Rattle.std.proofs.Common.{◌≡◌, ◌↔◌, ℕ, List, true, ◌&&◌, refl, arith}
use Rattle.operator_terms.specs.Operators.{left_demand, right_demand}
use Rattle.operator_terms.specs.Term.{Term, Literal, Name, Paren, Field, Await, Try, Cast, Method, Call, Index, Prefix, Borrow, Binary, RangeFull, RangeFrom, RangeTo, Range, Terms, NoTerms, Last, More, tokens}
use Rattle.operator_terms.specs.Reading.{Reads, no_cast_before_angle}
use Rattle.operator_terms.specs.Places.{AtLeast, Callee, meets, Fits}
use Rattle.operator_terms.specs.AllFit.{parts_meet, demands_met, all_demands_met, all_fit}
use Rattle.operator_terms.proofs.Bools.{both-true, true-both}
use Rattle.operator_terms.proofs.Demands.{meets-true, true-meets}
use Rattle.operator_terms.proofs.Parts.{PartsFit, ArgumentsFit}
use Rattle.operator_terms.proofs.Deriving.{Derives-parts, Derives_of_parts}
use Rattle.operator_terms.proofs.Readings.{reads_exactly, reads-derives, reads-rule, reads_of_both}

mutual
  parts_of_test : (t : Term) → demands_met t ≡ true → PartsFit t
  parts_of_test (Literal kind text) h = tt
  parts_of_test (Name text) h = tt
  parts_of_test (Paren e) h = parts_of_test e h
  parts_of_test (Field e n) h = let both = both-true (meets (AtLeast 13) e) (demands_met e) h in (true-meets (AtLeast 13) e both.0, parts_of_test e both.1)
  parts_of_test (Await e) h = let both = both-true (meets (AtLeast 13) e) (demands_met e) h in (true-meets (AtLeast 13) e both.0, parts_of_test e both.1)
  parts_of_test (Try e) h = let both = both-true (meets (AtLeast 13) e) (demands_met e) h in (true-meets (AtLeast 13) e both.0, parts_of_test e both.1)
  parts_of_test (Cast e n) h = let both = both-true (meets (AtLeast 11) e) (demands_met e) h in (true-meets (AtLeast 11) e both.0, parts_of_test e both.1)
  parts_of_test (Prefix op e) h = let both = both-true (meets (AtLeast 12) e) (demands_met e) h in (true-meets (AtLeast 12) e both.0, parts_of_test e both.1)
  parts_of_test (Borrow mutable e) h = let both = both-true (meets (AtLeast 12) e) (demands_met e) h in (true-meets (AtLeast 12) e both.0, parts_of_test e both.1)
  parts_of_test (Method e n args) h =
      let both = both-true (meets (AtLeast 13) e) (demands_met e && all_demands_met args) h in
      let below = both-true (demands_met e) (all_demands_met args) both.1 in
      (true-meets (AtLeast 13) e both.0, parts_of_test e below.0, arguments_of_test args below.1)
  parts_of_test (Call e args) h =
      let both = both-true (meets Callee e) (demands_met e && all_demands_met args) h in
      let below = both-true (demands_met e) (all_demands_met args) both.1 in
      let met = true-meets Callee e both.0 in
      (met.0, met.1, parts_of_test e below.0, arguments_of_test args below.1)
  parts_of_test (Index e i) h =
      let both = both-true (meets (AtLeast 13) e) (demands_met e && demands_met i) h in
      let below = both-true (demands_met e) (demands_met i) both.1 in
      (true-meets (AtLeast 13) e both.0, parts_of_test e below.0, parts_of_test i below.1)
  parts_of_test (Binary op l r) h =
      let both = both-true (parts_meet (Binary op l r)) (demands_met l && demands_met r) h in
      let met = both-true (meets (AtLeast (left_demand op)) l) (meets (AtLeast (right_demand op)) r) both.0 in
      let below = both-true (demands_met l) (demands_met r) both.1 in
      (true-meets (AtLeast (left_demand op)) l met.0, true-meets (AtLeast (right_demand op)) r met.1, parts_of_test l below.0, parts_of_test r below.1)
  parts_of_test RangeFull h = tt
  parts_of_test (RangeFrom l) h = let both = both-true (meets (AtLeast 2) l) (demands_met l) h in (true-meets (AtLeast 2) l both.0, parts_of_test l both.1)
  parts_of_test (RangeTo inclusive r) h = let both = both-true (meets (AtLeast 2) r) (demands_met r) h in (true-meets (AtLeast 2) r both.0, parts_of_test r both.1)
  parts_of_test (Range inclusive l r) h =
      let both = both-true (parts_meet (Range inclusive l r)) (demands_met l && demands_met r) h in
      let met = both-true (meets (AtLeast 2) l) (meets (AtLeast 2) r) both.0 in
      let below = both-true (demands_met l) (demands_met r) both.1 in
      (true-meets (AtLeast 2) l met.0, true-meets (AtLeast 2) r met.1, parts_of_test l below.0, parts_of_test r below.1)

  arguments_of_test : (es : Terms) → all_demands_met es ≡ true → ArgumentsFit es
  arguments_of_test NoTerms h = tt
  arguments_of_test (Last e) h = parts_of_test e h
  arguments_of_test (More e es) h = let both = both-true (demands_met e) (all_demands_met es) h in (parts_of_test e both.0, arguments_of_test es both.1)

mutual
  test_of_parts : (t : Term) → PartsFit t → demands_met t ≡ true
  test_of_parts (Literal kind text) h = refl
  test_of_parts (Name text) h = refl
  test_of_parts (Paren e) h = test_of_parts e h
  test_of_parts (Field e n) h = true-both (meets (AtLeast 13) e) (demands_met e) (meets-true (AtLeast 13) e h.0) (test_of_parts e h.1)
  test_of_parts (Await e) h = true-both (meets (AtLeast 13) e) (demands_met e) (meets-true (AtLeast 13) e h.0) (test_of_parts e h.1)
  test_of_parts (Try e) h = true-both (meets (AtLeast 13) e) (demands_met e) (meets-true (AtLeast 13) e h.0) (test_of_parts e h.1)
  test_of_parts (Cast e n) h = true-both (meets (AtLeast 11) e) (demands_met e) (meets-true (AtLeast 11) e h.0) (test_of_parts e h.1)
  test_of_parts (Prefix op e) h = true-both (meets (AtLeast 12) e) (demands_met e) (meets-true (AtLeast 12) e h.0) (test_of_parts e h.1)
  test_of_parts (Borrow mutable e) h = true-both (meets (AtLeast 12) e) (demands_met e) (meets-true (AtLeast 12) e h.0) (test_of_parts e h.1)
  test_of_parts (Method e n args) h =
      true-both (meets (AtLeast 13) e) (demands_met e && all_demands_met args) (meets-true (AtLeast 13) e h.0)
      (true-both (demands_met e) (all_demands_met args) (test_of_parts e h.1) (test_of_arguments args h.2))
  test_of_parts (Call e args) h =
      true-both (meets Callee e) (demands_met e && all_demands_met args) (meets-true Callee e (h.0, h.1))
      (true-both (demands_met e) (all_demands_met args) (test_of_parts e h.2) (test_of_arguments args h.3))
  test_of_parts (Index e i) h =
      true-both (meets (AtLeast 13) e) (demands_met e && demands_met i) (meets-true (AtLeast 13) e h.0)
      (true-both (demands_met e) (demands_met i) (test_of_parts e h.1) (test_of_parts i h.2))
  test_of_parts (Binary op l r) h =
      true-both (parts_meet (Binary op l r)) (demands_met l && demands_met r)
      (true-both (meets (AtLeast (left_demand op)) l) (meets (AtLeast (right_demand op)) r) (meets-true (AtLeast (left_demand op)) l h.0) (meets-true (AtLeast (right_demand op)) r h.1))
      (true-both (demands_met l) (demands_met r) (test_of_parts l h.2) (test_of_parts r h.3))
  test_of_parts RangeFull h = refl
  test_of_parts (RangeFrom l) h = true-both (meets (AtLeast 2) l) (demands_met l) (meets-true (AtLeast 2) l h.0) (test_of_parts l h.1)
  test_of_parts (RangeTo inclusive r) h = true-both (meets (AtLeast 2) r) (demands_met r) (meets-true (AtLeast 2) r h.0) (test_of_parts r h.1)
  test_of_parts (Range inclusive l r) h =
      true-both (parts_meet (Range inclusive l r)) (demands_met l && demands_met r)
      (true-both (meets (AtLeast 2) l) (meets (AtLeast 2) r) (meets-true (AtLeast 2) l h.0) (meets-true (AtLeast 2) r h.1))
      (true-both (demands_met l) (demands_met r) (test_of_parts l h.2) (test_of_parts r h.3))

  test_of_arguments : (es : Terms) → ArgumentsFit es → all_demands_met es ≡ true
  test_of_arguments NoTerms h = refl
  test_of_arguments (Last e) h = test_of_parts e h
  test_of_arguments (More e es) h = true-both (demands_met e) (all_demands_met es) (test_of_parts e h.0) (test_of_arguments es h.1)

pub all_fit-reads : (t : Term) → all_fit t ≡ true ↔ Reads 0 (tokens t) t
all_fit-reads t = (
  (λ h. let both = both-true (demands_met t) (no_cast_before_angle (tokens t)) h in
      reads_of_both 0 (tokens t) t (Derives_of_parts t 0 (omega arith) (parts_of_test t both.0)) both.1),
  (λ h. true-both (demands_met t) (no_cast_before_angle (tokens t)) (test_of_parts t (Derives-parts t 0 (tokens t) (reads-derives 0 (tokens t) t h))) (reads-rule 0 (tokens t) t h)),
)

pub all_fit-decides : (t : Term) → all_fit t ≡ true ↔ ((q : List ℕ) → Fits t q)
all_fit-decides t = (
  (λ h. (reads_exactly t).0 ((all_fit-reads t).0 h)),
  (λ h. (all_fit-reads t).1 ((reads_exactly t).1 h)),
)
