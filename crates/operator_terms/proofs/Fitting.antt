-- From structure to places: `PartsFit`, an induction on the term, says the same as "the operand at
-- each place has its level". So tokens derive the term exactly where each operand has the level
-- that its place demands. Casts are not yet looked at.
use Rattle.std.proofs.Common.{◌≡◌, ◌≤◌, ◌↔◌, ℕ, zero, suc, List, [], ◌∷◌, false, Option, Some, None, IfSome, option_and_then, arith}
use Rattle.operator_terms.specs.Operators.{left_demand, right_demand}
use Rattle.operator_terms.specs.Term.{Await, Binary, Borrow, Call, Cast, Field, Index, Last, Literal, Method, More, Name, NoTerms, Paren, Prefix, Range, RangeFrom, RangeFull, RangeTo, Term, Terms, Try, is_field, level, tokens}
use Rattle.operator_terms.specs.Reading.{Derives}
use Rattle.operator_terms.specs.Places.{AtLeast, Callee, Demand, Meets, Part, argument, operand, part, part_at}
use Rattle.operator_terms.proofs.Parts.{PartsFit, ArgumentsFit}
use Rattle.operator_terms.proofs.Deriving.{Derives-parts, Derives_of_parts}

-- the operand at the place has the level that is demanded
abbrev pub LevelFits : Term → List ℕ → Type 0
LevelFits t q = IfSome (operand t q) (λ p. Meets p.demand p.term)

-- the part has what its place demands, and so have its own parts
abbrev pub Good : Part → Type 0
Good p = Meets p.demand p.term × PartsFit p.term

Good-argument : (es : Terms) (i : ℕ) → ArgumentsFit es → IfSome (argument es i) Good
Good-argument NoTerms i h = tt
Good-argument (Last e) zero h = (omega arith, h)
Good-argument (Last e) (suc i) h = tt
Good-argument (More e es) zero h = (omega arith, h.0)
Good-argument (More e es) (suc i) h = Good-argument es i h.1

pub Good-part : (t : Term) (i : ℕ) → PartsFit t → IfSome (part t i) Good
Good-part (Paren e) zero h = (omega arith, h)
Good-part (Field e n) zero h = h
Good-part (Await e) zero h = h
Good-part (Try e) zero h = h
Good-part (Cast e n) zero h = h
Good-part (Method e n args) zero h = (h.0, h.1)
Good-part (Method e n args) (suc i) h = Good-argument args i h.2
Good-part (Call e args) zero h = ((h.0, h.1), h.2)
Good-part (Call e args) (suc i) h = Good-argument args i h.3
Good-part (Index e i) zero h = (h.0, h.1)
Good-part (Index e i) (suc zero) h = (omega arith, h.2)
Good-part (Prefix op e) zero h = h
Good-part (Borrow mutable e) zero h = h
Good-part (Binary op l r) zero h = (h.0, h.2)
Good-part (Binary op l r) (suc zero) h = (h.1, h.3)
Good-part (RangeFrom l) zero h = h
Good-part (RangeTo inclusive r) zero h = h
Good-part (Range inclusive l r) zero h = (h.0, h.2)
Good-part (Range inclusive l r) (suc zero) h = (h.1, h.3)
Good-part _ _ h = tt

below : (P : Part → Type 0) (Q : Part → Type 0) (f : Part → Option Part) → ((p : Part) → P p → IfSome (f p) Q) → (o : Option Part) → IfSome o P → IfSome (option_and_then f o) Q
below P Q f each None h = tt
below P Q f each (Some p) h = each p h

pub Good-at : (q : List ℕ) (p : Part) → Good p → IfSome (part_at p.demand p.term q) Good
Good-at [] p h = h
Good-at (i ∷ q) p h = below Good Good (λ r. part_at r.demand r.term q) (Good-at q) (part p.term i) (Good-part p.term i h.1)

-- the other way
mutual
  parts_of_places : (t : Term) (d : Demand) → ((q : List ℕ) → IfSome (part_at d t q) (λ p. Meets p.demand p.term)) → PartsFit t
  parts_of_places (Literal kind text) d h = tt
  parts_of_places (Name text) d h = tt
  parts_of_places (Paren e) d h = parts_of_places e (AtLeast 0) (λ q. h (0 ∷ q))
  parts_of_places (Field e n) d h = (h (0 ∷ []), parts_of_places e (AtLeast 13) (λ q. h (0 ∷ q)))
  parts_of_places (Await e) d h = (h (0 ∷ []), parts_of_places e (AtLeast 13) (λ q. h (0 ∷ q)))
  parts_of_places (Cast e n) d h = (h (0 ∷ []), parts_of_places e (AtLeast 11) (λ q. h (0 ∷ q)))
  parts_of_places (Try e) d h = (h (0 ∷ []), parts_of_places e (AtLeast 13) (λ q. h (0 ∷ q)))
  parts_of_places (Method e n args) d h = (h (0 ∷ []), parts_of_places e (AtLeast 13) (λ q. h (0 ∷ q)), arguments_of_places args (λ i q. h (suc i ∷ q)))
  parts_of_places (Call e args) d h =
      let callee : (13 ≤ level e) × (is_field e ≡ false) = h (0 ∷ []) in
      (callee.0, callee.1, parts_of_places e Callee (λ q. h (0 ∷ q)), arguments_of_places args (λ i q. h (suc i ∷ q)))
  parts_of_places (Index e i) d h = (h (0 ∷ []), parts_of_places e (AtLeast 13) (λ q. h (0 ∷ q)), parts_of_places i (AtLeast 0) (λ q. h (1 ∷ q)))
  parts_of_places (Prefix op e) d h = (h (0 ∷ []), parts_of_places e (AtLeast 12) (λ q. h (0 ∷ q)))
  parts_of_places (Borrow mutable e) d h = (h (0 ∷ []), parts_of_places e (AtLeast 12) (λ q. h (0 ∷ q)))
  parts_of_places (Binary op l r) d h =
      (h (0 ∷ []), h (1 ∷ []), parts_of_places l (AtLeast (left_demand op)) (λ q. h (0 ∷ q)), parts_of_places r (AtLeast (right_demand op)) (λ q. h (1 ∷ q)))
  parts_of_places RangeFull d h = tt
  parts_of_places (RangeFrom l) d h = (h (0 ∷ []), parts_of_places l (AtLeast 2) (λ q. h (0 ∷ q)))
  parts_of_places (RangeTo inclusive r) d h = (h (0 ∷ []), parts_of_places r (AtLeast 2) (λ q. h (0 ∷ q)))
  parts_of_places (Range inclusive l r) d h = (h (0 ∷ []), h (1 ∷ []), parts_of_places l (AtLeast 2) (λ q. h (0 ∷ q)), parts_of_places r (AtLeast 2) (λ q. h (1 ∷ q)))

  arguments_of_places : (es : Terms) → ((i : ℕ) (q : List ℕ) → IfSome (option_and_then (λ p. part_at p.demand p.term q) (argument es i)) (λ p. Meets p.demand p.term)) → ArgumentsFit es
  arguments_of_places NoTerms h = tt
  arguments_of_places (Last e) h = parts_of_places e (AtLeast 0) (λ q. h 0 q)
  arguments_of_places (More e es) h = (parts_of_places e (AtLeast 0) (λ q. h 0 q), arguments_of_places es (λ i q. h (suc i) q))

meets_only : (o : Option Part) → IfSome o Good → IfSome o (λ p. Meets p.demand p.term)
meets_only None h = tt
meets_only (Some p) h = h.0

pub derives_exactly : (t : Term) → Derives 0 (tokens t) t ↔ ((q : List ℕ) → LevelFits t q)
derives_exactly t = (
  (λ h q. meets_only (operand t q) (Good-at q (record { demand = AtLeast 0; term = t }) (omega arith, Derives-parts t 0 (tokens t) h))),
  (λ h. Derives_of_parts t 0 (omega arith) (parts_of_places t (AtLeast 0) h)),
)
