-- A pair may go exactly where what it holds has the level that the pair's place demands. Taking a
-- pair out keeps the form and the level of every term above it (`level-change`), so nothing changes
-- but the fit at the pair's own place (`free_at`).
use Rattle.std.proofs.Common.{◌≡◌, ◌≤◌, ◌↔◌, ℕ, zero, suc, List, [], ◌∷◌, false, Option, Some, None, IfSome, option_and_then, refl, ◌∙◌, arith, subst}
use Rattle.operator_terms.specs.Term.{Await, Binary, Borrow, Call, Cast, Field, Index, Last, Method, More, NoTerms, Paren, Prefix, Range, RangeFrom, RangeTo, Term, Terms, Try, is_field, level, tokens}
use Rattle.operator_terms.specs.Reading.{Derives}
use Rattle.operator_terms.specs.Places.{AtLeast, Callee, Demand, Meets, Part, argument, operand, part, part_at, some_part}
use Rattle.operator_terms.specs.Pairs.{change_argument, change_part, without}
use Rattle.operator_terms.proofs.Parts.{PartsFit, ArgumentsFit}
use Rattle.operator_terms.proofs.Deriving.{Derives-parts, Derives_of_parts}
use Rattle.operator_terms.proofs.Fitting.{Good, Good-part}

level-change : (f : Term → Term) (t : Term) (i : ℕ) → level (change_part f t i) ≡ level t
level-change f (Paren e) zero = refl
level-change f (Field e n) zero = refl
level-change f (Await e) zero = refl
level-change f (Try e) zero = refl
level-change f (Cast e n) zero = refl
level-change f (Method e n args) zero = refl
level-change f (Method e n args) (suc i) = refl
level-change f (Call e args) zero = refl
level-change f (Call e args) (suc i) = refl
level-change f (Index e i) zero = refl
level-change f (Index e i) (suc zero) = refl
level-change f (Prefix op e) zero = refl
level-change f (Borrow mutable e) zero = refl
level-change f (Binary op l r) zero = refl
level-change f (Binary op l r) (suc zero) = refl
level-change f (RangeFrom l) zero = refl
level-change f (RangeTo inclusive r) zero = refl
level-change f (Range inclusive l r) zero = refl
level-change f (Range inclusive l r) (suc zero) = refl
level-change f _ _ = refl

is_field-change : (f : Term → Term) (t : Term) (i : ℕ) → is_field (change_part f t i) ≡ is_field t
is_field-change f (Paren e) zero = refl
is_field-change f (Field e n) zero = refl
is_field-change f (Await e) zero = refl
is_field-change f (Try e) zero = refl
is_field-change f (Cast e n) zero = refl
is_field-change f (Method e n args) zero = refl
is_field-change f (Method e n args) (suc i) = refl
is_field-change f (Call e args) zero = refl
is_field-change f (Call e args) (suc i) = refl
is_field-change f (Index e i) zero = refl
is_field-change f (Index e i) (suc zero) = refl
is_field-change f (Prefix op e) zero = refl
is_field-change f (Borrow mutable e) zero = refl
is_field-change f (Binary op l r) zero = refl
is_field-change f (Binary op l r) (suc zero) = refl
is_field-change f (RangeFrom l) zero = refl
is_field-change f (RangeTo inclusive r) zero = refl
is_field-change f (Range inclusive l r) zero = refl
is_field-change f (Range inclusive l r) (suc zero) = refl
is_field-change f _ _ = refl

pub meets-change : (d : Demand) (f : Term → Term) (t : Term) (i : ℕ) → Meets d t → Meets d (change_part f t i)
meets-change (AtLeast k) f t i h = omega (arith, level-change f t i)
meets-change Callee f t i h = (omega (arith, level-change f t i, h.0), is_field-change f t i ∙ h.1)

-- where the other parts fit, the changed part decides
unfoldable pub Decided : (Term → Term) → Type 0 → Part → Type 0
Decided f A p = A ↔ Good (record { demand = p.demand; term = f p.term })

rewritten : (f : Term → Term) (A B : Type 0) → (A → B) → (B → A) → (o : Option Part) → IfSome o (Decided f A) → IfSome o (Decided f B)
unfolding Decided
rewritten f A B to from None h = tt
rewritten f A B to from (Some p) h = (λ b. h.0 (from b), λ g. to (h.1 g))

change-arguments : (f : Term → Term) (es : Terms) (i : ℕ) → ArgumentsFit es → IfSome (argument es i) (Decided f (ArgumentsFit (change_argument f es i)))
unfolding Decided
change-arguments f NoTerms i h = tt
change-arguments f (Last e) zero h = (λ a. (omega arith, a), λ g. g.1)
change-arguments f (Last e) (suc i) h = tt
change-arguments f (More e es) zero h = (λ a. (omega arith, a.0), λ g. (g.1, h.1))
change-arguments f (More e es) (suc i) h = rewritten f (ArgumentsFit (change_argument f es i)) (PartsFit e × ArgumentsFit (change_argument f es i)) (λ a. (h.0, a)) (λ b. b.1) (argument es i) (change-arguments f es i h.1)

pub change-parts : (f : Term → Term) (t : Term) (i : ℕ) → PartsFit t → IfSome (part t i) (Decided f (PartsFit (change_part f t i)))
unfolding Decided
change-parts f (Paren e) zero h = (λ a. (omega arith, a), λ g. g.1)
change-parts f (Field e n) zero h = (λ a. a, λ g. g)
change-parts f (Await e) zero h = (λ a. a, λ g. g)
change-parts f (Try e) zero h = (λ a. a, λ g. g)
change-parts f (Cast e n) zero h = (λ a. a, λ g. g)
change-parts f (Method e n args) zero h = (λ a. (a.0, a.1), λ g. (g.0, g.1, h.2))
change-parts f (Method e n args) (suc i) h = rewritten f (ArgumentsFit (change_argument f args i)) ((13 ≤ level e) × PartsFit e × ArgumentsFit (change_argument f args i)) (λ a. (h.0, h.1, a)) (λ b. b.2) (argument args i) (change-arguments f args i h.2)
change-parts f (Call e args) zero h = (λ a. ((a.0, a.1), a.2), λ g. (g.0.0, g.0.1, g.1, h.3))
change-parts f (Call e args) (suc i) h = rewritten f (ArgumentsFit (change_argument f args i)) ((13 ≤ level e) × (is_field e ≡ false) × PartsFit e × ArgumentsFit (change_argument f args i)) (λ a. (h.0, h.1, h.2, a)) (λ b. b.3) (argument args i) (change-arguments f args i h.3)
change-parts f (Index e i) zero h = (λ a. (a.0, a.1), λ g. (g.0, g.1, h.2))
change-parts f (Index e i) (suc zero) h = (λ a. (omega arith, a.2), λ g. (h.0, h.1, g.1))
change-parts f (Prefix op e) zero h = (λ a. a, λ g. g)
change-parts f (Borrow mutable e) zero h = (λ a. a, λ g. g)
change-parts f (Binary op l r) zero h = (λ a. (a.0, a.2), λ g. (g.0, h.1, g.1, h.3))
change-parts f (Binary op l r) (suc zero) h = (λ a. (a.1, a.3), λ g. (h.0, g.0, h.2, g.1))
change-parts f (RangeFrom l) zero h = (λ a. a, λ g. g)
change-parts f (RangeTo inclusive r) zero h = (λ a. a, λ g. g)
change-parts f (Range inclusive l r) zero h = (λ a. (a.0, a.2), λ g. (g.0, h.1, g.1, h.3))
change-parts f (Range inclusive l r) (suc zero) h = (λ a. (a.1, a.3), λ g. (h.0, g.0, h.2, g.1))
change-parts f _ _ h = tt

-- ---- the pair at a place

-- P of what the pair demands and holds, where the part is a pair
abbrev IfPair : (Demand → Term → Type 0) → Demand → Term → Type 0
IfPair P d (Paren e) = P d e
IfPair P d _ = Unit {0}

AtPair : Option Part → (Demand → Term → Type 0) → Type 0
AtPair o P = IfSome o (λ p. IfPair P p.demand p.term)

IfPair-map : (P Q : Demand → Term → Type 0) → ((d : Demand) (e : Term) → P d e → Q d e) → (d : Demand) (t : Term) → IfPair P d t → IfPair Q d t
IfPair-map P Q f d (Paren e) h = f d e h
IfPair-map P Q f d _ h = tt

AtPair-map : (P Q : Demand → Term → Type 0) → ((d : Demand) (e : Term) → P d e → Q d e) → (o : Option Part) → AtPair o P → AtPair o Q
unfolding AtPair
AtPair-map P Q f None h = tt
AtPair-map P Q f (Some p) h = IfPair-map P Q f p.demand p.term h

-- the term without the pair is good exactly where what the pair holds has what the pair's place
-- demands
Free : List ℕ → Part → Demand → Term → Type 0
Free q p d e = Meets d e ↔ Good (record { demand = p.demand; term = without q p.term })

free_here : (d : Demand) (t : Term) → PartsFit t → AtPair (part_at d t []) (Free [] (record { demand = d; term = t }))
unfolding AtPair Free
free_here d (Paren e) h = (λ m. (m, h), λ g. g.0)
free_here d _ h = tt

free_below : (i : ℕ) (q : List ℕ) (p r : Part) → Good p → Decided (without q) (PartsFit (change_part (without q) p.term i)) r → (d : Demand) (e : Term) → Free q r d e → Free (i ∷ q) p d e
unfolding Free Decided
free_below i q p r good decided d e h =
    (λ m. (meets-change p.demand (without q) p.term i good.0, decided.1 (h.0 m)), λ g. h.1 (decided.0 g.1))

free_next : (i : ℕ) (q : List ℕ) (p : Part) → Good p → ((r : Part) → Good r → AtPair (part_at r.demand r.term q) (Free q r)) → (o : Option Part) → IfSome o Good → IfSome o (Decided (without q) (PartsFit (change_part (without q) p.term i))) → AtPair (option_and_then (λ r. part_at r.demand r.term q) o) (Free (i ∷ q) p)
unfolding AtPair
free_next i q p h each None good decided = tt
free_next i q p h each (Some r) good decided = AtPair-map (Free q r) (Free (i ∷ q) p) (free_below i q p r h decided) (part_at r.demand r.term q) (each r good)

free_at : (q : List ℕ) (p : Part) → Good p → AtPair (part_at p.demand p.term q) (Free q p)
free_at [] p h = free_here p.demand p.term h.1
free_at (i ∷ q) p h = free_next i q p h (free_at q) (part p.term i) (Good-part p.term i h.1) (change-parts (without q) p.term i h.1)

-- In a term that its tokens read as: the term without a pair is read from its tokens exactly where
-- what the pair holds has what the pair's place demands.
pub level_may_go : (t : Term) (q : List ℕ) (d : Demand) (e : Term) → Derives 0 (tokens t) t → operand t q ≡ some_part d (Paren e) → Meets d e ↔ Derives 0 (tokens (without q t)) (without q t)
unfolding AtPair Free
level_may_go t q d e reads at =
    let root : Part = record { demand = AtLeast 0; term = t } in
    let free : Free q root d e = subst (λ o. AtPair o (Free q root)) at (free_at q root (omega arith, Derives-parts t 0 (tokens t) reads)) in (
      (λ m. Derives_of_parts (without q t) 0 (omega arith) (free.0 m).1),
      (λ h. free.1 (omega arith, Derives-parts (without q t) 0 (tokens (without q t)) h)),
    )
