-- The operator theorem over terms: both halves, from the laws on fitting, on pairs and on the test.
-- What is left to do here is to go from "each part of each operand" to "each place", and to carry
-- along the tokens that follow the whole term.
use Rattle.std.proofs.Common.{◌≡◌, ◌↔◌, ℕ, List, [], ◌∷◌, ◌++◌, false, Option, Some, None, IfSome, option_and_then, refl, sym, ap, ◌∙◌, arith, subst, append_assoc, append-nil}
use Rattle.operator_terms.specs.Token.{Token}
use Rattle.operator_terms.specs.Term.{Term, Paren, tokens}
use Rattle.operator_terms.specs.Reading.{Reads, begins_with_angle}
use Rattle.operator_terms.specs.Places.{Demand, AtLeast, Meets, Part, some_part, part, part_at, operand, behind_part, behind_in, tokens_behind, MayStandBefore}
use Rattle.operator_terms.specs.Powers.{needs_pair_at}
use Rattle.operator_terms.specs.Headline.{IsOneReading, AsksNowhere, FindsNeedless}
use Rattle.operator_terms.proofs.Ends.{ClearBefore}
use Rattle.operator_terms.proofs.Readings.{Fine, stands_of_clear, clear-places, clear_of_tokens, reads_exactly, reads-rule, one_reading}
use Rattle.operator_terms.proofs.MayGo.{clear_before, pair_may_go_before}
use Rattle.operator_terms.proofs.Power.{needs_where_unfit}

-- ---- a part of the node or token at a place is at the place one step longer

itself : (o : Option Part) → option_and_then (λ p. some_part p.demand p.term) o ≡ o
itself None = refl
itself (Some p) = refl

part_at-last : (q : List ℕ) (d : Demand) (t : Term) (i : ℕ) → part_at d t (q ++ (i ∷ [])) ≡ option_and_then (λ p. part p.term i) (part_at d t q)
part_at-last [] d t i = itself (part t i)
part_at-last (j ∷ q) d t i = onward (part t j) (λ r. part_at-last q r.demand r.term i)
  where
    onward : (o : Option Part) → ((r : Part) → part_at r.demand r.term (q ++ (i ∷ [])) ≡ option_and_then (λ p. part p.term i) (part_at r.demand r.term q)) → option_and_then (λ p. part_at p.demand p.term (q ++ (i ∷ []))) o ≡ option_and_then (λ p. part p.term i) (option_and_then (λ p. part_at p.demand p.term q) o)
    onward None each = refl
    onward (Some r) each = each r

pub operand-last : (t : Term) (q : List ℕ) (i : ℕ) (holder held : Part) → operand t q ≡ Some holder → part holder.term i ≡ Some held → operand t (q ++ (i ∷ [])) ≡ Some held
operand-last t q i holder held e f = part_at-last q (AtLeast 0) t i ∙ ap (option_and_then (λ p. part p.term i)) e ∙ f

-- and after it are, first, what its holder has after it

behind_of : (f : Term → List Token) (o : Option Part) (r : Part) (ts : List Token) → o ≡ Some r → behind_in f o ts ≡ f r.term ++ ts
behind_of f o r ts e = ap (λ x. behind_in f x ts) e

abbrev BehindLast : List ℕ → ℕ → Term → Part → Type 0
BehindLast q i t holder = tokens_behind (q ++ (i ∷ [])) t ≡ behind_part holder.term i ++ tokens_behind q t

behind_next : (j : ℕ) (q : List ℕ) (t : Term) (i : ℕ) (holder held : Part) → ((r : Part) → part_at r.demand r.term q ≡ Some holder → BehindLast q i r.term holder) → (o : Option Part) → part t j ≡ o → option_and_then (λ p. part_at p.demand p.term q) o ≡ Some holder → BehindLast (j ∷ q) i t holder
behind_next j q t i holder held each None e at = absurd (cc)
behind_next j q t i holder held each (Some r) e at =
    behind_of (tokens_behind (q ++ (i ∷ []))) (part t j) r (behind_part t j) e
    ∙ ap (λ ts. ts ++ behind_part t j) (each r at)
    ∙ append_assoc (behind_part holder.term i) (tokens_behind q r.term) (behind_part t j)
    ∙ ap (λ ts. behind_part holder.term i ++ ts) (sym (behind_of (tokens_behind q) (part t j) r (behind_part t j) e))

behind_at : (q : List ℕ) (d : Demand) (t : Term) (i : ℕ) (holder held : Part) → part_at d t q ≡ Some holder → part holder.term i ≡ Some held → BehindLast q i t holder
behind_at [] d t i holder held at e =
    let same : record { demand = d; term = t } ≡ holder = let found : Some (record { demand = d; term = t }) ≡ Some holder = at in cc in
    let here : part t i ≡ Some held = ap (λ p. part p.term i) same ∙ e in
    behind_of (tokens_behind []) (part t i) held (behind_part t i) here ∙ ap (λ p. behind_part p.term i) same ∙ sym (append-nil (behind_part holder.term i))
behind_at (j ∷ q) d t i holder held at e = behind_next j q t i holder held (λ r f. behind_at q r.demand r.term i holder held f e) (part t j) refl at

pub behind-last : (t : Term) (q : List ℕ) (i : ℕ) (holder held : Part) → operand t q ≡ Some holder → part holder.term i ≡ Some held → tokens_behind (q ++ (i ∷ [])) t ≡ behind_part holder.term i ++ tokens_behind q t
behind-last t q i holder held at e = behind_at q (AtLeast 0) t i holder held at e

-- ---- where every operand fits, the test asks nowhere

fine_at : (behind : List Token) (o : Option Part) → IfSome o (λ p. Meets p.demand p.term) → IfSome o (ClearBefore behind) → IfSome o (Fine behind)
fine_at behind None met clear = tt
fine_at behind (Some p) met clear = (met, stands_of_clear behind p.term clear)

met_of_fine : (behind : List Token) (o : Option Part) → IfSome o (Fine behind) → IfSome o (λ p. Meets p.demand p.term)
met_of_fine behind None h = tt
met_of_fine behind (Some p) h = h.0

asks_nowhere : (following : List Token) (t : Term) → MayStandBefore following t → Reads 0 (tokens t) t → AsksNowhere following t
asks_nowhere following t stands h q i holder held e f =
    let place = q ++ (i ∷ []) in
    let behind = tokens_behind place t ++ following in
    let clear = clear_before following t stands (clear_of_tokens t (reads-rule 0 (tokens t) t h)) in
    let all_fine : IfSome (operand t place) (Fine behind) =
    fine_at behind (operand t place) (met_of_fine (tokens_behind place t) (operand t place) ((reads_exactly t).0 h place)) (clear-places place (AtLeast 0) t following clear) in
    let fine : Fine behind held = subst (λ o. IfSome o (Fine behind)) (operand-last t q i holder held e f) all_fine in
    (needs_where_unfit holder.term i held.demand held.term held.term (begins_with_angle behind) f).1 fine

-- ---- where the test asks nowhere, every operand fits

abbrev Asks : List Token → Demand → Term → Type 0
Asks rest d t = (q : List ℕ) (i : ℕ) (holder held : Part) → part_at d t q ≡ Some holder → part holder.term i ≡ Some held → needs_pair_at holder.term i (begins_with_angle (tokens_behind (q ++ (i ∷ [])) t ++ rest)) held.term ≡ false

behind_known : (f : Term → List Token) (o : Option Part) (r : Part) (ts rest : List Token) → o ≡ Some r → behind_in f o ts ++ rest ≡ f r.term ++ (ts ++ rest)
behind_known f o r ts rest e = ap (λ x. behind_in f x ts ++ rest) e ∙ append_assoc (f r.term) ts rest

fine_next : (i : ℕ) (q : List ℕ) (d : Demand) (t : Term) (rest : List Token) → Asks rest d t → ((d : Demand) (t : Term) (rest : List Token) → Fine rest (record { demand = d; term = t }) → Asks rest d t → IfSome (part_at d t q) (Fine (tokens_behind q t ++ rest))) → (o : Option Part) → part t i ≡ o → IfSome (option_and_then (λ p. part_at p.demand p.term q) o) (Fine (behind_in (tokens_behind q) o (behind_part t i) ++ rest))
fine_next i q d t rest asks each None e = tt
fine_next i q d t rest asks each (Some r) e =
    let here : needs_pair_at t i (begins_with_angle (behind_part t i ++ rest)) r.term ≡ false =
    subst (λ xs. needs_pair_at t i (begins_with_angle xs) r.term ≡ false) (behind_known (tokens_behind []) (part t i) r (behind_part t i) rest e) (asks [] i (record { demand = d; term = t }) r refl e) in
    rw append_assoc
    (each r.demand r.term (behind_part t i ++ rest) ((needs_where_unfit t i r.demand r.term r.term (begins_with_angle (behind_part t i ++ rest)) e).0 here)
    (λ p j holder held f g.
    subst (λ xs. needs_pair_at holder.term j (begins_with_angle xs) held.term ≡ false) (behind_known (tokens_behind (p ++ (j ∷ []))) (part t i) r (behind_part t i) rest e)
    (asks (i ∷ p) j holder held (ap (option_and_then (λ s. part_at s.demand s.term p)) e ∙ f) g)))

fine_all : (q : List ℕ) (d : Demand) (t : Term) (rest : List Token) → Fine rest (record { demand = d; term = t }) → Asks rest d t → IfSome (part_at d t q) (Fine (tokens_behind q t ++ rest))
fine_all [] d t rest h asks = h
fine_all (i ∷ q) d t rest h asks = fine_next i q d t rest asks (fine_all q) (part t i) refl

-- what follows the whole term may be left out again

none_before : (xs ys : List Token) → begins_with_angle (xs ++ ys) ≡ false → begins_with_angle xs ≡ false
none_before [] ys h = refl
none_before (x ∷ xs) ys h = h

fine_within : (behind following : List Token) (o : Option Part) → IfSome o (Fine (behind ++ following)) → IfSome o (Fine behind)
fine_within behind following None h = tt
fine_within behind following (Some p) h = (h.0, λ ends. none_before behind following (h.1 ends))

reads_where_none_asked : (following : List Token) (t : Term) → MayStandBefore following t → AsksNowhere following t → Reads 0 (tokens t) t
reads_where_none_asked following t stands asks =
    (reads_exactly t).1 (λ q. fine_within (tokens_behind q t) following (operand t q) (fine_all q (AtLeast 0) t following (omega arith, stands) asks))

-- ---- both halves

pub one_reading_where_none_asked : (following : List Token) (t : Term) → MayStandBefore following t → IsOneReading t ↔ AsksNowhere following t
one_reading_where_none_asked following t stands = (
  (λ h. asks_nowhere following t stands h.0),
  (λ asks. let reads = reads_where_none_asked following t stands asks in (reads, λ u h. one_reading 0 0 (tokens t) u t h reads)),
)

pub needless_found : (following : List Token) (t : Term) → MayStandBefore following t → IsOneReading t → FindsNeedless following t
needless_found following t stands h q i holder d e at below stands_without =
    let place = q ++ (i ∷ []) in
    let powers = needs_where_unfit holder.term i d (Paren e) e (begins_with_angle (tokens_behind place t ++ following)) below in
    let gone = pair_may_go_before following t place d e h.0 (operand-last t q i holder (record { demand = d; term = Paren e }) at below) stands stands_without in
    ((λ x. gone.0 (powers.0 x)), (λ y. powers.1 (gone.1 y)))
