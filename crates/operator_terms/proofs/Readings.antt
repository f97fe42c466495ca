-- Readings: derivations with the rule on casts. Every operand fits, by places, exactly where the
-- tokens read as the term. The rule goes from the term to its places (`clear-places`) and back
-- (`clear_of_places`) just as levels do in `Fitting`.
use Rattle.std.proofs.Common.{◌≡◌, ◌≤◌, ◌↔◌, ℕ, suc, List, [], ◌∷◌, ◌++◌, true, false, Option, Some, None, IfSome, option_and_then, refl, sym, ◌∙◌, subst, append_assoc, append-nil, arith}
use Rattle.syntax_kind.specs.declared.syntax_kind.token_kind.TokenKind.TheVariants as token
use Rattle.operator_terms.specs.Token.{Token, fixed}
use Rattle.operator_terms.specs.Operators.{left_demand, right_demand}
use Rattle.operator_terms.specs.Term.{Await, Binary, Borrow, Call, Cast, Field, Index, Last, Literal, Method, More, Name, NoTerms, Paren, Prefix, Range, RangeFrom, RangeFull, RangeTo, Term, Terms, Try, level, tokens}
use Rattle.operator_terms.specs.Reading.{Derives, Reads, begins_with_angle, no_cast_before_angle}
use Rattle.operator_terms.specs.Places.{AtLeast, Callee, Demand, Fits, Meets, Part, argument, behind_argument, behind_in, behind_part, MayStandBefore, operand, part, part_at, tokens_behind}
use Rattle.operator_terms.proofs.Clear.{cast_at_end, Clear, AllClear, facts_of_rule, rule_of_facts, rule-term}
use Rattle.operator_terms.proofs.Ends.{ends-tokens, clear_end, ClearBefore, part-clear}
use Rattle.operator_terms.proofs.Fitting.{derives_exactly}
use Rattle.operator_terms.proofs.Deriving.{Derives-tokens, Derives-level, Derives-parts, Derives_of_parts, one_derivation}

clear-next : (q : List ℕ) (o : Option Part) (ts rest : List Token) → ((d : Demand) (e : Term) (rest : List Token) → Clear (begins_with_angle rest) e → IfSome (part_at d e q) (ClearBefore (tokens_behind q e ++ rest))) → IfSome o (ClearBefore (ts ++ rest)) → IfSome (option_and_then (λ p. part_at p.demand p.term q) o) (ClearBefore (behind_in (tokens_behind q) o ts ++ rest))
clear-next q None ts rest each h = tt
clear-next q (Some p) ts rest each h = rw append_assoc (each p.demand p.term (ts ++ rest) h)

pub clear-places : (q : List ℕ) (d : Demand) (t : Term) (rest : List Token) → Clear (begins_with_angle rest) t → IfSome (part_at d t q) (ClearBefore (tokens_behind q t ++ rest))
clear-places [] d t rest h = h
clear-places (i ∷ q) d t rest h = clear-next q (part t i) (behind_part t i) rest (clear-places q) (part-clear t i rest h)

-- ---- the other way

abbrev Safe : List Token → Part → Type 0
Safe rest p = cast_at_end p.term ≡ true → begins_with_angle rest ≡ false

abbrev SafeAtPlaces : Demand → Term → List Token → Type 0
SafeAtPlaces d t rest = (q : List ℕ) → IfSome (part_at d t q) (Safe (tokens_behind q t ++ rest))

down : (d : Demand) (e : Term) (ts rest : List Token) → ((q : List ℕ) → IfSome (part_at d e q) (Safe ((tokens_behind q e ++ ts) ++ rest))) → SafeAtPlaces d e (ts ++ rest)
down d e ts rest h q = subst (λ xs. IfSome (part_at d e q) (Safe xs)) (append_assoc (tokens_behind q e) ts rest) (h q)

closing : (q : List ℕ) (o : Option Part) (ts rest : List Token) → IfSome (option_and_then (λ p. part_at p.demand p.term q) o) (Safe (behind_in (tokens_behind q) o (ts ++ (fixed token.R_PAREN ∷ [])) ++ rest)) → IfSome (option_and_then (λ p. part_at p.demand p.term q) o) (Safe (behind_in (tokens_behind q) o ts ++ (fixed token.R_PAREN ∷ rest)))
closing q None ts rest h = tt
closing q (Some p) ts rest h =
    let same : (tokens_behind q p.term ++ (ts ++ (fixed token.R_PAREN ∷ []))) ++ rest ≡ (tokens_behind q p.term ++ ts) ++ (fixed token.R_PAREN ∷ rest) = simp append_assoc in
    subst (λ xs. IfSome (part_at p.demand p.term q) (Safe xs)) same h

mutual
  clear_of_places : (t : Term) (d : Demand) (rest : List Token) → SafeAtPlaces d t rest → Clear (begins_with_angle rest) t
  clear_of_places (Literal kind text) d rest h = tt
  clear_of_places (Name text) d rest h = tt
  clear_of_places (Paren e) d rest h = clear_of_places e (AtLeast 0) _ (down (AtLeast 0) e (behind_part (Paren e) 0) rest (λ q. h (0 ∷ q)))
  clear_of_places (Field e n) d rest h = clear_of_places e (AtLeast 13) _ (down (AtLeast 13) e (behind_part (Field e n) 0) rest (λ q. h (0 ∷ q)))
  clear_of_places (Await e) d rest h = clear_of_places e (AtLeast 13) _ (down (AtLeast 13) e (behind_part (Await e) 0) rest (λ q. h (0 ∷ q)))
  clear_of_places (Try e) d rest h = clear_of_places e (AtLeast 13) _ (down (AtLeast 13) e (behind_part (Try e) 0) rest (λ q. h (0 ∷ q)))
  clear_of_places (Cast e n) d rest h = (h [] refl, clear_of_places e (AtLeast 11) _ (down (AtLeast 11) e (behind_part (Cast e n) 0) rest (λ q. h (0 ∷ q))))
  clear_of_places (Method e n args) d rest h = (
    clear_of_places e (AtLeast 13) _ (down (AtLeast 13) e (behind_part (Method e n args) 0) rest (λ q. h (0 ∷ q))),
    all_clear_of_places args (fixed token.R_PAREN ∷ rest) refl (λ i q. closing q (argument args i) (behind_argument args i) rest (h (suc i ∷ q))),
  )
  clear_of_places (Call e args) d rest h = (
    clear_of_places e Callee _ (down Callee e (behind_part (Call e args) 0) rest (λ q. h (0 ∷ q))),
    all_clear_of_places args (fixed token.R_PAREN ∷ rest) refl (λ i q. closing q (argument args i) (behind_argument args i) rest (h (suc i ∷ q))),
  )
  clear_of_places (Index e i) d rest h = (
    clear_of_places e (AtLeast 13) _ (down (AtLeast 13) e (behind_part (Index e i) 0) rest (λ q. h (0 ∷ q))),
    clear_of_places i (AtLeast 0) _ (down (AtLeast 0) i (behind_part (Index e i) 1) rest (λ q. h (1 ∷ q))),
  )
  clear_of_places (Prefix op e) d rest h = clear_of_places e (AtLeast 12) rest (down (AtLeast 12) e [] rest (λ q. h (0 ∷ q)))
  clear_of_places (Borrow mutable e) d rest h = clear_of_places e (AtLeast 12) rest (down (AtLeast 12) e [] rest (λ q. h (0 ∷ q)))
  clear_of_places (Binary op l r) d rest h = (
    clear_of_places l (AtLeast (left_demand op)) _ (down (AtLeast (left_demand op)) l (behind_part (Binary op l r) 0) rest (λ q. h (0 ∷ q))),
    clear_of_places r (AtLeast (right_demand op)) rest (down (AtLeast (right_demand op)) r [] rest (λ q. h (1 ∷ q))),
  )
  clear_of_places RangeFull d rest h = tt
  clear_of_places (RangeFrom l) d rest h = clear_of_places l (AtLeast 2) _ (down (AtLeast 2) l (behind_part (RangeFrom l) 0) rest (λ q. h (0 ∷ q)))
  clear_of_places (RangeTo inclusive r) d rest h = clear_of_places r (AtLeast 2) rest (down (AtLeast 2) r [] rest (λ q. h (0 ∷ q)))
  clear_of_places (Range true l r) d rest h = (
    clear_of_places l (AtLeast 2) _ (down (AtLeast 2) l (behind_part (Range true l r) 0) rest (λ q. h (0 ∷ q))),
    clear_of_places r (AtLeast 2) rest (down (AtLeast 2) r [] rest (λ q. h (1 ∷ q))),
  )
  clear_of_places (Range false l r) d rest h = (
    clear_of_places l (AtLeast 2) _ (down (AtLeast 2) l (behind_part (Range false l r) 0) rest (λ q. h (0 ∷ q))),
    clear_of_places r (AtLeast 2) rest (down (AtLeast 2) r [] rest (λ q. h (1 ∷ q))),
  )

  all_clear_of_places : (es : Terms) (rest : List Token) → begins_with_angle rest ≡ false → ((i : ℕ) (q : List ℕ) → IfSome (option_and_then (λ p. part_at p.demand p.term q) (argument es i)) (Safe (behind_in (tokens_behind q) (argument es i) (behind_argument es i) ++ rest))) → AllClear es
  all_clear_of_places NoTerms rest none h = tt
  all_clear_of_places (Last e) rest none h = subst (λ b. Clear b e) none (clear_of_places e (AtLeast 0) rest (down (AtLeast 0) e [] rest (λ q. h 0 q)))
  all_clear_of_places (More e es) rest none h = (
    clear_of_places e (AtLeast 0) _ (down (AtLeast 0) e (behind_argument (More e es) 0) rest (λ q. h 0 q)),
    all_clear_of_places es rest none (λ i q. h (suc i) q),
  )

-- ---- readings with the rule

pub clear_of_tokens : (t : Term) → no_cast_before_angle (tokens t) ≡ true → Clear false t
clear_of_tokens t h = ((rule-term t []).0 (rw append-nil (facts_of_rule (tokens t) h))).0

pub tokens_of_clear : (t : Term) → Clear false t → no_cast_before_angle (tokens t) ≡ true
tokens_of_clear t h = rule_of_facts (tokens t) (rw append-nil at ((rule-term t []).1 (h, tt)))

-- the part meets its demand and may precede these tokens
abbrev pub Fine : List Token → Part → Type 0
Fine behind p = Meets p.demand p.term × MayStandBefore behind p.term

pub stands_of_clear : (behind : List Token) (t : Term) → Clear (begins_with_angle behind) t → MayStandBefore behind t
stands_of_clear behind t clear ends = clear_end t (begins_with_angle behind) clear (sym (ends-tokens t) ∙ ends)

fits_both : (rest : List Token) (o : Option Part) → IfSome o (λ p. Meets p.demand p.term) → IfSome o (ClearBefore (rest ++ [])) → IfSome o (Fine rest)
fits_both rest None h k = tt
fits_both rest (Some p) h k = (h, λ e. let safe : begins_with_angle (rest ++ []) ≡ false = stands_of_clear (rest ++ []) p.term k e in rw append-nil at safe)

fits_first : (rest : List Token) (o : Option Part) → IfSome o (Fine rest) → IfSome o (λ p. Meets p.demand p.term)
fits_first rest None h = tt
fits_first rest (Some p) h = h.0

fits_second : (rest : List Token) (o : Option Part) → IfSome o (Fine rest) → IfSome o (Safe (rest ++ []))
fits_second rest None h = tt
fits_second rest (Some p) h = λ e. rw append-nil (h.1 (ends-tokens p.term ∙ e))

pub reads_exactly : (t : Term) → Reads 0 (tokens t) t ↔ ((q : List ℕ) → Fits t q)
unfolding Reads
reads_exactly t = (
  (λ h q. fits_both (tokens_behind q t) (operand t q) ((derives_exactly t).0 h.0 q) (clear-places q (AtLeast 0) t [] (clear_of_tokens t h.1))),
  (λ h. (
    (derives_exactly t).1 (λ q. fits_first (tokens_behind q t) (operand t q) (h q)),
    tokens_of_clear t (clear_of_places t (AtLeast 0) [] (λ q. fits_second (tokens_behind q t) (operand t q) (h q))),
  )),
)

-- what is read are the term's tokens
pub reads_its_tokens : (k : ℕ) (ts : List Token) (t : Term) → Reads k ts t → ts ≡ tokens t
unfolding Reads
reads_its_tokens k ts t h = Derives-tokens t k ts h.0

-- two readings of the same tokens are one, at whatever levels
pub one_reading : (j k : ℕ) (ts : List Token) (t u : Term) → Reads j ts t → Reads k ts u → t ≡ u
unfolding Reads
one_reading j k ts t u h i = one_derivation j k ts t u h.0 i.0

-- the two halves of a reading
pub reads-derives : (k : ℕ) (ts : List Token) (t : Term) → Reads k ts t → Derives k ts t
unfolding Reads
reads-derives k ts t h = h.0

pub reads-rule : (k : ℕ) (ts : List Token) (t : Term) → Reads k ts t → no_cast_before_angle ts ≡ true
unfolding Reads
reads-rule k ts t h = h.1

pub reads_of_both : (k : ℕ) (ts : List Token) (t : Term) → Derives k ts t → no_cast_before_angle ts ≡ true → Reads k ts t
unfolding Reads
reads_of_both k ts t h rule = (h, rule)

-- ---- a field that is called

pub called-field-tokens : (e : Term) (n : List ℕ) (args : Terms) → tokens (Call (Field e n) args) ≡ tokens (Method e n args)
unfolding tokens
called-field-tokens e n args = simp append_assoc

pub called-field-unread : (e : Term) (n : List ℕ) (args : Terms) (k : ℕ) (ts : List Token) → Reads k ts (Call (Field e n) args) → ⊥
called-field-unread e n args k ts h = let parts = Derives-parts (Call (Field e n) args) k ts (reads-derives k ts (Call (Field e n) args) h) in let no : true ≡ false = parts.1 in absurd (cc)

-- ---- at a level

pub reads_at_level : (k : ℕ) (t : Term) → Reads k (tokens t) t ↔ ((k ≤ level t) × ((q : List ℕ) → Fits t q))
reads_at_level k t = (
  (λ h.
      let derives = reads-derives k (tokens t) t h in
      let rule = reads-rule k (tokens t) t h in
      let reads = reads_of_both 0 (tokens t) t (Derives_of_parts t 0 (omega arith) (Derives-parts t k (tokens t) derives)) rule in
      (Derives-level t k (tokens t) derives, (reads_exactly t).0 reads)),
  (λ h.
      let reads = (reads_exactly t).1 h.1 in
      let parts = Derives-parts t 0 (tokens t) (reads-derives 0 (tokens t) t reads) in
      reads_of_both k (tokens t) t (Derives_of_parts t k h.0 parts) (reads-rule 0 (tokens t) t reads)),
)
