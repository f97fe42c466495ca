-- The term with a pair round each operand that doesn't fit. It reads: by the flag that
-- `paired_before` hands down, each operand fits or is in a pair, which fits everywhere (levels in
-- `paired-parts`, casts in `paired-clear`). Where all fit, nothing is put in (`kept`). And part by
-- part, a pair is where the operand doesn't fit and nowhere else (`paired_by_parts`).
use Rattle.std.proofs.Common.{◌≡◌, ◌≤◌, ◌↔◌, ℕ, zero, suc, List, [], ◌∷◌, ◌++◌, Bool, true, false, not, ◌&&◌, leb, Option, IfSome, refl, sym, ap, ap₂, subst, ◌∙◌, arith, leb-true}
use Rattle.syntax_kind.specs.declared.syntax_kind.token_kind.TokenKind.TheVariants as token
use Rattle.operator_terms.specs.Token.{Token, fixed}
use Rattle.operator_terms.specs.Operators.{left_demand, right_demand}
use Rattle.operator_terms.specs.Term.{Await, Binary, Borrow, Call, Cast, Field, Index, Last, Literal, Method, More, Name, NoTerms, Paren, Prefix, Range, RangeFrom, RangeFull, RangeTo, Term, Terms, Try, is_field, level, tokens}
use Rattle.operator_terms.specs.Reading.{Reads, begins_with_angle}
use Rattle.operator_terms.specs.Places.{Demand, AtLeast, Callee, Meets, meets, Part, some_part, argument, part, behind_argument, behind_part, ends_in_cast}
use Rattle.operator_terms.specs.Pairs.{all_paired, fits_before, is_angle_operator, pair_unless, paired, paired_before}
use Rattle.operator_terms.proofs.Bools.{both-true, true-both, nand-known, and-of}
use Rattle.operator_terms.proofs.Demands.{meets-true, true-meets}
use Rattle.operator_terms.proofs.Parts.{PartsFit, ArgumentsFit, numbers}
use Rattle.operator_terms.proofs.Deriving.{Derives-parts, Derives_of_parts}
use Rattle.operator_terms.proofs.Clear.{cast_at_end, Clear, AllClear}
use Rattle.operator_terms.proofs.Ends.{ends-tokens, clear_end, clear_raise, clear_lower}
use Rattle.operator_terms.proofs.Readings.{clear_of_tokens, tokens_of_clear, reads-derives, reads-rule, reads_of_both}

level-paired : (next : Bool) (t : Term) → level (paired_before next t) ≡ level t
level-paired next (Paren e) = refl
level-paired next _ = refl

is_field-paired : (next : Bool) (t : Term) → is_field (paired_before next t) ≡ is_field t
is_field-paired next (Paren e) = refl
is_field-paired next _ = refl

by_test : (P : Term → Type 0) (b : Bool) (x : Term) → (b ≡ true → P x) → P (Paren x) → P (pair_unless b x)
by_test P true x h k = h refl
by_test P false x h k = k

high_enough : (k : ℕ) (next : Bool) (e : Term) → k ≤ 14 → k ≤ level (pair_unless (fits_before (AtLeast k) next e) (paired_before next e))
high_enough k next e small =
    by_test (λ x. k ≤ level x) (fits_before (AtLeast k) next e) (paired_before next e)
    (λ it. let fits : k ≤ level e = leb-true k (level e) (both-true (leb k (level e)) (not (ends_in_cast (tokens e) && next)) it).0 in omega (arith, level-paired next e)) small

still : (b : Bool) (e : Term) → PartsFit e → PartsFit (pair_unless b e)
still b e h = by_test PartsFit b e (λ it. h) h

callee_high : (e : Term) → (13 ≤ level (pair_unless (fits_before Callee false e) (paired_before false e))) × (is_field (pair_unless (fits_before Callee false e) (paired_before false e)) ≡ false)
callee_high e =
    by_test (λ x. (13 ≤ level x) × (is_field x ≡ false)) (fits_before Callee false e) (paired_before false e)
    (λ it.
    let met = true-meets Callee e (both-true (meets Callee e) (not (ends_in_cast (tokens e) && false)) it).0 in
    let high : 13 ≤ level e = met.0 in
    (omega (arith, level-paired false e), is_field-paired false e ∙ met.1))
    (omega arith, refl)

mutual
  paired-parts : (t : Term) (next : Bool) → PartsFit (paired_before next t)
  paired-parts (Literal kind text) next = tt
  paired-parts (Name text) next = tt
  paired-parts (Paren e) next = paired-parts e false
  paired-parts (Field e n) next = (high_enough 13 false e (omega arith), still (fits_before (AtLeast 13) false e) (paired_before false e) (paired-parts e false))
  paired-parts (Await e) next = (high_enough 13 false e (omega arith), still (fits_before (AtLeast 13) false e) (paired_before false e) (paired-parts e false))
  paired-parts (Try e) next = (high_enough 13 false e (omega arith), still (fits_before (AtLeast 13) false e) (paired_before false e) (paired-parts e false))
  paired-parts (Cast e n) next = (high_enough 11 false e (omega arith), still (fits_before (AtLeast 11) false e) (paired_before false e) (paired-parts e false))
  paired-parts (Method e n args) next = (high_enough 13 false e (omega arith), still (fits_before (AtLeast 13) false e) (paired_before false e) (paired-parts e false), paired-arguments args)
  paired-parts (Call e args) next = let callee = callee_high e in (callee.0, callee.1, still (fits_before Callee false e) (paired_before false e) (paired-parts e false), paired-arguments args)
  paired-parts (Index e i) next = (high_enough 13 false e (omega arith), still (fits_before (AtLeast 13) false e) (paired_before false e) (paired-parts e false), paired-parts i false)
  paired-parts (Prefix op e) next = (high_enough 12 next e (omega arith), still (fits_before (AtLeast 12) next e) (paired_before next e) (paired-parts e next))
  paired-parts (Borrow mutable e) next = (high_enough 12 next e (omega arith), still (fits_before (AtLeast 12) next e) (paired_before next e) (paired-parts e next))
  paired-parts (Binary op l r) next =
      let about = numbers op in
      let angle = is_angle_operator op in (
        high_enough (left_demand op) angle l (omega arith),
        high_enough (right_demand op) next r (omega arith),
        still (fits_before (AtLeast (left_demand op)) angle l) (paired_before angle l) (paired-parts l angle),
        still (fits_before (AtLeast (right_demand op)) next r) (paired_before next r) (paired-parts r next),
      )
  paired-parts RangeFull next = tt
  paired-parts (RangeFrom l) next = (high_enough 2 false l (omega arith), still (fits_before (AtLeast 2) false l) (paired_before false l) (paired-parts l false))
  paired-parts (RangeTo inclusive r) next = (high_enough 2 next r (omega arith), still (fits_before (AtLeast 2) next r) (paired_before next r) (paired-parts r next))
  paired-parts (Range inclusive l r) next = (
    high_enough 2 false l (omega arith),
    high_enough 2 next r (omega arith),
    still (fits_before (AtLeast 2) false l) (paired_before false l) (paired-parts l false),
    still (fits_before (AtLeast 2) next r) (paired_before next r) (paired-parts r next),
  )

  paired-arguments : (es : Terms) → ArgumentsFit (all_paired es)
  paired-arguments NoTerms = tt
  paired-arguments (Last e) = paired-parts e false
  paired-arguments (More e es) = (paired-parts e false, paired-arguments es)

-- ---- the rule on `<`

ends_inside : (b : Bool) (x : Term) → cast_at_end (pair_unless b x) ≡ true → cast_at_end x ≡ true
ends_inside true x h = h
ends_inside false x h = absurd (cc)

ends_back : (t : Term) (next : Bool) → cast_at_end (paired_before next t) ≡ true → cast_at_end t ≡ true
ends_back (Cast e n) next h = refl
ends_back (Prefix op e) next h = ends_back e next (ends_inside (fits_before (AtLeast 12) next e) (paired_before next e) h)
ends_back (Borrow mutable e) next h = ends_back e next (ends_inside (fits_before (AtLeast 12) next e) (paired_before next e) h)
ends_back (Binary op l r) next h = ends_back r next (ends_inside (fits_before (AtLeast (right_demand op)) next r) (paired_before next r) h)
ends_back (RangeTo inclusive r) next h = ends_back r next (ends_inside (fits_before (AtLeast 2) next r) (paired_before next r) h)
ends_back (Range inclusive l r) next h = ends_back r next (ends_inside (fits_before (AtLeast 2) next r) (paired_before next r) h)
ends_back _ next h = absurd (cc)

-- an operand, with a pair or without, is clear in its place
clear_operand : (k : ℕ) (next : Bool) (e : Term) → Clear false (paired_before next e) → Clear next (pair_unless (fits_before (AtLeast k) next e) (paired_before next e))
clear_operand k next e h =
    by_test (Clear next) (fits_before (AtLeast k) next e) (paired_before next e)
    (λ it. clear_raise (paired_before next e) next h
    (λ ends. nand-known (ends_in_cast (tokens e)) next (both-true (leb k (level e)) (not (ends_in_cast (tokens e) && next)) it).1 (ends-tokens e ∙ ends_back e next ends)))
    h

lowered : (k : ℕ) (next : Bool) (e : Term) → Clear false (paired_before next e) → Clear false (pair_unless (fits_before (AtLeast k) next e) (paired_before next e))
lowered k next e h = clear_lower (pair_unless (fits_before (AtLeast k) next e) (paired_before next e)) next (clear_operand k next e h)

mutual
  paired-clear : (t : Term) (next : Bool) → Clear false (paired_before next t)
  paired-clear (Literal kind text) next = tt
  paired-clear (Name text) next = tt
  paired-clear (Paren e) next = paired-clear e false
  paired-clear (Field e n) next = clear_operand 13 false e (paired-clear e false)
  paired-clear (Await e) next = clear_operand 13 false e (paired-clear e false)
  paired-clear (Try e) next = clear_operand 13 false e (paired-clear e false)
  paired-clear (Cast e n) next = (refl, clear_operand 11 false e (paired-clear e false))
  paired-clear (Method e n args) next = (clear_operand 13 false e (paired-clear e false), paired-all_clear args)
  paired-clear (Call e args) next =
      let h : Clear false (paired_before false e) = paired-clear e false in
      (by_test (Clear false) (fits_before Callee false e) (paired_before false e) (λ it. h) h, paired-all_clear args)
  paired-clear (Index e i) next = (clear_operand 13 false e (paired-clear e false), paired-clear i false)
  paired-clear (Prefix op e) next = lowered 12 next e (paired-clear e next)
  paired-clear (Borrow mutable e) next = lowered 12 next e (paired-clear e next)
  paired-clear (Binary op l r) next =
      let angle = is_angle_operator op in
      (clear_operand (left_demand op) angle l (paired-clear l angle), lowered (right_demand op) next r (paired-clear r next))
  paired-clear RangeFull next = tt
  paired-clear (RangeFrom l) next = clear_operand 2 false l (paired-clear l false)
  paired-clear (RangeTo inclusive r) next = lowered 2 next r (paired-clear r next)
  paired-clear (Range inclusive l r) next = (clear_operand 2 false l (paired-clear l false), lowered 2 next r (paired-clear r next))

  paired-all_clear : (es : Terms) → AllClear (all_paired es)
  paired-all_clear NoTerms = tt
  paired-all_clear (Last e) = paired-clear e false
  paired-all_clear (More e es) = (paired-clear e false, paired-all_clear es)

pub paired_reads : (t : Term) → Reads 0 (tokens (paired t)) (paired t)
paired_reads t =
    reads_of_both 0 (tokens (paired t)) (paired t) (Derives_of_parts (paired t) 0 (omega arith) (paired-parts t false))
    (tokens_of_clear (paired t) (paired-clear t false))

-- ---- where every operand fits, nothing is put in

fits_true : (d : Demand) (angle : Bool) (e : Term) → Meets d e → Clear angle e → fits_before d angle e ≡ true
fits_true d angle e met clear =
    true-both (meets d e) (not (ends_in_cast (tokens e) && angle)) (meets-true d e met)
    (ap not (and-of (ends_in_cast (tokens e)) angle (λ ends. clear_end e angle clear (sym (ends-tokens e) ∙ ends))))

held : (d : Demand) (angle : Bool) (e : Term) → Meets d e → Clear angle e → paired_before angle e ≡ e → pair_unless (fits_before d angle e) (paired_before angle e) ≡ e
held d angle e met clear same = ap (λ b. pair_unless b (paired_before angle e)) (fits_true d angle e met clear) ∙ same

mutual
  kept : (t : Term) (angle : Bool) → PartsFit t → Clear angle t → paired_before angle t ≡ t
  kept (Literal kind text) angle parts clear = refl
  kept (Name text) angle parts clear = refl
  kept (Paren e) angle parts clear = ap Paren (kept e false parts clear)
  kept (Field e n) angle parts clear = ap (λ x. Field x n) (held (AtLeast 13) false e parts.0 clear (kept e false parts.1 clear))
  kept (Await e) angle parts clear = ap Await (held (AtLeast 13) false e parts.0 clear (kept e false parts.1 clear))
  kept (Try e) angle parts clear = ap Try (held (AtLeast 13) false e parts.0 clear (kept e false parts.1 clear))
  kept (Cast e n) angle parts clear = ap (λ x. Cast x n) (held (AtLeast 11) false e parts.0 clear.1 (kept e false parts.1 clear.1))
  kept (Method e n args) angle parts clear =
      ap₂ (λ x xs. Method x n xs) (held (AtLeast 13) false e parts.0 clear.0 (kept e false parts.1 clear.0)) (all_kept args parts.2 clear.1)
  kept (Call e args) angle parts clear = ap₂ Call (held Callee false e (parts.0, parts.1) clear.0 (kept e false parts.2 clear.0)) (all_kept args parts.3 clear.1)
  kept (Index e i) angle parts clear = ap₂ Index (held (AtLeast 13) false e parts.0 clear.0 (kept e false parts.1 clear.0)) (kept i false parts.2 clear.1)
  kept (Prefix op e) angle parts clear = ap (Prefix op) (held (AtLeast 12) angle e parts.0 clear (kept e angle parts.1 clear))
  kept (Borrow mutable e) angle parts clear = ap (Borrow mutable) (held (AtLeast 12) angle e parts.0 clear (kept e angle parts.1 clear))
  kept (Binary op l r) angle parts clear =
      ap₂ (Binary op)
      (held (AtLeast (left_demand op)) (is_angle_operator op) l parts.0 clear.0 (kept l (is_angle_operator op) parts.2 clear.0))
      (held (AtLeast (right_demand op)) angle r parts.1 clear.1 (kept r angle parts.3 clear.1))
  kept RangeFull angle parts clear = refl
  kept (RangeFrom l) angle parts clear = ap RangeFrom (held (AtLeast 2) false l parts.0 clear (kept l false parts.1 clear))
  kept (RangeTo inclusive r) angle parts clear = ap (RangeTo inclusive) (held (AtLeast 2) angle r parts.0 clear (kept r angle parts.1 clear))
  kept (Range inclusive l r) angle parts clear =
      ap₂ (Range inclusive) (held (AtLeast 2) false l parts.0 clear.0 (kept l false parts.2 clear.0))
      (held (AtLeast 2) angle r parts.1 clear.1 (kept r angle parts.3 clear.1))

  all_kept : (es : Terms) → ArgumentsFit es → AllClear es → all_paired es ≡ es
  all_kept NoTerms parts clear = refl
  all_kept (Last e) parts clear = ap Last (kept e false parts clear)
  all_kept (More e es) parts clear = ap₂ More (kept e false parts.0 clear.0) (all_kept es parts.1 clear.1)

-- a term stays as it is exactly where its tokens read as it
pub paired_keeps : (t : Term) → paired t ≡ t ↔ Reads 0 (tokens t) t
paired_keeps t = (
  (λ same. subst (λ u. Reads 0 (tokens u) u) same (paired_reads t)),
  (λ reads. kept t false (Derives-parts t 0 (tokens t) (reads-derives 0 (tokens t) t reads)) (clear_of_tokens t (reads-rule 0 (tokens t) t reads))),
)

-- ---- part by part: a pair is round a part exactly where the test for its place says so

pub fits_before-fits : (d : Demand) (angle : Bool) (e : Term) → fits_before d angle e ≡ true ↔ (Meets d e × (ends_in_cast (tokens e) ≡ true → angle ≡ false))
fits_before-fits d angle e = (
  (λ h. let both = both-true (meets d e) (not (ends_in_cast (tokens e) && angle)) h in (true-meets d e both.0, λ ends. nand-known (ends_in_cast (tokens e)) angle both.1 ends)),
  (λ h. true-both (meets d e) (not (ends_in_cast (tokens e) && angle)) (meets-true d e h.0) (ap not (and-of (ends_in_cast (tokens e)) angle h.1))),
)

abbrev pub paired_part : Demand → Bool → Term → Option Part
paired_part d angle e = some_part d (pair_unless (fits_before d angle e) (paired_before angle e))

-- where anything may be, before no `<`, there is no pair
anywhere : (e : Term) → some_part (AtLeast 0) (paired_before false e) ≡ paired_part (AtLeast 0) false e
anywhere e = ap (λ b. some_part (AtLeast 0) (pair_unless b (paired_before false e))) (sym ((fits_before-fits (AtLeast 0) false e).1 (omega arith, λ ends. refl)))

paired-argument : (following : List Token) (es : Terms) (i : ℕ) → IfSome (argument es i) (λ p. argument (all_paired es) i ≡ paired_part p.demand (begins_with_angle ((behind_argument es i ++ (fixed token.R_PAREN ∷ [])) ++ following)) p.term)
paired-argument following NoTerms i = tt
paired-argument following (Last e) zero = anywhere e
paired-argument following (Last e) (suc i) = tt
paired-argument following (More e es) zero = anywhere e
paired-argument following (More e es) (suc i) = paired-argument following es i

paired-part : (following : List Token) (t : Term) (i : ℕ) → IfSome (part t i) (λ p. part (paired_before (begins_with_angle following) t) i ≡ paired_part p.demand (begins_with_angle (behind_part t i ++ following)) p.term)
paired-part following (Paren e) zero = anywhere e
paired-part following (Field e n) zero = refl
paired-part following (Await e) zero = refl
paired-part following (Try e) zero = refl
paired-part following (Cast e n) zero = refl
paired-part following (Method e n args) zero = refl
paired-part following (Method e n args) (suc i) = paired-argument following args i
paired-part following (Call e args) zero = refl
paired-part following (Call e args) (suc i) = paired-argument following args i
paired-part following (Index e i) zero = refl
paired-part following (Index e i) (suc zero) = anywhere i
paired-part following (Prefix op e) zero = refl
paired-part following (Borrow mutable e) zero = refl
paired-part following (Binary op l r) zero = refl
paired-part following (Binary op l r) (suc zero) = refl
paired-part following (RangeFrom l) zero = refl
paired-part following (RangeTo inclusive r) zero = refl
paired-part following (Range true l r) zero = refl
paired-part following (Range false l r) zero = refl
paired-part following (Range inclusive l r) (suc zero) = refl
paired-part following _ _ = tt

pub paired_by_parts : (following : List Token) (t : Term) (i : ℕ) (d : Demand) (e : Term) → part t i ≡ some_part d e → part (paired_before (begins_with_angle following) t) i ≡ paired_part d (begins_with_angle (behind_part t i ++ following)) e
paired_by_parts following t i d e at =
    subst (λ o. IfSome o (λ p. part (paired_before (begins_with_angle following) t) i ≡ paired_part p.demand (begins_with_angle (behind_part t i ++ following)) p.term)) at
    (paired-part following t i)
