-- A term in the place of an operand reads exactly where it has the level that the place demands,
-- and ends in no cast's name before `<` or `<<`; the proof is that for a pair that goes (`Without`,
-- `MayGo`), but for what stands at the place itself.
use Rattle.std.proofs.Common.{◌≡◌, ◌≤◌, ◌↔◌, ℕ, zero, suc, List, [], ◌∷◌, ◌++◌, true, false, Option, Some, None, IfSome, option_and_then, refl, sym, ◌∙◌, arith, subst, append_assoc, append-nil}
use Rattle.operator_terms.specs.Token.{Token}
use Rattle.operator_terms.specs.Term.{Literal, Name, Paren, Field, Await, Try, Cast, Method, Call, Index, Prefix, Borrow, Binary, RangeFull, RangeFrom, RangeTo, Range, Term, level, tokens}
use Rattle.operator_terms.specs.Reading.{Reads, begins_with_angle}
use Rattle.operator_terms.specs.Places.{MayStandBefore, AtLeast, Callee, Demand, Meets, Part, behind_in, behind_part, operand, part, part_at, some_part, tokens_behind}
use Rattle.operator_terms.specs.Pairs.{change_part}
use Rattle.operator_terms.specs.Put.{put}
use Rattle.operator_terms.proofs.Parts.{PartsFit, numbers}
use Rattle.operator_terms.proofs.Deriving.{Derives-parts, Derives_of_parts}
use Rattle.operator_terms.proofs.Fitting.{Good, Good-part, Good-at}
use Rattle.operator_terms.proofs.Clear.{cast_at_end, Clear}
use Rattle.operator_terms.proofs.Ends.{ends-tokens, clear_end, clear_raise, clear_lower, ClearBefore, part-clear}
use Rattle.operator_terms.proofs.Readings.{tokens_of_clear, clear_of_tokens, reads-derives, reads-rule, reads_of_both}
use Rattle.operator_terms.proofs.Without.{Decided, change-parts, meets-change}
use Rattle.operator_terms.proofs.MayGo.{Settled, parts-settle, clear_before}

-- ---- levels

-- the whole with the term put in is good exactly where the term has what the place demands
Meant : Term → List ℕ → Part → Part → Type 0
Meant s q p r = Meets r.demand s ↔ Good (record { demand = p.demand; term = put s q p.term })

meant-map : (P Q : Part → Type 0) → ((p : Part) → P p → Q p) → (o : Option Part) → IfSome o P → IfSome o Q
meant-map P Q f None h = tt
meant-map P Q f (Some p) h = f p h

meant_below : (s : Term) (i : ℕ) (q : List ℕ) (p r : Part) → Good p → Decided (put s q) (PartsFit (change_part (put s q) p.term i)) r → (w : Part) → Meant s q r w → Meant s (i ∷ q) p w
unfolding Meant Decided
meant_below s i q p r good decided w h =
    (λ m. (meets-change p.demand (put s q) p.term i good.0, decided.1 (h.0 m)), λ g. h.1 (decided.0 g.1))

meant_next : (s : Term) (i : ℕ) (q : List ℕ) (p : Part) → Good p → ((r : Part) → Good r → IfSome (part_at r.demand r.term q) (Meant s q r)) → (o : Option Part) → IfSome o Good → IfSome o (Decided (put s q) (PartsFit (change_part (put s q) p.term i))) → IfSome (option_and_then (λ r. part_at r.demand r.term q) o) (Meant s (i ∷ q) p)
meant_next s i q p h each None good decided = tt
meant_next s i q p h each (Some r) good decided = meant-map (Meant s q r) (Meant s (i ∷ q) p) (meant_below s i q p r h decided) (part_at r.demand r.term q) (each r good)

meant_at : (s : Term) → PartsFit s → (q : List ℕ) (p : Part) → Good p → IfSome (part_at p.demand p.term q) (Meant s q p)
unfolding Meant
meant_at s fits [] p h = (λ m. (m, fits), λ g. g.0)
meant_at s fits (i ∷ q) p h = meant_next s i q p h (meant_at s fits q) (part p.term i) (Good-part p.term i h.1) (change-parts (put s q) p.term i h.1)

-- ---- casts

abbrev Freed : List Token → Type 0 → Term → Type 0
Freed rest A s = (cast_at_end s ≡ true → begins_with_angle rest ≡ false) ↔ A

freed_next : (s : Term) (i : ℕ) (q : List ℕ) (t : Term) (ts rest : List Token) (A : Type 0) → ((d : Demand) (e : Term) (others : List Token) → Clear (begins_with_angle others) e → IfSome (part_at d e q) (λ p. Freed (tokens_behind q e ++ others) (Clear (begins_with_angle others) (put s q e)) s)) → (o : Option Part) → IfSome o (ClearBefore (ts ++ rest)) → IfSome o (Settled (put s q) A (ts ++ rest)) → IfSome (option_and_then (λ p. part_at p.demand p.term q) o) (λ p. Freed (behind_in (tokens_behind q) o ts ++ rest) A s)
unfolding Settled
freed_next s i q t ts rest A each None clear settle = tt
freed_next s i q t ts rest A each (Some p) clear settle = rw append_assoc (onto (part_at p.demand p.term q) (each p.demand p.term (ts ++ rest) clear))
  where
    onto : (o : Option Part) → IfSome o (λ r. Freed (tokens_behind q p.term ++ (ts ++ rest)) (Clear (begins_with_angle (ts ++ rest)) (put s q p.term)) s) → IfSome o (λ r. Freed (tokens_behind q p.term ++ (ts ++ rest)) A s)
    onto None h = tt
    onto (Some r) h = (λ safe. settle.1 (h.0 safe), λ a. h.1 (settle.0 a))

freed_at : (s : Term) → Clear false s → (q : List ℕ) (d : Demand) (t : Term) (rest : List Token) → Clear (begins_with_angle rest) t → IfSome (part_at d t q) (λ p. Freed (tokens_behind q t ++ rest) (Clear (begins_with_angle rest) (put s q t)) s)
freed_at s clear [] d t rest h = (λ safe. clear_raise s (begins_with_angle rest) clear safe, λ c ends. clear_end s (begins_with_angle rest) c ends)
freed_at s clear (i ∷ q) d t rest h = freed_next s i q t (behind_part t i) rest (Clear (begins_with_angle rest) (change_part (put s q) t i)) (freed_at s clear q) (part t i) (part-clear t i rest h) (parts-settle (put s q) t i rest h)

-- ---- both

-- The whole reads as itself with the other term in the operand's place exactly where that term fits
-- there.
pub put_reads : (t s : Term) (q : List ℕ) (d : Demand) (e : Term) → Reads 0 (tokens t) t → Reads 0 (tokens s) s → operand t q ≡ some_part d e → (Meets d s × MayStandBefore (tokens_behind q t) s) ↔ Reads 0 (tokens (put s q t)) (put s q t)
unfolding Meant
put_reads t s q d e h own at =
    let clear : Clear false t = clear_of_tokens t (reads-rule 0 (tokens t) t h) in
    let clear_own : Clear false s = clear_of_tokens s (reads-rule 0 (tokens s) s own) in
    let root : Part = record { demand = AtLeast 0; term = t } in
    let good : Good root = (omega arith, Derives-parts t 0 (tokens t) (reads-derives 0 (tokens t) t h)) in
    let level : Meant s q root (record { demand = d; term = e }) =
    subst (λ o. IfSome o (Meant s q root)) at (meant_at s (Derives-parts s 0 (tokens s) (reads-derives 0 (tokens s) s own)) q root good) in
    let freed : Freed (tokens_behind q t ++ []) (Clear false (put s q t)) s =
    subst (λ o. IfSome o (λ p. Freed (tokens_behind q t ++ []) (Clear false (put s q t)) s)) at (freed_at s clear_own q (AtLeast 0) t [] clear) in
    let free : Freed (tokens_behind q t) (Clear false (put s q t)) s =
    subst (λ xs. Freed xs (Clear false (put s q t)) s) (append-nil (tokens_behind q t)) freed in (
      (λ m. reads_of_both 0 (tokens (put s q t)) (put s q t) (Derives_of_parts (put s q t) 0 (omega arith) (level.0 m.0).1)
          (tokens_of_clear (put s q t) (free.0 (λ ends. m.1 (ends-tokens s ∙ ends))))),
      (λ r. (
        level.1 (omega arith, Derives-parts (put s q t) 0 (tokens (put s q t)) (reads-derives 0 (tokens (put s q t)) (put s q t) r)),
        λ ends. free.1 (clear_of_tokens (put s q t) (reads-rule 0 (tokens (put s q t)) (put s q t) r)) (sym (ends-tokens s) ∙ ends),
      )),
    )

-- ---- in a pair

level_bound : (t : Term) → level t ≤ 14
level_bound (Binary op l r) = let h = numbers op in omega arith
level_bound (Literal k x) = omega arith
level_bound (Name x) = omega arith
level_bound (Paren e) = omega arith
level_bound (Field e n) = omega arith
level_bound (Await e) = omega arith
level_bound (Try e) = omega arith
level_bound (Cast e n) = omega arith
level_bound (Method e n args) = omega arith
level_bound (Call e args) = omega arith
level_bound (Index e i) = omega arith
level_bound (Prefix op e) = omega arith
level_bound (Borrow mutable e) = omega arith
level_bound RangeFull = omega arith
level_bound (RangeFrom l) = omega arith
level_bound (RangeTo inclusive r) = omega arith
level_bound (Range inclusive l r) = omega arith

demand_bound : (d : Demand) (e s : Term) → Meets d e → Meets d (Paren s)
demand_bound (AtLeast k) e s h = omega (arith, level_bound e, h)
demand_bound Callee e s h = (omega arith, refl)

pair_reads : (s : Term) → Reads 0 (tokens s) s → Reads 0 (tokens (Paren s)) (Paren s)
pair_reads s h =
    reads_of_both 0 (tokens (Paren s)) (Paren s)
    (Derives_of_parts (Paren s) 0 (omega arith) (Derives-parts s 0 (tokens s) (reads-derives 0 (tokens s) s h)))
    (tokens_of_clear (Paren s) (clear_of_tokens s (reads-rule 0 (tokens s) s h)))

-- In a pair it always does.
pub put_in_pair_reads : (t s : Term) (q : List ℕ) (d : Demand) (e : Term) → Reads 0 (tokens t) t → Reads 0 (tokens s) s → operand t q ≡ some_part d e → Reads 0 (tokens (put (Paren s) q t)) (put (Paren s) q t)
put_in_pair_reads t s q d e h own at =
    let root : Part = record { demand = AtLeast 0; term = t } in
    let good : Good (record { demand = d; term = e }) = subst (λ o. IfSome o Good) at (Good-at q root (omega arith, Derives-parts t 0 (tokens t) (reads-derives 0 (tokens t) t h))) in
    (put_reads t (Paren s) q d e h (pair_reads s own) at).0 (demand_bound d e s good.0, λ ends. absurd (let no : false ≡ true = sym (ends-tokens (Paren s)) ∙ ends in cc))
