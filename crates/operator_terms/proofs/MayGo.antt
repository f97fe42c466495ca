-- A pair may go exactly where what it holds fits its place: levels (`Without`) and the rule on
-- casts together. What follows the whole term may be any tokens before which it may be, with and
-- without the pair.
use Rattle.std.proofs.Common.{◌≡◌, ◌↔◌, ℕ, zero, suc, List, [], ◌∷◌, ◌++◌, true, false, Option, Some, None, IfSome, option_and_then, refl, sym, ◌∙◌, subst, append_assoc, append-nil}
use Rattle.syntax_kind.specs.declared.syntax_kind.token_kind.TokenKind.TheVariants as token
use Rattle.operator_terms.specs.Token.{Token, fixed}
use Rattle.operator_terms.specs.Term.{Await, Binary, Borrow, Call, Cast, Field, Index, Last, Method, More, NoTerms, Paren, Prefix, Range, RangeFrom, RangeTo, Term, Terms, Try, tokens}
use Rattle.operator_terms.specs.Reading.{Reads, begins_with_angle}
use Rattle.operator_terms.specs.Places.{MayStandBefore, AtLeast, Demand, Meets, Part, argument, behind_argument, behind_in, behind_part, operand, part, part_at, some_part, tokens_behind}
use Rattle.operator_terms.specs.Pairs.{change_argument, change_part, inside, without}
use Rattle.operator_terms.proofs.Clear.{cast_at_end, Clear, AllClear}
use Rattle.operator_terms.proofs.Ends.{ends-tokens, clear_end, clear_raise, clear_lower, ClearBefore, part-clear}
use Rattle.operator_terms.proofs.Readings.{tokens_of_clear, clear_of_tokens, reads-derives, reads-rule, reads_of_both}
use Rattle.operator_terms.proofs.Without.{level_may_go}

-- where the other parts are clear, the changed part decides
unfoldable pub Settled : (Term → Term) → Type 0 → List Token → Part → Type 0
Settled f A rest p = A ↔ Clear (begins_with_angle rest) (f p.term)

settled : (f : Term → Term) (A B : Type 0) → (A → B) → (B → A) → (rest : List Token) (o : Option Part) → IfSome o (Settled f A rest) → IfSome o (Settled f B rest)
unfolding Settled
settled f A B to from rest None h = tt
settled f A B to from rest (Some p) h = (λ b. h.0 (from b), λ g. to (h.1 g))

arguments-settle : (f : Term → Term) (es : Terms) (i : ℕ) (rest : List Token) → begins_with_angle rest ≡ false → AllClear es → IfSome (argument es i) (Settled f (AllClear (change_argument f es i)) (behind_argument es i ++ rest))
unfolding Settled
arguments-settle f NoTerms i rest e h = tt
arguments-settle f (Last x) zero rest e h = (λ a. subst (λ b. Clear b (f x)) (sym e) a, λ g. subst (λ b. Clear b (f x)) e g)
arguments-settle f (Last x) (suc i) rest e h = tt
arguments-settle f (More x es) zero rest e h = (λ a. a.0, λ g. (g, h.1))
arguments-settle f (More x es) (suc i) rest e h =
    settled f (AllClear (change_argument f es i)) (Clear false x × AllClear (change_argument f es i)) (λ a. (h.0, a)) (λ b. b.1) (behind_argument es i ++ rest) (argument es i) (arguments-settle f es i rest e h.1)

in_brackets : (f : Term → Term) (A : Type 0) (ts rest : List Token) (o : Option Part) → IfSome o (Settled f A (ts ++ (fixed token.R_PAREN ∷ rest))) → IfSome o (Settled f A ((ts ++ (fixed token.R_PAREN ∷ [])) ++ rest))
in_brackets f A ts rest o h = rw append_assoc h

pub parts-settle : (f : Term → Term) (t : Term) (i : ℕ) (rest : List Token) → Clear (begins_with_angle rest) t → IfSome (part t i) (Settled f (Clear (begins_with_angle rest) (change_part f t i)) (behind_part t i ++ rest))
unfolding Settled
parts-settle f (Paren e) zero rest h = (λ a. a, λ g. g)
parts-settle f (Field e n) zero rest h = (λ a. a, λ g. g)
parts-settle f (Await e) zero rest h = (λ a. a, λ g. g)
parts-settle f (Try e) zero rest h = (λ a. a, λ g. g)
parts-settle f (Cast e n) zero rest h = (λ a. a.1, λ g. (h.0, g))
parts-settle f (Method e n args) zero rest h = (λ a. a.0, λ g. (g, h.1))
parts-settle f (Method e n args) (suc i) rest h =
    in_brackets f (Clear false e × AllClear (change_argument f args i)) (behind_argument args i) rest (argument args i)
    (settled f (AllClear (change_argument f args i)) (Clear false e × AllClear (change_argument f args i)) (λ a. (h.0, a)) (λ b. b.1) (behind_argument args i ++ (fixed token.R_PAREN ∷ rest)) (argument args i) (arguments-settle f args i (fixed token.R_PAREN ∷ rest) refl h.1))
parts-settle f (Call e args) zero rest h = (λ a. a.0, λ g. (g, h.1))
parts-settle f (Call e args) (suc i) rest h =
    in_brackets f (Clear false e × AllClear (change_argument f args i)) (behind_argument args i) rest (argument args i)
    (settled f (AllClear (change_argument f args i)) (Clear false e × AllClear (change_argument f args i)) (λ a. (h.0, a)) (λ b. b.1) (behind_argument args i ++ (fixed token.R_PAREN ∷ rest)) (argument args i) (arguments-settle f args i (fixed token.R_PAREN ∷ rest) refl h.1))
parts-settle f (Index e i) zero rest h = (λ a. a.0, λ g. (g, h.1))
parts-settle f (Index e i) (suc zero) rest h = (λ a. a.1, λ g. (h.0, g))
parts-settle f (Prefix op e) zero rest h = (λ a. a, λ g. g)
parts-settle f (Borrow mutable e) zero rest h = (λ a. a, λ g. g)
parts-settle f (Binary op l r) zero rest h = (λ a. a.0, λ g. (g, h.1))
parts-settle f (Binary op l r) (suc zero) rest h = (λ a. a.1, λ g. (h.0, g))
parts-settle f (RangeFrom l) zero rest h = (λ a. a, λ g. g)
parts-settle f (RangeTo inclusive r) zero rest h = (λ a. a, λ g. g)
parts-settle f (Range true l r) zero rest h = (λ a. a.0, λ g. (g, h.1))
parts-settle f (Range false l r) zero rest h = (λ a. a.0, λ g. (g, h.1))
parts-settle f (Range inclusive l r) (suc zero) rest h = (λ a. a.1, λ g. (h.0, g))
parts-settle f _ _ rest h = tt

-- ---- the pair at a place

abbrev IfPair : (Term → Type 0) → Term → Type 0
IfPair P (Paren e) = P e
IfPair P _ = Unit {0}

IfPair-map : (P Q : Term → Type 0) → ((e : Term) → P e → Q e) → (t : Term) → IfPair P t → IfPair Q t
IfPair-map P Q f (Paren e) h = f e h
IfPair-map P Q f _ h = tt

-- what follows decides
abbrev Frees : List Token → Type 0 → Term → Type 0
Frees rest A e = (cast_at_end e ≡ true → begins_with_angle rest ≡ false) ↔ A

frees_here : (t : Term) (rest : List Token) → Clear (begins_with_angle rest) t → IfPair (Frees rest (Clear (begins_with_angle rest) (inside t))) t
frees_here (Paren e) rest h = (λ safe. clear_raise e (begins_with_angle rest) h safe, λ c ends. clear_end e (begins_with_angle rest) c ends)
frees_here _ rest h = tt

frees_next : (i : ℕ) (q : List ℕ) (t : Term) (ts rest : List Token) (A : Type 0) → ((d : Demand) (e : Term) (others : List Token) → Clear (begins_with_angle others) e → IfSome (part_at d e q) (λ p. IfPair (Frees (tokens_behind q e ++ others) (Clear (begins_with_angle others) (without q e))) p.term)) → (o : Option Part) → IfSome o (ClearBefore (ts ++ rest)) → IfSome o (Settled (without q) A (ts ++ rest)) → IfSome (option_and_then (λ p. part_at p.demand p.term q) o) (λ p. IfPair (Frees (behind_in (tokens_behind q) o ts ++ rest) A) p.term)
unfolding Settled
frees_next i q t ts rest A each None clear settle = tt
frees_next i q t ts rest A each (Some p) clear settle = rw append_assoc (onto (part_at p.demand p.term q) (each p.demand p.term (ts ++ rest) clear))
  where
    onto : (o : Option Part) → IfSome o (λ r. IfPair (Frees (tokens_behind q p.term ++ (ts ++ rest)) (Clear (begins_with_angle (ts ++ rest)) (without q p.term))) r.term) → IfSome o (λ r. IfPair (Frees (tokens_behind q p.term ++ (ts ++ rest)) A) r.term)
    onto None h = tt
    onto (Some r) h =
        IfPair-map (Frees (tokens_behind q p.term ++ (ts ++ rest)) (Clear (begins_with_angle (ts ++ rest)) (without q p.term))) (Frees (tokens_behind q p.term ++ (ts ++ rest)) A)
        (λ e g. (λ safe. settle.1 (g.0 safe), λ a. g.1 (settle.0 a))) r.term h

frees_at : (q : List ℕ) (d : Demand) (t : Term) (rest : List Token) → Clear (begins_with_angle rest) t → IfSome (part_at d t q) (λ p. IfPair (Frees (tokens_behind q t ++ rest) (Clear (begins_with_angle rest) (without q t))) p.term)
frees_at [] d t rest h = frees_here t rest h
frees_at (i ∷ q) d t rest h = frees_next i q t (behind_part t i) rest (Clear (begins_with_angle rest) (change_part (without q) t i)) (frees_at q) (part t i) (part-clear t i rest h) (parts-settle (without q) t i rest h)

-- a term that is clear before nothing is clear before what it may precede
pub clear_before : (following : List Token) (t : Term) → MayStandBefore following t → Clear false t → Clear (begins_with_angle following) t
clear_before following t stands clear = clear_raise t (begins_with_angle following) clear (λ ends. stands (ends-tokens t ∙ ends))

-- In a term that its tokens read as, before tokens that both it and the term without the pair may
-- precede: a pair may go exactly where what it holds fits the pair's place.
pub pair_may_go_before : (following : List Token) (t : Term) (q : List ℕ) (d : Demand) (e : Term) → Reads 0 (tokens t) t → operand t q ≡ some_part d (Paren e) → MayStandBefore following t → MayStandBefore following (without q t) → (Meets d e × MayStandBefore (tokens_behind q t ++ following) e) ↔ Reads 0 (tokens (without q t)) (without q t)
pair_may_go_before following t q d e h at stands stands_without =
    let angle = begins_with_angle following in
    let clear : Clear angle t = clear_before following t stands (clear_of_tokens t (reads-rule 0 (tokens t) t h)) in
    let levels = level_may_go t q d e (reads-derives 0 (tokens t) t h) at in
    let free : Frees (tokens_behind q t ++ following) (Clear angle (without q t)) e =
    subst (λ o. IfSome o (λ p. IfPair (Frees (tokens_behind q t ++ following) (Clear angle (without q t))) p.term)) at (frees_at q (AtLeast 0) t following clear) in (
      (λ m. reads_of_both 0 (tokens (without q t)) (without q t) (levels.0 m.0)
          (tokens_of_clear (without q t) (clear_lower (without q t) angle (free.0 (λ ends. m.1 (ends-tokens e ∙ ends)))))),
      (λ r. (
        levels.1 (reads-derives 0 (tokens (without q t)) (without q t) r),
        λ ends. free.1 (clear_before following (without q t) stands_without (clear_of_tokens (without q t) (reads-rule 0 (tokens (without q t)) (without q t) r))) (sym (ends-tokens e) ∙ ends),
      )),
    )

pub pair_may_go : (t : Term) (q : List ℕ) (d : Demand) (e : Term) → Reads 0 (tokens t) t → operand t q ≡ some_part d (Paren e) → (Meets d e × MayStandBefore (tokens_behind q t) e) ↔ Reads 0 (tokens (without q t)) (without q t)
pair_may_go t q d e h at =
    subst (λ xs. (Meets d e × MayStandBefore xs e) ↔ Reads 0 (tokens (without q t)) (without q t)) (append-nil (tokens_behind q t))
    (pair_may_go_before [] t q d e h at (λ ends. refl) (λ ends. refl))
