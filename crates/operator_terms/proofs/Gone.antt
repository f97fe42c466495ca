-- Tokens round an operand. For each part of a form, the form's tokens are some tokens before the
-- part, the part's, and those after it, and they stay when the part is changed (`in_term`). Along a
-- place this gives: without a pair exactly its two tokens are gone, and `tokens_behind` is what
-- follows an operand.
use Rattle.std.proofs.Common.{◌≡◌, ℕ, zero, suc, List, [], ◌∷◌, ◌++◌, Option, Some, None, IfSome, option_and_then, refl, sym, ◌∙◌, subst, append_assoc, append-nil}
use Rattle.syntax_kind.specs.declared.syntax_kind.token_kind.TokenKind.TheVariants as token
use Rattle.operator_terms.specs.Token.{Token, fixed}
use Rattle.operator_terms.specs.Operators.{operator_kind, prefix_kind, range_kind}
use Rattle.operator_terms.specs.Term.{Await, Binary, Borrow, Call, Cast, Field, Index, Last, Method, More, NoTerms, Paren, Prefix, Range, RangeFrom, RangeTo, Term, Terms, Try, argument_tokens, borrow_tokens, name, tokens}
use Rattle.operator_terms.specs.Places.{AtLeast, Demand, Part, argument, behind_argument, behind_in, behind_part, operand, part, part_at, some_part, tokens_behind}
use Rattle.operator_terms.specs.Pairs.{change_argument, change_part, without}

-- The inner tokens are in the whole between others, `before` and the given `behind`; in the changed
-- whole new tokens are in their place, and the others stay.
pub record Between (whole changed inner new behind : List Token) : Type 0 where
  pub before : List Token
  pub was : whole ≡ before ++ (inner ++ behind)
  pub is : changed ≡ before ++ (new ++ behind)

itself : (i n : List Token) → Between i n i n []
itself i n = record { before = []; was = sym (append-nil i); is = sym (append-nil n) }

-- the whole is between more tokens, in front and at the back
around : (front back : List Token) {whole changed : List Token} (w c : List Token) {i n behind : List Token} → whole ≡ front ++ (w ++ back) → changed ≡ front ++ (c ++ back) → Between w c i n behind → Between whole changed i n (behind ++ back)
around front back w c was is b = record { before = front ++ b.before; was = was ∙ rw b.was (simp append_assoc); is = is ∙ rw b.is (simp append_assoc) }

-- more tokens are in front alone
after : (front : List Token) {whole changed : List Token} (w c : List Token) {i n behind : List Token} → whole ≡ front ++ w → changed ≡ front ++ c → Between w c i n behind → Between whole changed i n behind
after front w c was is b = record { before = front ++ b.before; was = was ∙ rw b.was (simp append_assoc); is = is ∙ rw b.is (simp append_assoc) }

abbrev pub InArguments : (Term → Term) → Terms → ℕ → Part → Type 0
InArguments f es i p = Between (argument_tokens es) (argument_tokens (change_argument f es i)) (tokens p.term) (tokens (f p.term)) (behind_argument es i)

abbrev pub InTerm : (Term → Term) → Term → ℕ → Part → Type 0
InTerm f t i p = Between (tokens t) (tokens (change_part f t i)) (tokens p.term) (tokens (f p.term)) (behind_part t i)

onto : (P Q : Part → Type 0) → ((p : Part) → P p → Q p) → (o : Option Part) → IfSome o P → IfSome o Q
onto P Q f None h = tt
onto P Q f (Some p) h = f p h

in_arguments : (f : Term → Term) (es : Terms) (i : ℕ) → IfSome (argument es i) (InArguments f es i)
unfolding tokens
in_arguments f NoTerms i = tt
in_arguments f (Last e) zero = itself (tokens e) (tokens (f e))
in_arguments f (Last e) (suc i) = tt
in_arguments f (More e es) zero = around [] (fixed token.COMMA ∷ argument_tokens es) (tokens e) (tokens (f e)) refl refl (itself (tokens e) (tokens (f e)))
in_arguments f (More e es) (suc i) =
    onto (InArguments f es i) (InArguments f (More e es) (suc i))
    (λ p b. after (tokens e ++ (fixed token.COMMA ∷ [])) (argument_tokens es) (argument_tokens (change_argument f es i)) (simp append_assoc) (simp append_assoc) b)
    (argument es i) (in_arguments f es i)

-- a part between a front and a back
abbrev part_between : (f : Term → Term) (front back : List Token) {whole changed : List Token} (e : Term) → whole ≡ front ++ (tokens e ++ back) → changed ≡ front ++ (tokens (f e) ++ back) → Between whole changed (tokens e) (tokens (f e)) back
part_between f front back e was is = around front back (tokens e) (tokens (f e)) was is (itself (tokens e) (tokens (f e)))

pub in_term : (f : Term → Term) (t : Term) (i : ℕ) → IfSome (part t i) (InTerm f t i)
unfolding tokens
in_term f (Paren e) zero = part_between f (fixed token.L_PAREN ∷ []) (fixed token.R_PAREN ∷ []) e refl refl
in_term f (Field e n) zero = part_between f [] _ e refl refl
in_term f (Await e) zero = part_between f [] _ e refl refl
in_term f (Cast e n) zero = part_between f [] _ e refl refl
in_term f (Try e) zero = part_between f [] _ e refl refl
in_term f (Method e n args) zero = part_between f [] _ e refl refl
in_term f (Method e n args) (suc i) =
    onto (InArguments f args i) (InTerm f (Method e n args) (suc i))
    (λ p b. around (tokens e ++ (fixed token.DOT ∷ name n ∷ fixed token.L_PAREN ∷ [])) (fixed token.R_PAREN ∷ []) (argument_tokens args) (argument_tokens (change_argument f args i)) (simp append_assoc) (simp append_assoc) b)
    (argument args i) (in_arguments f args i)
in_term f (Call e args) zero = part_between f [] _ e refl refl
in_term f (Call e args) (suc i) =
    onto (InArguments f args i) (InTerm f (Call e args) (suc i))
    (λ p b. around (tokens e ++ (fixed token.L_PAREN ∷ [])) (fixed token.R_PAREN ∷ []) (argument_tokens args) (argument_tokens (change_argument f args i)) (simp append_assoc) (simp append_assoc) b)
    (argument args i) (in_arguments f args i)
in_term f (Index e i) zero = part_between f [] _ e refl refl
in_term f (Index e i) (suc zero) = part_between f (tokens e ++ (fixed token.L_BRACK ∷ [])) (fixed token.R_BRACK ∷ []) i (simp append_assoc) (simp append_assoc)
in_term f (Prefix op e) zero = part_between f (fixed (prefix_kind op) ∷ []) [] e (simp append-nil) (simp append-nil)
in_term f (Borrow mutable e) zero = part_between f (borrow_tokens mutable) [] e (simp append-nil) (simp append-nil)
in_term f (Binary op l r) zero = part_between f [] _ l refl refl
in_term f (Binary op l r) (suc zero) = part_between f (tokens l ++ (fixed (operator_kind op) ∷ [])) [] r (simp (append_assoc, append-nil)) (simp (append_assoc, append-nil))
in_term f (RangeFrom l) zero = part_between f [] _ l refl refl
in_term f (RangeTo inclusive r) zero = part_between f (fixed (range_kind inclusive) ∷ []) [] r (simp append-nil) (simp append-nil)
in_term f (Range inclusive l r) zero = part_between f [] _ l refl refl
in_term f (Range inclusive l r) (suc zero) = part_between f (tokens l ++ (fixed (range_kind inclusive) ∷ [])) [] r (simp (append_assoc, append-nil)) (simp (append_assoc, append-nil))
in_term f _ _ = tt

-- ---- the pair at a place

abbrev Gone : List ℕ → Term → List Token → Term → Type 0
Gone q t behind e = Between (tokens t) (tokens (without q t)) (fixed token.L_PAREN ∷ (tokens e ++ (fixed token.R_PAREN ∷ []))) (tokens e) behind

-- P of what the part holds, where it is a pair
abbrev IfPair : (Term → Type 0) → Term → Type 0
IfPair P (Paren e) = P e
IfPair P _ = Unit {0}

IfPair-map : (P Q : Term → Type 0) → ((e : Term) → P e → Q e) → (t : Term) → IfPair P t → IfPair Q t
IfPair-map P Q f (Paren e) h = f e h
IfPair-map P Q f _ h = tt

gone_here : (t : Term) → IfPair (Gone [] t []) t
unfolding tokens
gone_here (Paren e) = itself _ (tokens e)
gone_here _ = tt

gone_next : (t : Term) (i : ℕ) (q : List ℕ) (o : Option Part) → IfSome o (InTerm (without q) t i) → ((p : Part) → IfSome (part_at p.demand p.term q) (λ r. IfPair (Gone q p.term (tokens_behind q p.term)) r.term)) → IfSome (option_and_then (λ p. part_at p.demand p.term q) o) (λ r. IfPair (Gone (i ∷ q) t (behind_in (tokens_behind q) o (behind_part t i))) r.term)
gone_next t i q None between each = tt
gone_next t i q (Some p) between each =
    onto (λ r. IfPair (Gone q p.term (tokens_behind q p.term)) r.term) (λ r. IfPair (Gone (i ∷ q) t (tokens_behind q p.term ++ behind_part t i)) r.term)
    (λ r h.
    IfPair-map (Gone q p.term (tokens_behind q p.term)) (Gone (i ∷ q) t (tokens_behind q p.term ++ behind_part t i))
    (λ e gone. around between.before (behind_part t i) (tokens p.term) (tokens (without q p.term)) between.was between.is gone) r.term h)
    (part_at p.demand p.term q) (each p)

gone_at : (q : List ℕ) (p : Part) → IfSome (part_at p.demand p.term q) (λ r. IfPair (Gone q p.term (tokens_behind q p.term)) r.term)
gone_at [] p = gone_here p.term
gone_at (i ∷ q) p = gone_next p.term i q (part p.term i) (in_term (without q) p.term i) (gone_at q)

pub tokens_without : (t : Term) (q : List ℕ) (d : Demand) (e : Term) → operand t q ≡ some_part d (Paren e) → (before : List Token) × (tokens t ≡ before ++ (fixed token.L_PAREN ∷ (tokens e ++ (fixed token.R_PAREN ∷ tokens_behind q t)))) × (tokens (without q t) ≡ before ++ (tokens e ++ tokens_behind q t))
tokens_without t q d e at =
    let root : Part = record { demand = AtLeast 0; term = t } in
    let b : Gone q t (tokens_behind q t) e = subst (λ o. IfSome o (λ r. IfPair (Gone q t (tokens_behind q t)) r.term)) at (gone_at q root) in
    (b.before, rw b.was (simp append_assoc), b.is)

-- ---- the operand at a place, with the same lemmas and no change

abbrev Stands : Term → List Token → Part → Type 0
Stands t behind p = (before : List Token) × (tokens t ≡ before ++ (tokens p.term ++ behind))

stands_next : (t : Term) (i : ℕ) (q : List ℕ) (o : Option Part) → IfSome o (InTerm (λ e. e) t i) → ((p : Part) → IfSome (part_at p.demand p.term q) (Stands p.term (tokens_behind q p.term))) → IfSome (option_and_then (λ p. part_at p.demand p.term q) o) (Stands t (behind_in (tokens_behind q) o (behind_part t i)))
stands_next t i q None between each = tt
stands_next t i q (Some p) between each =
    onto (Stands p.term (tokens_behind q p.term)) (Stands t (tokens_behind q p.term ++ behind_part t i))
    (λ r h. (between.before ++ h.0, between.was ∙ rw h.1 (simp append_assoc)))
    (part_at p.demand p.term q) (each p)

stands_at : (q : List ℕ) (p : Part) → IfSome (part_at p.demand p.term q) (Stands p.term (tokens_behind q p.term))
stands_at [] p = ([], sym (append-nil (tokens p.term)))
stands_at (i ∷ q) p = stands_next p.term i q (part p.term i) (in_term (λ e. e) p.term i) (stands_at q)

pub tokens_of_operand : (t : Term) (q : List ℕ) (d : Demand) (e : Term) → operand t q ≡ some_part d e → (before : List Token) × (tokens t ≡ before ++ (tokens e ++ tokens_behind q t))
tokens_of_operand t q d e at = subst (λ o. IfSome o (Stands t (tokens_behind q t))) at (stands_at q (record { demand = AtLeast 0; term = t }))
