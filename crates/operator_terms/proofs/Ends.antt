-- What a term ends in. Its tokens end with `as` and a name exactly where a cast is at its right
-- edge (`ends-tokens`). A term is `Clear` before `<` exactly where it is clear before nothing and
-- no cast is at its right edge (`clear_end`, `clear_raise`, `clear_lower`), and then its parts are
-- clear before what follows them (`part-clear`).
use Rattle.std.proofs.Common.{◌≡◌, ℕ, zero, suc, List, [], ◌∷◌, ◌++◌, Bool, true, false, ◌&&◌, ◌||◌, IfSome, refl, sym, ap, ◌∙◌, subst, append_assoc}
use Rattle.syntax_kind.specs.declared.syntax_kind.token_kind.TokenKind.TheVariants as token
use Rattle.operator_terms.specs.Token.{Token, fixed}
use Rattle.operator_terms.specs.Operators.{operator_kind, range_kind}
use Rattle.operator_terms.specs.Term.{Await, Binary, Borrow, Call, Cast, Field, Index, Last, Literal, Method, More, Name, NoTerms, Paren, Prefix, Range, RangeFrom, RangeFull, RangeTo, Term, Terms, Try, argument_tokens, name, tokens}
use Rattle.operator_terms.specs.Reading.{begins_with_angle, is_as, is_name}
use Rattle.operator_terms.specs.Places.{Part, argument, behind_argument, behind_part, ends_in_cast, is_one_name, part}
use Rattle.operator_terms.proofs.Bools.{and-false}
use Rattle.operator_terms.proofs.Clear.{cast_at_end, Clear, AllClear, plain_operator, plain_prefix, plain_range, plain_literal}

one-name : (xs : List Token) (y : Token) (ys : List Token) → is_name y.kind ≡ false → is_one_name (xs ++ (y ∷ ys)) ≡ false
one-name [] y [] e = e
one-name [] y (z ∷ ys) e = refl
one-name (x ∷ []) y ys e = refl
one-name (x ∷ z ∷ xs) y ys e = refl

ends-append : (xs : List Token) (y : Token) (ys : List Token) → is_name y.kind ≡ false → ends_in_cast (xs ++ (y ∷ ys)) ≡ ends_in_cast (y ∷ ys)
ends-append [] y ys e = refl
ends-append (x ∷ xs) y ys e =
    ap (λ b. (is_as x.kind && b) || ends_in_cast (xs ++ (y ∷ ys))) (one-name xs y ys e)
    ∙ ap (λ b. b || ends_in_cast (xs ++ (y ∷ ys))) (and-false (is_as x.kind))
    ∙ ends-append xs y ys e

pub ends-tokens : (t : Term) → ends_in_cast (tokens t) ≡ cast_at_end t
unfolding tokens
ends-tokens (Literal kind text) = ap (λ b. (b && false) || false) (plain_literal kind)
ends-tokens (Name text) = refl
ends-tokens (Paren e) = ends-append (tokens e) (fixed token.R_PAREN) [] refl
ends-tokens (Field e n) = ends-append (tokens e) (fixed token.DOT) _ refl
ends-tokens (Await e) = ends-append (tokens e) (fixed token.DOT) _ refl
ends-tokens (Try e) = ends-append (tokens e) (fixed token.QUESTION) [] refl
ends-tokens (Cast e n) = ends-append (tokens e) (fixed token.AS_KW) (name n ∷ []) refl
ends-tokens (Method e n args) = ends-append (tokens e) (fixed token.DOT) _ refl ∙ ends-append (argument_tokens args) (fixed token.R_PAREN) [] refl
ends-tokens (Call e args) = ends-append (tokens e) (fixed token.L_PAREN) _ refl ∙ ends-append (argument_tokens args) (fixed token.R_PAREN) [] refl
ends-tokens (Index e i) = ends-append (tokens e) (fixed token.L_BRACK) _ refl ∙ ends-append (tokens i) (fixed token.R_BRACK) [] refl
ends-tokens (Prefix op e) = ap (λ b. (b && is_one_name (tokens e)) || ends_in_cast (tokens e)) (plain_prefix op) ∙ ends-tokens e
ends-tokens (Borrow true e) = ends-tokens e
ends-tokens (Borrow false e) = ends-tokens e
ends-tokens (Binary op l r) =
    ends-append (tokens l) (fixed (operator_kind op)) (tokens r) (plain_operator op).1
    ∙ ap (λ b. (b && is_one_name (tokens r)) || ends_in_cast (tokens r)) (plain_operator op).0
    ∙ ends-tokens r
ends-tokens RangeFull = refl
ends-tokens (RangeFrom l) = ends-append (tokens l) (fixed token.DOT2) [] refl
ends-tokens (RangeTo inclusive r) = ap (λ b. (b && is_one_name (tokens r)) || ends_in_cast (tokens r)) (plain_range inclusive).0 ∙ ends-tokens r
ends-tokens (Range inclusive l r) =
    ends-append (tokens l) (fixed (range_kind inclusive)) (tokens r) (plain_range inclusive).1
    ∙ ap (λ b. (b && is_one_name (tokens r)) || ends_in_cast (tokens r)) (plain_range inclusive).0
    ∙ ends-tokens r

-- ---- the right edge

pub clear_end : (t : Term) (next : Bool) → Clear next t → cast_at_end t ≡ true → next ≡ false
clear_end (Cast e n) next h ends = h.0
clear_end (Prefix op e) next h ends = clear_end e next h ends
clear_end (Borrow mutable e) next h ends = clear_end e next h ends
clear_end (Binary op l r) next h ends = clear_end r next h.1 ends
clear_end (RangeTo inclusive r) next h ends = clear_end r next h ends
clear_end (Range inclusive l r) next h ends = clear_end r next h.1 ends
clear_end _ next h ends = absurd (cc)

pub clear_raise : (t : Term) (next : Bool) → Clear false t → (cast_at_end t ≡ true → next ≡ false) → Clear next t
clear_raise (Cast e n) next h safe = (safe refl, h.1)
clear_raise (Prefix op e) next h safe = clear_raise e next h safe
clear_raise (Borrow mutable e) next h safe = clear_raise e next h safe
clear_raise (Binary op l r) next h safe = (h.0, clear_raise r next h.1 safe)
clear_raise (RangeTo inclusive r) next h safe = clear_raise r next h safe
clear_raise (Range inclusive l r) next h safe = (h.0, clear_raise r next h.1 safe)
clear_raise _ next h safe = h

pub clear_lower : (t : Term) (next : Bool) → Clear next t → Clear false t
clear_lower (Cast e n) next h = (refl, h.1)
clear_lower (Prefix op e) next h = clear_lower e next h
clear_lower (Borrow mutable e) next h = clear_lower e next h
clear_lower (Binary op l r) next h = (h.0, clear_lower r next h.1)
clear_lower (RangeTo inclusive r) next h = clear_lower r next h
clear_lower (Range inclusive l r) next h = (h.0, clear_lower r next h.1)
clear_lower _ next h = h

-- ---- by places

abbrev pub ClearBefore : List Token → Part → Type 0
ClearBefore rest p = Clear (begins_with_angle rest) p.term

none_after : (xs : List Token) (b : Bool) → begins_with_angle xs ≡ false → b ≡ begins_with_angle xs → b ≡ false
none_after xs b e f = f ∙ e

argument-clear : (es : Terms) (i : ℕ) (rest : List Token) → begins_with_angle rest ≡ false → AllClear es → IfSome (argument es i) (ClearBefore (behind_argument es i ++ rest))
argument-clear NoTerms i rest e h = tt
argument-clear (Last x) zero rest e h = subst (λ b. Clear b x) (sym e) h
argument-clear (Last x) (suc i) rest e h = tt
argument-clear (More x es) zero rest e h = h.0
argument-clear (More x es) (suc i) rest e h = argument-clear es i rest e h.1

pub part-clear : (t : Term) (i : ℕ) (rest : List Token) → Clear (begins_with_angle rest) t → IfSome (part t i) (ClearBefore (behind_part t i ++ rest))
part-clear (Paren e) zero rest h = h
part-clear (Field e n) zero rest h = h
part-clear (Await e) zero rest h = h
part-clear (Try e) zero rest h = h
part-clear (Cast e n) zero rest h = h.1
part-clear (Method e n args) zero rest h = h.0
part-clear (Method e n args) (suc i) rest h = rw append_assoc (argument-clear args i (fixed token.R_PAREN ∷ rest) refl h.1)
part-clear (Call e args) zero rest h = h.0
part-clear (Call e args) (suc i) rest h = rw append_assoc (argument-clear args i (fixed token.R_PAREN ∷ rest) refl h.1)
part-clear (Index e i) zero rest h = h.0
part-clear (Index e i) (suc zero) rest h = h.1
part-clear (Prefix op e) zero rest h = h
part-clear (Borrow mutable e) zero rest h = h
part-clear (Binary op l r) zero rest h = h.0
part-clear (Binary op l r) (suc zero) rest h = h.1
part-clear (RangeFrom l) zero rest h = h
part-clear (RangeTo inclusive r) zero rest h = h
part-clear (Range true l r) zero rest h = h.0
part-clear (Range false l r) zero rest h = h.0
part-clear (Range inclusive l r) (suc zero) rest h = h.1
part-clear _ _ rest h = tt
