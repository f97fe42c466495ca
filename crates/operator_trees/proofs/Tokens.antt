-- The tokens of a tree that means something are those of what it means.
use Rattle.std.proofs.Common.{◌≡◌, ◌≤◌, ◌++◌, ℕ, List, [], ◌∷◌, Bool, true, false, ◌&&◌, ◌||◌, not, cond, length, Option, Some, None, IfSome, refl, sym, ap, subst, ◌∙◌, arith}
use Rattle.syntax_kind.specs.declared.syntax_kind.SyntaxKind.{SyntaxKind}
use Rattle.syntax_kind.specs.declared.syntax_kind.SyntaxKind.TheVariants.{Token as OfToken, Node as OfNode, OTHER}
use Rattle.syntax_kind.specs.Kinds.{is_trivia}
use Rattle.tree_model.specs.Tree.{Tree, node, token, Forest, nil, cons}
use Rattle.operator_terms.specs.Operators.{Dereference, Not, Negate, operator_kind, range_kind}
use Rattle.operator_terms.specs.Term.{Term, Literal, Name, Paren, Field, Await, Try, Cast, Method, Call, Index, Prefix, Borrow, Binary, RangeFull, RangeFrom, RangeTo, Range, Terms, NoTerms, Last, More}
use Rattle.operator_terms.specs.Sign.{Strange, sign_of, is_empty}
use Rattle.operator_trees.specs.declared.form.Form.{Form}
use Rattle.operator_trees.specs.Forms.{form_of}
use Rattle.operator_trees.specs.Shown.{Meaning, IsSign, IsTerm, IsName, IsSegment, IsPath, IsType, IsArguments, IsNothing, text_fits, leaf, means, meanings, meaning, is_right}
use Rattle.operator_trees.specs.Shape.{kid_meanings, argument_meanings, kids_of}
use Rattle.std.specs.Cmp.Lexicographic.{pointwise}
use Rattle.std.specs.Prelude.{◌==◌, IfNone}
use Rattle.std.proofs.lemmas.Bool.{eqb-true}
use Rattle.std.proofs.Common.{append_assoc, append-nil}
use Rattle.operator_terms.specs.Token.{Token, fixed, fixed_text}
use Rattle.syntax_kind.specs.declared.syntax_kind.token_kind.TokenKind.TheVariants as tok
use Rattle.operator_terms.specs.Term.{name, tokens, argument_tokens}
use Rattle.operator_terms.specs.Sign.{token_of, CarriesFixedText}
use Rattle.operator_terms.proofs.Signs.{strange, token-sign}
use Rattle.operator_trees.specs.Leaves.{leaves, leaves_of}
use Rattle.operator_trees.proofs.Inversion.{no, no_sign, kids_told}

pointwise-eq : (a b : List ℕ) → pointwise ◌==◌ a b ≡ true → a ≡ b
pointwise-eq [] [] h = refl
pointwise-eq [] (y ∷ b) h = absurd (no h)
pointwise-eq (x ∷ a) [] h = absurd (no h)
pointwise-eq (x ∷ a) (y ∷ b) h = both (pointwise-eq a b) (x == y) refl h
  where
    both : (pointwise ◌==◌ a b ≡ true → a ≡ b) → (e : Bool) → (x == y) ≡ e → (e && pointwise ◌==◌ a b) ≡ true → x ∷ a ≡ y ∷ b
    both each true e h = let first : x ≡ y = eqb-true x y e in let others : a ≡ b = each h in cc
    both each false e h = absurd (no h)

or_known : (a b : Bool) → (a || b) ≡ true → a ≡ false → b ≡ true
or_known true b h e = absurd (no (sym e))
or_known false b h e = h

carries : (k : SyntaxKind) (x : List ℕ) → text_fits k x ≡ true → CarriesFixedText k x
carries (OfToken k) x h = λ filled. pointwise-eq x (fixed_text k) (or_known (is_empty (fixed_text k)) (pointwise ◌==◌ x (fixed_text k)) (second (not (is_empty x)) _ h) filled)
  where
    second : (a b : Bool) → (a && b) ≡ true → b ≡ true
    second true b h = h
    second false b h = absurd (no h)
carries (OfNode k) x h = tt
carries (OTHER n) x h = tt

-- ---- signs and their tokens
abbrev pub sign_tokens : Option Token → List Token
sign_tokens None = []
sign_tokens (Some t) = t ∷ []

abbrev pub sound : Meaning → Bool
sound IsNothing = false
sound (IsSign Strange) = false
sound _ = true

unstrange : sound (IsSign Strange) ≡ true → ⊥
unstrange h = no h

sign_is : (k : SyntaxKind) (x : List ℕ) (o : Option Token) → IfSome o (λ u. u ≡ record { kind = k; text = x }) → IfNone o (sign_of k x ≡ Strange) → sound (IsSign (sign_of k x)) ≡ true → sign_tokens o ≡ record { kind = k; text = x } ∷ []
sign_is k x None some none h = absurd (unstrange (subst (λ s. sound (IsSign s) ≡ true) none h))
sign_is k x (Some u) some none h = ap (λ u. u ∷ []) some

-- the token of a sign that is not strange is the token that it was read from
pub leaf_is : (k : SyntaxKind) (x : List ℕ) → sound (IsSign (leaf k x)) ≡ true → sign_tokens (token_of (leaf k x)) ≡ record { kind = k; text = x } ∷ []
leaf_is k x h = by (text_fits k x) refl h
  where
    by : (b : Bool) → text_fits k x ≡ b → sound (IsSign (cond b (sign_of k x) Strange)) ≡ true → sign_tokens (token_of (cond b (sign_of k x) Strange)) ≡ record { kind = k; text = x } ∷ []
    by false e h = absurd (unstrange h)
    by true e h = sign_is k x (token_of (sign_of k x)) (token-sign k x (carries k x e)) (strange (sign_of k x)) h

pub leaf_text : (k : SyntaxKind) (x : List ℕ) → sound (IsSign (leaf k x)) ≡ true → 1 ≤ length x
leaf_text k x h = by (text_fits k x) refl h
  where
    by : (b : Bool) → text_fits k x ≡ b → sound (IsSign (cond b (sign_of k x) Strange)) ≡ true → 1 ≤ length x
    by false e h = absurd (unstrange h)
    by true e h = filled k x e
      where
        filled : (k : SyntaxKind) (x : List ℕ) → text_fits k x ≡ true → 1 ≤ length x
        filled (OfToken k) [] e = absurd (no e)
        filled (OfToken k) (y ∷ x) e = omega arith
        filled (OfNode k) x e = absurd (no e)
        filled (OTHER n) x e = absurd (no e)

-- ---- the tokens of a meaning
abbrev pub meaning_tokens : Meaning → List Token
meaning_tokens (IsSign s) = sign_tokens (token_of s)
meaning_tokens (IsTerm t) = tokens t
meaning_tokens (IsName n) = name n ∷ []
meaning_tokens (IsSegment n) = name n ∷ []
meaning_tokens (IsPath n) = name n ∷ []
meaning_tokens (IsType n) = name n ∷ []
meaning_tokens (IsArguments args) = fixed tok.L_PAREN ∷ (argument_tokens args ++ (fixed tok.R_PAREN ∷ []))
meaning_tokens IsNothing = []

abbrev pub list_tokens : List Meaning → List Token
list_tokens [] = []
list_tokens (m ∷ ms) = meaning_tokens m ++ list_tokens ms

abbrev pub all_sound : List Meaning → Bool
all_sound [] = true
all_sound (m ∷ ms) = sound m && all_sound ms

pub sound-arguments : (args : Terms) → all_sound (argument_meanings args) ≡ true
sound-arguments NoTerms = refl
sound-arguments (Last e) = refl
sound-arguments (More e es) = sound-arguments es

pub sound-term : (t : Term) → all_sound (kid_meanings t) ≡ true
sound-term (Prefix Not e) = refl
sound-term (Prefix Dereference e) = refl
sound-term (Prefix Negate e) = refl
sound-term (Borrow true e) = refl
sound-term (Borrow false e) = refl
sound-term _ = refl

-- no node means a sign, so this says all of those that are right
pub sound-kids : (m : Meaning) → all_sound (kids_of m) ≡ true
sound-kids (IsTerm t) = sound-term t
sound-kids (IsArguments args) = sound-arguments args
sound-kids _ = refl

pub tokens-arguments : (args : Terms) → list_tokens (argument_meanings args) ≡ argument_tokens args ++ (fixed tok.R_PAREN ∷ [])
unfolding argument_tokens
tokens-arguments NoTerms = refl
tokens-arguments (Last e) = refl
tokens-arguments (More e es) = ap (λ ts. tokens e ++ (fixed tok.COMMA ∷ ts)) (tokens-arguments es) ∙ sym (append_assoc (tokens e) (fixed tok.COMMA ∷ argument_tokens es) (fixed tok.R_PAREN ∷ []))

pub tokens-term : (t : Term) → list_tokens (kid_meanings t) ≡ tokens t
unfolding tokens
tokens-term (Literal k x) = refl
tokens-term (Name n) = refl
tokens-term (Paren e) = refl
tokens-term (Field e n) = refl
tokens-term (Await e) = refl
tokens-term (Try e) = refl
tokens-term (Cast e n) = refl
tokens-term (Method e n args) = ap (λ ts. tokens e ++ (fixed tok.DOT ∷ name n ∷ fixed tok.L_PAREN ∷ ts)) (append-nil (argument_tokens args ++ (fixed tok.R_PAREN ∷ [])))
tokens-term (Call e args) = ap (λ ts. tokens e ++ (fixed tok.L_PAREN ∷ ts)) (append-nil (argument_tokens args ++ (fixed tok.R_PAREN ∷ [])))
tokens-term (Index e i) = refl
tokens-term (Prefix Not e) = ap (λ ts. fixed tok.BANG ∷ ts) (append-nil (tokens e))
tokens-term (Prefix Dereference e) = ap (λ ts. fixed tok.STAR ∷ ts) (append-nil (tokens e))
tokens-term (Prefix Negate e) = ap (λ ts. fixed tok.MINUS ∷ ts) (append-nil (tokens e))
tokens-term (Borrow true e) = ap (λ ts. fixed tok.AMP ∷ fixed tok.MUT_KW ∷ ts) (append-nil (tokens e))
tokens-term (Borrow false e) = ap (λ ts. fixed tok.AMP ∷ ts) (append-nil (tokens e))
tokens-term (Binary op l r) = ap (λ ts. tokens l ++ (fixed (operator_kind op) ∷ ts)) (append-nil (tokens r))
tokens-term RangeFull = refl
tokens-term (RangeFrom l) = refl
tokens-term (RangeTo inclusive r) = ap (λ ts. fixed (range_kind inclusive) ∷ ts) (append-nil (tokens r))
tokens-term (Range inclusive l r) = ap (λ ts. tokens l ++ (fixed (range_kind inclusive) ∷ ts)) (append-nil (tokens r))

tokens-kids : (f : Form) (ms : List Meaning) (m : Meaning) → means f ms ≡ m → is_right m ≡ true → list_tokens (kids_of m) ≡ meaning_tokens m
tokens-kids f ms IsNothing e h = absurd (no h)
tokens-kids f ms (IsSign s) e h = absurd (no_sign f ms s e)
tokens-kids f ms (IsTerm t) e h = tokens-term t
tokens-kids f ms (IsArguments args) e h = ap (λ ts. fixed tok.L_PAREN ∷ ts) (tokens-arguments args)
tokens-kids f ms _ e h = refl

pub and_both : (a b : Bool) → (a && b) ≡ true → (a ≡ true) × (b ≡ true)
and_both true b h = (refl, h)
and_both false b h = absurd (no h)

pub sound_right : (m : Meaning) → sound m ≡ true → is_right m ≡ true
sound_right IsNothing h = h
sound_right _ h = refl

pub leaves-are : (c : Forest) → all_sound (meanings c) ≡ true → leaves c ≡ list_tokens (meanings c)
leaves-are nil h = refl
leaves-are (cons (token k t) r) h = skip (leaves-are r) (is_trivia k) h
  where
    skip : (all_sound (meanings r) ≡ true → leaves r ≡ list_tokens (meanings r)) → (b : Bool) → all_sound (cond b (meanings r) (IsSign (leaf k t) ∷ meanings r)) ≡ true
        → cond b (leaves r) (record { kind = k; text = t } ∷ leaves r) ≡ list_tokens (cond b (meanings r) (IsSign (leaf k t) ∷ meanings r))
    skip each true h = each h
    skip each false h =
        let s = and_both (sound (IsSign (leaf k t))) (all_sound (meanings r)) h in
        ap (λ ts. ts ++ leaves r) (sym (leaf_is k t s.0)) ∙ ap (λ ts. sign_tokens (token_of (leaf k t)) ++ ts) (each s.1)
leaves-are (cons (node k c) r) h =
    let s = and_both (sound (means (form_of k) (meanings c))) (all_sound (meanings r)) h in
    let right = sound_right (means (form_of k) (meanings c)) s.0 in
    let told : meanings c ≡ kids_of (means (form_of k) (meanings c)) = kids_told (form_of k) (meanings c) _ refl right in
    let inner : leaves c ≡ meaning_tokens (means (form_of k) (meanings c)) =
    leaves-are c (ap all_sound told ∙ sound-kids (means (form_of k) (meanings c)))
    ∙ ap list_tokens told ∙ tokens-kids (form_of k) (meanings c) _ refl right in
    ap (λ ts. ts ++ leaves r) inner ∙ ap (λ ts. meaning_tokens (means (form_of k) (meanings c)) ++ ts) (leaves-are r s.1)

-- The tokens of a tree that shows a term, trivia left out, are the term's.
pub tokens-shown : (u : Tree) (t : Term) → meaning u ≡ IsTerm t → leaves_of u ≡ tokens t
tokens-shown (token k x) t e = absurd (let bad : meaning (token k x) ≡ IsTerm t = e in cc)
tokens-shown (node k c) t e =
    let told : meanings c ≡ kid_meanings t = kids_told (form_of k) (meanings c) (IsTerm t) e refl in
    leaves-are c (ap all_sound told ∙ sound-term t) ∙ ap list_tokens told ∙ tokens-term t
