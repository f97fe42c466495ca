-- What shows a term has the term's precedence.
use Rattle.std.proofs.Common.{◌≡◌, ◌+◌, ◌++◌, ℕ, suc, List, [], ◌∷◌, Bool, true, false, cond, map, Option, Some, None, option_map, refl, sym, ap, subst, ◌∙◌, arith}
use Rattle.std.specs.List.{filter, find, range_with_len}
use Rattle.syntax_kind.specs.Kinds.{is_trivia}
use Rattle.syntax_kind.specs.declared.syntax_kind.SyntaxKind.{SyntaxKind}
use Rattle.syntax_kind.specs.declared.syntax_kind.SyntaxKind.TheVariants.{Node, Token as OfToken}
use Rattle.syntax_kind.specs.declared.syntax_kind.node_kind.NodeKind.TheVariants as kind
use Rattle.syntax_kind.specs.declared.syntax_kind.token_kind.TokenKind.TheVariants as tok
use Rattle.tree_model.specs.Tree.{Tree, node, token, Forest, nil, cons, kind_of, is_token, child_at, child_count, forest_of_children}
use Rattle.tree_model.specs.Cursor.{Cursor, focus, at_place, at_token, children_of}
use Rattle.ras_node.specs.Nodes.{kind_at, has_kind_in}
use Rattle.ras_node.specs.PartSets.{is_binary_operator}
use Rattle.ras_node.specs.Searches.{first_token}
use Rattle.operator_terms.specs.Operators.{Operator, Or, And, Compare, Compute, Assign, AssignBy, Add, Subtract, Multiply, Divide, Remainder, ShiftLeft, ShiftRight, BitXor, BitOr, BitAnd, Equal, NotEqual, Less, LessOrEqual, Greater, GreaterOrEqual, operator_kind}
use Rattle.operator_terms.specs.Precedence.{Precedence, precedence}
use Rattle.operator_terms.specs.Precedence as of_term
use Rattle.operator_terms.specs.Sign.{Op, token_of}
use Rattle.operator_terms.specs.Term.{Term, Paren, Binary}
use Rattle.operator_terms.specs.Token.{Token}
use Rattle.operator_trees.specs.declared.form.Form.{Form}
use Rattle.operator_trees.specs.declared.form.Form.TheVariants as form
use Rattle.operator_trees.specs.Forms.{form_of}
use Rattle.operator_trees.specs.Shape.{term_form}
use Rattle.operator_trees.specs.Shown.{Meaning, IsSign, IsTerm, leaf, means, meanings, meaning}
use Rattle.operator_trees.proofs.Inversion.{no, no_sign}
use Rattle.operator_trees.proofs.Operands.{told_parts}
use Rattle.operator_trees.proofs.Tokens.{leaf_is, sound, sign_tokens}
use Rattle.operator_powers.specs.Rules.{form_at, is_term_form}
use Rattle.operator_powers.proofs.Cursors.{form_told, subtree-child}
use Rattle.ras_operators.specs.declared.level.ExprPrecedence.{ExprPrecedence}
use Rattle.ras_operators.specs.declared.level.ExprPrecedence.TheVariants as level
use Rattle.ras_operators.specs.Levels.{as_precedence, operator_precedence, binary_precedence, precedence_at, precedence_of}

-- ---- the kind of the first token child of some kinds, among trees and among cursors

abbrev kind_here : (SyntaxKind → Bool) → Tree → Option SyntaxKind → Option SyntaxKind
kind_here kinds u rest = cond (is_token u) (cond (kinds (kind_of u)) (Some (kind_of u)) rest) rest

abbrev first_kind : (SyntaxKind → Bool) → Forest → Option SyntaxKind
first_kind kinds nil = None
first_kind kinds (cons u r) = kind_here kinds u (first_kind kinds r)

one_cursor : (kinds : SyntaxKind → Bool) (x : Cursor) (l : List Cursor) → option_map kind_at (first_token kinds (x ∷ l)) ≡ kind_here kinds (focus x) (option_map kind_at (first_token kinds l))
one_cursor kinds x l = by (at_token x)
  where
    inside : (b : Bool) → option_map kind_at (cond b (Some x) (find (has_kind_in kinds) (filter at_token l))) ≡ cond b (Some (kind_at x)) (option_map kind_at (find (has_kind_in kinds) (filter at_token l)))
    inside true = refl
    inside false = refl

    by : (b : Bool) → option_map kind_at (find (has_kind_in kinds) (cond b (x ∷ filter at_token l) (filter at_token l)))
        ≡ cond b (cond (kinds (kind_at x)) (Some (kind_at x)) (option_map kind_at (find (has_kind_in kinds) (filter at_token l)))) (option_map kind_at (find (has_kind_in kinds) (filter at_token l)))
    by true = inside (kinds (kind_at x))
    by false = refl

-- n children of a node, from number k on
abbrev pub child_cursors : Cursor → ℕ → ℕ → List Cursor
child_cursors d k n = map (at_place d) (map (λ i. d.place ++ i ∷ []) (range_with_len k n))

kind_found : (kinds : SyntaxKind → Bool) (d : Cursor) (k : ℕ) (c : Forest) → ((j : ℕ) → focus (at_place d (d.place ++ (k + j) ∷ [])) ≡ child_at c j)
    → option_map kind_at (first_token kinds (child_cursors d k (child_count c))) ≡ first_kind kinds c
kind_found kinds d k nil same = refl
kind_found kinds d k (cons u r) same =
    let first : k ≡ k + 0 = omega arith in
    let here : focus (at_place d (d.place ++ k ∷ [])) ≡ u = ap (λ i. focus (at_place d (d.place ++ i ∷ []))) first ∙ same 0 in
    let on : k + 1 ≡ suc k = omega arith in
    one_cursor kinds (at_place d (d.place ++ k ∷ [])) (child_cursors d (k + 1) (child_count r))
    ∙ ap (λ v. kind_here kinds v (option_map kind_at (first_token kinds (child_cursors d (k + 1) (child_count r))))) here
    ∙ ap (λ i. kind_here kinds u (option_map kind_at (first_token kinds (child_cursors d i (child_count r))))) on
    ∙ ap (kind_here kinds u) (kind_found kinds d (suc k) r (λ j. let later : suc k + j ≡ k + suc j = omega arith in ap (λ i. focus (at_place d (d.place ++ i ∷ []))) later ∙ same (suc j)))

pub child_kind : (kinds : SyntaxKind → Bool) (d : Cursor) → option_map kind_at (first_token kinds (children_of d)) ≡ first_kind kinds (forest_of_children (focus d))
child_kind kinds d = kind_found kinds d 0 (forest_of_children (focus d)) (λ j. let here : 0 + j ≡ j = omega arith in ap (λ i. focus (at_place d (d.place ++ i ∷ []))) here ∙ subtree-child d.tree d.place j)

-- ---- operators

no_operator : (k : SyntaxKind) → is_trivia k ≡ true → is_binary_operator k ≡ false
no_operator (OfToken tok.WHITESPACE) h = refl
no_operator (OfToken tok.COMMENT) h = refl
no_operator k h = absurd (no h)

abbrev OperatorKnown : Operator → Type 0
OperatorKnown op = (is_binary_operator (OfToken (operator_kind op)) ≡ true) × (as_precedence (operator_precedence (OfToken (operator_kind op))) ≡ of_term.operator_precedence op)

known : (op : Operator) → OperatorKnown op
known Or = (refl, refl)
known And = (refl, refl)
known (Compare Equal) = (refl, refl)
known (Compare NotEqual) = (refl, refl)
known (Compare Less) = (refl, refl)
known (Compare LessOrEqual) = (refl, refl)
known (Compare Greater) = (refl, refl)
known (Compare GreaterOrEqual) = (refl, refl)
known (Compute Add) = (refl, refl)
known (Compute Subtract) = (refl, refl)
known (Compute Multiply) = (refl, refl)
known (Compute Divide) = (refl, refl)
known (Compute Remainder) = (refl, refl)
known (Compute ShiftLeft) = (refl, refl)
known (Compute ShiftRight) = (refl, refl)
known (Compute BitXor) = (refl, refl)
known (Compute BitOr) = (refl, refl)
known (Compute BitAnd) = (refl, refl)
known Assign = (refl, refl)
known (AssignBy Add) = (refl, refl)
known (AssignBy Subtract) = (refl, refl)
known (AssignBy Multiply) = (refl, refl)
known (AssignBy Divide) = (refl, refl)
known (AssignBy Remainder) = (refl, refl)
known (AssignBy ShiftLeft) = (refl, refl)
known (AssignBy ShiftRight) = (refl, refl)
known (AssignBy BitXor) = (refl, refl)
known (AssignBy BitOr) = (refl, refl)
known (AssignBy BitAnd) = (refl, refl)

-- the kind of a token that means an operator
operator_token : (k : SyntaxKind) (x : List ℕ) (op : Operator) → leaf k x ≡ Op op → k ≡ OfToken (operator_kind op)
operator_token k x op e =
    let there : sign_tokens (token_of (Op op)) ≡ record { kind = k; text = x } ∷ [] = subst (λ s. sign_tokens (token_of s) ≡ record { kind = k; text = x } ∷ []) e (leaf_is k x (ap (λ s. sound (IsSign s)) e)) in
    ap kind_of_first (sym there)
  where
    kind_of_first : List Token → SyntaxKind
    kind_of_first [] = k
    kind_of_first (t ∷ ts) = t.kind

head_is : (m n : Meaning) (ms ns : List Meaning) → m ∷ ms ≡ n ∷ ns → (m ≡ n) × (ms ≡ ns)
head_is m n ms ns e = (cc, cc)

sign_first : (c : Forest) (op : Operator) (ms : List Meaning) → meanings c ≡ IsSign (Op op) ∷ ms → first_kind is_binary_operator c ≡ Some (OfToken (operator_kind op))
sign_first nil op ms h = absurd (let bad : [] ≡ IsSign (Op op) ∷ ms = h in cc)
sign_first (cons (token k x) r) op ms h = skip (sign_first r op ms) (is_trivia k) refl h
  where
    skip : (meanings r ≡ IsSign (Op op) ∷ ms → first_kind is_binary_operator r ≡ Some (OfToken (operator_kind op))) → (y : Bool) → is_trivia k ≡ y
        → cond y (meanings r) (IsSign (leaf k x) ∷ meanings r) ≡ IsSign (Op op) ∷ ms
        → cond (is_binary_operator k) (Some k) (first_kind is_binary_operator r) ≡ Some (OfToken (operator_kind op))
    skip each true e h = ap (λ b. cond b (Some k) (first_kind is_binary_operator r)) (no_operator k e) ∙ each h
    skip each false e h =
        let sign : IsSign (leaf k x) ≡ IsSign (Op op) = (head_is (IsSign (leaf k x)) (IsSign (Op op)) (meanings r) ms h).0 in
        let same : k ≡ OfToken (operator_kind op) = operator_token k x op cc in
        ap (λ j. cond (is_binary_operator j) (Some j) (first_kind is_binary_operator r)) same
        ∙ ap (λ b. cond b (Some (OfToken (operator_kind op))) (first_kind is_binary_operator r)) (known op).0
sign_first (cons (node k c) r) op ms h = absurd (no_sign (form_of k) (meanings c) (Op op) (head_is (means (form_of k) (meanings c)) (IsSign (Op op)) (meanings r) ms h).0)

operator_first : (c : Forest) (l : Term) (op : Operator) (ms : List Meaning) → meanings c ≡ IsTerm l ∷ (IsSign (Op op) ∷ ms) → first_kind is_binary_operator c ≡ Some (OfToken (operator_kind op))
operator_first nil l op ms h = absurd (let bad : [] ≡ IsTerm l ∷ (IsSign (Op op) ∷ ms) = h in cc)
operator_first (cons (token k x) r) l op ms h = skip (operator_first r l op ms) (is_trivia k) refl h
  where
    skip : (meanings r ≡ IsTerm l ∷ (IsSign (Op op) ∷ ms) → first_kind is_binary_operator r ≡ Some (OfToken (operator_kind op))) → (y : Bool) → is_trivia k ≡ y
        → cond y (meanings r) (IsSign (leaf k x) ∷ meanings r) ≡ IsTerm l ∷ (IsSign (Op op) ∷ ms)
        → cond (is_binary_operator k) (Some k) (first_kind is_binary_operator r) ≡ Some (OfToken (operator_kind op))
    skip each true e h = ap (λ b. cond b (Some k) (first_kind is_binary_operator r)) (no_operator k e) ∙ each h
    skip each false e h = absurd (let bad : IsSign (leaf k x) ∷ meanings r ≡ IsTerm l ∷ (IsSign (Op op) ∷ ms) = h in cc)
operator_first (cons (node k c) r) l op ms h = sign_first r op ms (head_is (means (form_of k) (meanings c)) (IsTerm l) (meanings r) (IsSign (Op op) ∷ ms) h).1

abbrev by_kind : Option SyntaxKind → ExprPrecedence
by_kind None = level.Unambiguous
by_kind (Some k) = operator_precedence k

binary_by_kind : (o : Option Cursor) → binary_precedence o ≡ by_kind (option_map kind_at o)
binary_by_kind None = refl
binary_by_kind (Some c) = refl

-- ---- precedences, by forms

abbrev told : Form → Cursor → Precedence
told form.Binary c = as_precedence (binary_precedence (first_token is_binary_operator (children_of c)))
told form.Range c = of_term.Range
told form.Cast c = of_term.Cast
told form.Prefix c = of_term.Prefix
told form.Borrow c = of_term.Prefix
told form.Field c = of_term.Postfix
told form.Await c = of_term.Postfix
told form.Try c = of_term.Postfix
told form.Method c = of_term.Postfix
told form.Call c = of_term.Postfix
told form.Index c = of_term.Postfix
told _ c = of_term.Unambiguous

told_by_kind : (k : SyntaxKind) (c : Cursor) → is_term_form (form_of k) ≡ true → as_precedence (precedence_at k c) ≡ told (form_of k) c
told_by_kind (Node kind.LITERAL) c h = refl
told_by_kind (Node kind.PATH_EXPR) c h = refl
told_by_kind (Node kind.PAREN_EXPR) c h = refl
told_by_kind (Node kind.PREFIX_EXPR) c h = refl
told_by_kind (Node kind.REF_EXPR) c h = refl
told_by_kind (Node kind.BIN_EXPR) c h = refl
told_by_kind (Node kind.RANGE_EXPR) c h = refl
told_by_kind (Node kind.FIELD_EXPR) c h = refl
told_by_kind (Node kind.AWAIT_EXPR) c h = refl
told_by_kind (Node kind.TRY_EXPR) c h = refl
told_by_kind (Node kind.CAST_EXPR) c h = refl
told_by_kind (Node kind.INDEX_EXPR) c h = refl
told_by_kind (Node kind.CALL_EXPR) c h = refl
told_by_kind (Node kind.METHOD_CALL_EXPR) c h = refl
told_by_kind _ c h = absurd (no h)

is_form : (t : Term) → is_term_form (term_form t) ≡ true
is_form (Paren e) = refl
is_form _ = refl

told_of_term : (c : Cursor) (t : Term) → meaning (focus c) ≡ IsTerm t → told (term_form t) c ≡ precedence t
told_of_term c (Binary op l r) shows =
    ap as_precedence (binary_by_kind (first_token is_binary_operator (children_of c)))
    ∙ ap (λ o. as_precedence (by_kind o)) (child_kind is_binary_operator c ∙ operator_first (forest_of_children (focus c)) l op (IsTerm r ∷ []) (told_parts (focus c) (Binary op l r) shows))
    ∙ (known op).1
told_of_term c _ shows = refl

pub precedence_shown : (c : Cursor) (t : Term) → meaning (focus c) ≡ IsTerm t → as_precedence (precedence_of c) ≡ precedence t
precedence_shown c t shows =
    let form : form_at c ≡ term_form t = form_told (focus c) t shows in
    told_by_kind (kind_at c) c (ap is_term_form form ∙ is_form t) ∙ ap (λ f. told f c) form ∙ told_of_term c t shows
