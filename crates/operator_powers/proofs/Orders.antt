-- Where the operator of a node is that shows a term, and what its powers are.
use Rattle.std.proofs.Common.{◌≡◌, ◌≤◌, ◌<◌, ◌+◌, ◌++◌, ℕ, zero, suc, List, [], ◌∷◌, Bool, true, false, not, cond, map, length, get_or, Option, Some, None, nat_eq, refl, sym, ap, subst, ◌∙◌, arith, length-append}
use Rattle.syntax_kind.specs.declared.syntax_kind.SyntaxKind.{SyntaxKind}
use Rattle.syntax_kind.specs.declared.syntax_kind.SyntaxKind.TheVariants.{Token as OfToken}
use Rattle.syntax_kind.specs.declared.syntax_kind.token_kind.TokenKind.TheVariants as tok
use Rattle.syntax_kind.specs.Kinds.{is_trivia}
use Rattle.tree_model.specs.Tree.{Tree, node, token, Forest, nil, cons, text, forest_text}
use Rattle.operator_terms.specs.Token.{Token, fixed}
use Rattle.operator_terms.specs.Operators.{Operator, Or, And, Compare, Compute, Assign, AssignBy, Add, Subtract, Multiply, Divide, Remainder, ShiftLeft, ShiftRight, BitXor, BitOr, BitAnd, Equal, NotEqual, Less, LessOrEqual, Greater, GreaterOrEqual, operator_kind, range_kind}
use Rattle.operator_terms.specs.Term.{Term, Literal, Name, Paren, Field, Await, Try, Cast, Method, Call, Index, Prefix, Borrow, Binary, RangeFull, RangeFrom, RangeTo, Range, Terms}
use Rattle.operator_terms.specs.Sign.{Sign, Opens, OpensIndex, Dot, Question, As, To, Op, token_of}
use Rattle.operator_terms.specs.Powers.{powers, operator_powers}
use Rattle.operator_trees.specs.declared.form.Form.{Form}
use Rattle.operator_trees.specs.Forms.{form_of}
use Rattle.operator_trees.specs.Shown.{Meaning, IsSign, IsTerm, IsArguments, IsNothing, leaf, means, meanings, meaning, is_right}
use Rattle.operator_trees.specs.Shape.{kid_meanings, argument_meanings, term_form}
use Rattle.operator_trees.specs.Before.{Kid, kid_end, kids, no_kid, operator_kid}
use Rattle.operator_trees.proofs.Inversion.{no, firm-form, no_sign, term_parts, arguments_parts, term_formed, arguments_formed}
use Rattle.operator_trees.proofs.Tokens.{leaf_is, leaf_text, sound, sign_tokens}
use Rattle.operator_trees.proofs.Sides.{meanings-kids, From-kids, From-start, has_text}
use Rattle.std.proofs.lemmas.List.{length-map}
use Rattle.operator_powers.specs.declared.look.Wanted.{Wanted}
use Rattle.operator_powers.specs.declared.look.Wanted.TheVariants as want
use Rattle.operator_powers.specs.Rules.{kind_powers, wants, token_start, opening_start, operator_token, start_or, operator_start, powers_or, form_powers, is_arguments}

-- ---- the first token that is wanted, among the kids

unwanted : (w : Wanted) (k : SyntaxKind) → is_trivia k ≡ true → wants w k ≡ false
unwanted want.Dot (OfToken tok.WHITESPACE) h = refl
unwanted want.Dot (OfToken tok.COMMENT) h = refl
unwanted want.Question (OfToken tok.WHITESPACE) h = refl
unwanted want.Question (OfToken tok.COMMENT) h = refl
unwanted want.Bracket (OfToken tok.WHITESPACE) h = refl
unwanted want.Bracket (OfToken tok.COMMENT) h = refl
unwanted want.As (OfToken tok.WHITESPACE) h = refl
unwanted want.As (OfToken tok.COMMENT) h = refl
unwanted want.Amp (OfToken tok.WHITESPACE) h = refl
unwanted want.Amp (OfToken tok.COMMENT) h = refl
unwanted want.Dots (OfToken tok.WHITESPACE) h = refl
unwanted want.Dots (OfToken tok.COMMENT) h = refl
unwanted want.Opening (OfToken tok.WHITESPACE) h = refl
unwanted want.Opening (OfToken tok.COMMENT) h = refl
unwanted want.Operator (OfToken tok.WHITESPACE) h = refl
unwanted want.Operator (OfToken tok.COMMENT) h = refl
unwanted w k h = absurd (no h)

abbrev kid_token : Wanted → Tree → ℕ → Option (ℕ × SyntaxKind) → Option (ℕ × SyntaxKind)
kid_token w (token k t) s rest = cond (wants w k) (Some (s, k)) rest
kid_token w (node k c) s rest = rest

abbrev first_kid : Wanted → List Kid → Option (ℕ × SyntaxKind)
first_kid w [] = None
first_kid w (k ∷ ks) = kid_token w k.tree k.start (first_kid w ks)

token_start-kids : (w : Wanted) (i b : ℕ) (c : Forest) → token_start w c b ≡ first_kid w (kids i b c)
token_start-kids w i b nil = refl
token_start-kids w i b (cons (token k t) r) = skip (token_start-kids w (suc i) (b + length t) r) (is_trivia k) refl
  where
    skip : token_start w r (b + length t) ≡ first_kid w (kids (suc i) (b + length t) r) → (y : Bool) → is_trivia k ≡ y
        → cond (wants w k) (Some (b, k)) (token_start w r (b + length t)) ≡ first_kid w (cond y (kids (suc i) (b + length t) r) (record { number = i; start = b; tree = token k t } ∷ kids (suc i) (b + length t) r))
    skip e true h = ap (λ y. cond y (Some (b, k)) (token_start w r (b + length t))) (unwanted w k h) ∙ e
    skip e false h = ap (λ x. cond (wants w k) (Some (b, k)) x) e
token_start-kids w i b (cons (node k c) r) = token_start-kids w (suc i) (b + length (text (node k c))) r

-- a sign is that of a token, whose kind it tells
abbrev pub IsLeaf : Sign → Kid → Type 0
IsLeaf s k = (kind : SyntaxKind) × (x : List ℕ) × (k.tree ≡ token kind x) × (leaf kind x ≡ s)

leaf_of : (t : Tree) (s : Sign) → meaning t ≡ IsSign s → (kind : SyntaxKind) × (x : List ℕ) × (t ≡ token kind x) × (leaf kind x ≡ s)
leaf_of (token k x) s e = (k, x, refl, (let h : IsSign (leaf k x) ≡ IsSign s = e in cc))
leaf_of (node k c) s e = absurd (no_sign (form_of k) (meanings c) s e)

kind_is : (kind : SyntaxKind) (x : List ℕ) (s : Sign) (u : Token) → leaf kind x ≡ s → sound (IsSign s) ≡ true → token_of s ≡ Some u → kind ≡ u.kind
kind_is kind x s u e h is =
    let there : sign_tokens (token_of s) ≡ record { kind = kind; text = x } ∷ [] = subst (λ s. sign_tokens (token_of s) ≡ record { kind = kind; text = x } ∷ []) e (leaf_is kind x (ap (λ s. sound (IsSign s)) e ∙ h)) in
    let same : u ∷ [] ≡ record { kind = kind; text = x } ∷ [] = sym (ap sign_tokens is) ∙ there in
    ap kind_of_first (sym same)
  where
    kind_of_first : List Token → SyntaxKind
    kind_of_first [] = kind
    kind_of_first (t ∷ ts) = t.kind

-- a kid that means a sign whose token's kind is wanted
abbrev Found : Wanted → Sign → Token → Type 0
Found w s u = (sound (IsSign s) ≡ true) × (token_of s ≡ Some u) × (wants w u.kind ≡ true)

first_here : (w : Wanted) (k : Kid) (ks : List Kid) (s : Sign) (u : Token) → meaning k.tree ≡ IsSign s → Found w s u → first_kid w (k ∷ ks) ≡ Some (k.start, u.kind)
first_here w k ks s u e f =
    let l = leaf_of k.tree s e in
    let kind : l.0 ≡ u.kind = kind_is l.0 l.1 s u l.3 f.0 f.1 in
    ap (λ t. kid_token w t k.start (first_kid w ks)) l.2 ∙ ap (λ j. cond (wants w j) (Some (k.start, j)) (first_kid w ks)) kind ∙ ap (λ y. cond y (Some (k.start, u.kind)) (first_kid w ks)) f.2

passed : (w : Wanted) (k : Kid) (ks : List Kid) (e : Term) → meaning k.tree ≡ IsTerm e → first_kid w (k ∷ ks) ≡ first_kid w ks
passed w k ks e h = by k.tree h
  where
    by : (t : Tree) → meaning t ≡ IsTerm e → kid_token w t k.start (first_kid w ks) ≡ first_kid w ks
    by (node j c) h = refl
    by (token j x) h = absurd (let bad : IsSign (leaf j x) ≡ IsTerm e = h in cc)

abbrev starts_at : ℕ → List Kid → ℕ
starts_at n ks = (get_or ks n no_kid).start

first_zero : (w : Wanted) (ks : List Kid) (s : Sign) (u : Token) (ms : List Meaning) → map (λ k. meaning k.tree) ks ≡ IsSign s ∷ ms → Found w s u → first_kid w ks ≡ Some (starts_at 0 ks, u.kind)
first_zero w [] s u ms e f = absurd (let bad : [] ≡ IsSign s ∷ ms = e in cc)
first_zero w (k ∷ ks) s u ms e f = first_here w k ks s u (let h : meaning k.tree ∷ map (λ k. meaning k.tree) ks ≡ IsSign s ∷ ms = e in cc) f

first_one : (w : Wanted) (ks : List Kid) (e : Term) (s : Sign) (u : Token) (ms : List Meaning) → map (λ k. meaning k.tree) ks ≡ IsTerm e ∷ IsSign s ∷ ms → Found w s u → first_kid w ks ≡ Some (starts_at 1 ks, u.kind)
first_one w [] e s u ms h f = absurd (let bad : [] ≡ IsTerm e ∷ IsSign s ∷ ms = h in cc)
first_one w (k ∷ []) e s u ms h f = absurd (let bad : meaning k.tree ∷ [] ≡ IsTerm e ∷ IsSign s ∷ ms = h in cc)
first_one w (k ∷ j ∷ ks) e s u ms h f =
    passed w k (j ∷ ks) e (let g : meaning k.tree ∷ meaning j.tree ∷ map (λ k. meaning k.tree) ks ≡ IsTerm e ∷ IsSign s ∷ ms = h in cc)
    ∙ first_here w j ks s u (let g : meaning k.tree ∷ meaning j.tree ∷ map (λ k. meaning k.tree) ks ≡ IsTerm e ∷ IsSign s ∷ ms = h in cc) f

-- ---- operators

operator-powers : (op : Operator) → kind_powers (OfToken (operator_kind op)) ≡ operator_powers op
operator-powers Or = refl
operator-powers And = refl
operator-powers (Compare Equal) = refl
operator-powers (Compare NotEqual) = refl
operator-powers (Compare Less) = refl
operator-powers (Compare LessOrEqual) = refl
operator-powers (Compare Greater) = refl
operator-powers (Compare GreaterOrEqual) = refl
operator-powers (Compute Add) = refl
operator-powers (Compute Subtract) = refl
operator-powers (Compute Multiply) = refl
operator-powers (Compute Divide) = refl
operator-powers (Compute Remainder) = refl
operator-powers (Compute ShiftLeft) = refl
operator-powers (Compute ShiftRight) = refl
operator-powers (Compute BitXor) = refl
operator-powers (Compute BitOr) = refl
operator-powers (Compute BitAnd) = refl
operator-powers Assign = refl
operator-powers (AssignBy Add) = refl
operator-powers (AssignBy Subtract) = refl
operator-powers (AssignBy Multiply) = refl
operator-powers (AssignBy Divide) = refl
operator-powers (AssignBy Remainder) = refl
operator-powers (AssignBy ShiftLeft) = refl
operator-powers (AssignBy ShiftRight) = refl
operator-powers (AssignBy BitXor) = refl
operator-powers (AssignBy BitOr) = refl
operator-powers (AssignBy BitAnd) = refl

binds : (op : Operator) → not (nat_eq (operator_powers op).left 0) ≡ true
binds (Compute Add) = refl
binds (Compute Subtract) = refl
binds (Compute Multiply) = refl
binds (Compute Divide) = refl
binds (Compute Remainder) = refl
binds (Compute ShiftLeft) = refl
binds (Compute ShiftRight) = refl
binds (Compute BitXor) = refl
binds (Compute BitOr) = refl
binds (Compute BitAnd) = refl
binds _ = refl

found_operator : (op : Operator) → Found want.Operator (Op op) (fixed (operator_kind op))
found_operator op = (refl, refl, ap (λ p. not (nat_eq p.left 0)) (operator-powers op) ∙ binds op)

found_dots : (inclusive : Bool) → Found want.Dots (To inclusive) (fixed (range_kind inclusive))
found_dots true = (refl, refl, refl)
found_dots false = (refl, refl, refl)

-- the operator's token among the kids, of the forms that look for one among their children
abbrev operator_is : Term → List Kid → Option (ℕ × SyntaxKind) → Type 0
operator_is (Literal k x) ks r = r ≡ None
operator_is (Name x) ks r = r ≡ None
operator_is (Paren e) ks r = r ≡ None
operator_is (Prefix op e) ks r = r ≡ None
operator_is (Call e args) ks r = Unit {0}
operator_is (Binary op l r) ks o = o ≡ Some (starts_at 1 ks, OfToken (operator_kind op))
operator_is t ks r = (kind : SyntaxKind) × (r ≡ Some (starts_at (operator_kid t) ks, kind))

operator_found : (t : Term) (c : Forest) (b : ℕ) (ks : List Kid) → ((w : Wanted) → token_start w c b ≡ first_kid w ks) → map (λ k. meaning k.tree) ks ≡ kid_meanings t
    → operator_is t ks (operator_token (term_form t) c b)
operator_found (Literal k x) c b ks at e = refl
operator_found (Name x) c b ks at e = refl
operator_found (Paren p) c b ks at e = refl
operator_found (Prefix op p) c b ks at e = refl
operator_found (Call p args) c b ks at e = tt
operator_found (Field p n) c b ks at e = (OfToken tok.DOT, at want.Dot ∙ first_one want.Dot ks p Dot (fixed tok.DOT) _ e (refl, refl, refl))
operator_found (Await p) c b ks at e = (OfToken tok.DOT, at want.Dot ∙ first_one want.Dot ks p Dot (fixed tok.DOT) _ e (refl, refl, refl))
operator_found (Method p n args) c b ks at e = (OfToken tok.DOT, at want.Dot ∙ first_one want.Dot ks p Dot (fixed tok.DOT) _ e (refl, refl, refl))
operator_found (Try p) c b ks at e = (OfToken tok.QUESTION, at want.Question ∙ first_one want.Question ks p Question (fixed tok.QUESTION) _ e (refl, refl, refl))
operator_found (Cast p n) c b ks at e = (OfToken tok.AS_KW, at want.As ∙ first_one want.As ks p As (fixed tok.AS_KW) _ e (refl, refl, refl))
operator_found (Index p i) c b ks at e = (OfToken tok.L_BRACK, at want.Bracket ∙ first_one want.Bracket ks p OpensIndex (fixed tok.L_BRACK) _ e (refl, refl, refl))
operator_found (Borrow true p) c b ks at e = (OfToken tok.AMP, at want.Amp ∙ first_zero want.Amp ks (Op (Compute BitAnd)) (fixed tok.AMP) _ e (refl, refl, refl))
operator_found (Borrow false p) c b ks at e = (OfToken tok.AMP, at want.Amp ∙ first_zero want.Amp ks (Op (Compute BitAnd)) (fixed tok.AMP) _ e (refl, refl, refl))
operator_found (Binary op l r) c b ks at e = at want.Operator ∙ first_one want.Operator ks l (Op op) (fixed (operator_kind op)) _ e (found_operator op)
operator_found RangeFull c b ks at e = (OfToken tok.DOT2, at want.Dots ∙ first_zero want.Dots ks (To false) (fixed tok.DOT2) _ e (refl, refl, refl))
operator_found (RangeFrom l) c b ks at e = (OfToken tok.DOT2, at want.Dots ∙ first_one want.Dots ks l (To false) (fixed tok.DOT2) _ e (refl, refl, refl))
operator_found (RangeTo inclusive r) c b ks at e = (OfToken (range_kind inclusive), at want.Dots ∙ first_zero want.Dots ks (To inclusive) (fixed (range_kind inclusive)) _ e (found_dots inclusive))
operator_found (Range inclusive l r) c b ks at e = (OfToken (range_kind inclusive), at want.Dots ∙ first_one want.Dots ks l (To inclusive) (fixed (range_kind inclusive)) _ e (found_dots inclusive))

-- the powers of a node that shows a term are the term's
powers_found : (t : Term) (c : Forest) (b : ℕ) (ks : List Kid) → operator_is t ks (operator_token (term_form t) c b) → form_powers (term_form t) c b ≡ powers t
powers_found (Binary op l r) c b ks h = ap powers_or h ∙ operator-powers op
powers_found (Borrow true p) c b ks h = refl
powers_found (Borrow false p) c b ks h = refl
powers_found _ c b ks h = refl

pub powers_shown : (f : Form) (c : Forest) (t : Term) (b : ℕ) → means f (meanings c) ≡ IsTerm t → form_powers f c b ≡ powers t
powers_shown f c t b shows =
    ap (λ f. form_powers f c b) (term_formed f (meanings c) t shows)
    ∙ powers_found t c b (kids 0 b c) (operator_found t c b (kids 0 b c) (λ w. token_start-kids w 0 b c) (meanings-kids 0 b c ∙ term_parts f (meanings c) t shows))

-- ---- where operators start

pub within : (i b : ℕ) (c : Forest) (j : ℕ) → j < length (kids i b c) → kid_end (get_or (kids i b c) j no_kid) ≤ b + length (forest_text c)
within i b nil j h = absurd (omega arith)
within i b (cons (token k t) r) j h = skip (within (suc i) (b + length t) r) (is_trivia k) j h
  where
    skip : ((j : ℕ) → j < length (kids (suc i) (b + length t) r) → kid_end (get_or (kids (suc i) (b + length t) r) j no_kid) ≤ (b + length t) + length (forest_text r))
        → (y : Bool) (j : ℕ) → j < length (cond y (kids (suc i) (b + length t) r) (record { number = i; start = b; tree = token k t } ∷ kids (suc i) (b + length t) r))
        → kid_end (get_or (cond y (kids (suc i) (b + length t) r) (record { number = i; start = b; tree = token k t } ∷ kids (suc i) (b + length t) r)) j no_kid) ≤ b + length (t ++ forest_text r)
    skip each true j h = omega (arith, each j h, length-append t (forest_text r))
    skip each false zero h = omega (arith, length-append t (forest_text r))
    skip each false (suc j) h = omega (arith, each j (omega arith), length-append t (forest_text r))
within i b (cons (node k c) r) zero h = omega (arith, length-append (forest_text c) (forest_text r))
within i b (cons (node k c) r) (suc j) h = omega (arith, within (suc i) (b + length (forest_text c)) r j (omega arith), length-append (forest_text c) (forest_text r))

pub sign_has_text : (k : Kid) (s : Sign) → meaning k.tree ≡ IsSign s → sound (IsSign s) ≡ true → k.start < kid_end k
sign_has_text k s e h =
    let l = leaf_of k.tree s e in
    let long : 1 ≤ length l.1 = leaf_text l.0 l.1 (ap (λ s. sound (IsSign s)) l.3 ∙ h) in
    let same : length (text k.tree) ≡ length l.1 = ap (λ t. length (text t)) l.2 in
    omega arith

pub get_meaning : (ks : List Kid) (n : ℕ) → n < length ks → get_or (map (λ k. meaning k.tree) ks) n IsNothing ≡ meaning (get_or ks n no_kid).tree
get_meaning [] n h = absurd (omega arith)
get_meaning (k ∷ ks) zero h = refl
get_meaning (k ∷ ks) (suc n) h = get_meaning ks n (omega arith)

-- the first list of arguments among the kids
abbrev kid_list : Tree → ℕ → Option (ℕ × SyntaxKind) → Option (ℕ × SyntaxKind)
kid_list (token k t) s rest = rest
kid_list (node k c) s rest = cond (is_arguments (form_of k)) (token_start want.Opening c s) rest

abbrev first_list : List Kid → Option (ℕ × SyntaxKind)
first_list [] = None
first_list (k ∷ ks) = kid_list k.tree k.start (first_list ks)

opening-kids : (i b : ℕ) (c : Forest) → opening_start c b ≡ first_list (kids i b c)
opening-kids i b nil = refl
opening-kids i b (cons (token k t) r) = skip (opening-kids (suc i) (b + length t) r) (is_trivia k)
  where
    skip : opening_start r (b + length t) ≡ first_list (kids (suc i) (b + length t) r) → (y : Bool)
        → opening_start r (b + length t) ≡ first_list (cond y (kids (suc i) (b + length t) r) (record { number = i; start = b; tree = token k t } ∷ kids (suc i) (b + length t) r))
    skip e true = e
    skip e false = e
opening-kids i b (cons (node k c) r) = ap (λ x. cond (is_arguments (form_of k)) (token_start want.Opening c b) x) (opening-kids (suc i) (b + length (text (node k c))) r)

no_list : (t : Term) → is_arguments (term_form t) ≡ false
no_list (Paren e) = refl
no_list _ = refl

-- the `(` of a call's arguments starts in their list
abbrev OpensIn : Kid → Option (ℕ × SyntaxKind) → Type 0
OpensIn k r = (o : ℕ) × (kind : SyntaxKind) × (r ≡ Some (o, kind)) × (k.start ≤ o) × (o < kid_end k)

opens_in : (j : Kid) (ks : List Kid) (args : Terms) → meaning j.tree ≡ IsArguments args → OpensIn j (first_list (j ∷ ks))
opens_in j ks args e = by j.tree refl e
  where
    by : (t : Tree) → j.tree ≡ t → meaning t ≡ IsArguments args → OpensIn j (kid_list t j.start (first_list ks))
    by (token k x) is e = absurd (let bad : IsSign (leaf k x) ≡ IsArguments args = e in cc)
    by (node k c) is e =
        let formed : is_arguments (form_of k) ≡ true = ap is_arguments (arguments_formed (form_of k) (meanings c) args e) in
        let inner : map (λ k. meaning k.tree) (kids 0 j.start c) ≡ IsSign Opens ∷ argument_meanings args = meanings-kids 0 j.start c ∙ arguments_parts (form_of k) (meanings c) args e in
        let found = token_start-kids want.Opening 0 j.start c ∙ first_zero want.Opening (kids 0 j.start c) Opens (fixed tok.L_PAREN) _ inner (refl, refl, refl) in
        let some : 0 < length (kids 0 j.start c) = by_list (kids 0 j.start c) inner in
        let here : meaning (get_or (kids 0 j.start c) 0 no_kid).tree ≡ IsSign Opens = sym (get_meaning (kids 0 j.start c) 0 some) ∙ ap (λ ms. get_or ms 0 IsNothing) inner in (
          starts_at 0 (kids 0 j.start c),
          OfToken tok.L_PAREN,
          ap (λ y. cond y (token_start want.Opening c j.start) (first_list ks)) formed ∙ found,
          From-start j.start (kids 0 j.start c) 0 (From-kids 0 j.start c) some,
          omega (arith, sign_has_text (get_or (kids 0 j.start c) 0 no_kid) Opens here refl, within 0 j.start c 0 some, ap (λ t. length (text t)) is),
        )
      where
        by_list : (ks : List Kid) → map (λ k. meaning k.tree) ks ≡ IsSign Opens ∷ argument_meanings args → 0 < length ks
        by_list [] e = absurd (let bad : [] ≡ IsSign Opens ∷ argument_meanings args = e in cc)
        by_list (k ∷ ks) e = omega arith

passed_list : (k : Kid) (ks : List Kid) (e : Term) → meaning k.tree ≡ IsTerm e → first_list (k ∷ ks) ≡ first_list ks
passed_list k ks e h = by k.tree h
  where
    by : (t : Tree) → meaning t ≡ IsTerm e → kid_list t k.start (first_list ks) ≡ first_list ks
    by (node j c) h = ap (λ y. cond y (token_start want.Opening c k.start) (first_list ks)) (ap is_arguments (term_formed (form_of j) (meanings c) e h) ∙ no_list e)
    by (token j x) h = absurd (let bad : IsSign (leaf j x) ≡ IsTerm e = h in cc)

call_opens : (ks : List Kid) (e : Term) (args : Terms) → map (λ k. meaning k.tree) ks ≡ IsTerm e ∷ IsArguments args ∷ [] → OpensIn (get_or ks 1 no_kid) (first_list ks)
call_opens [] e args h = absurd (let bad : [] ≡ IsTerm e ∷ IsArguments args ∷ [] = h in cc)
call_opens (k ∷ []) e args h = absurd (let bad : meaning k.tree ∷ [] ≡ IsTerm e ∷ IsArguments args ∷ [] = h in cc)
call_opens (k ∷ j ∷ ks) e args h =
    let g : meaning k.tree ∷ meaning j.tree ∷ map (λ k. meaning k.tree) ks ≡ IsTerm e ∷ IsArguments args ∷ [] = h in
    subst (OpensIn j) (sym (passed_list k (j ∷ ks) e (cc))) (opens_in j ks args (cc))

-- where the operator starts: where the node does, inside the list of arguments, or where the
-- operator's kid does
abbrev pub StartIs : Term → List Kid → ℕ → ℕ → Type 0
StartIs (Literal k x) ks b o = o ≡ b
StartIs (Name x) ks b o = o ≡ b
StartIs (Paren e) ks b o = o ≡ b
StartIs (Prefix op e) ks b o = o ≡ b
StartIs (Call e args) ks b o = (starts_at 1 ks ≤ o) × (o < kid_end (get_or ks 1 no_kid))
StartIs t ks b o = o ≡ starts_at (operator_kid t) ks

start_found : (t : Term) (c : Forest) (b : ℕ) → map (λ k. meaning k.tree) (kids 0 b c) ≡ kid_meanings t → operator_is t (kids 0 b c) (operator_token (term_form t) c b) → StartIs t (kids 0 b c) b (operator_start (term_form t) c b)
start_found (Call e args) c b h is =
    let opens = subst (OpensIn (get_or (kids 0 b c) 1 no_kid)) (sym (opening-kids 0 b c)) (call_opens (kids 0 b c) e args h) in
    let at : start_or b (opening_start c b) ≡ opens.0 = ap (start_or b) opens.2 in
    (omega (arith, opens.3, at), omega (arith, opens.4, at))
start_found (Binary op l r) c b h is = ap (start_or b) is
start_found (Literal k x) c b h is = refl
start_found (Name x) c b h is = refl
start_found (Paren p) c b h is = refl
start_found (Prefix op p) c b h is = refl
start_found (Borrow true p) c b h is = ap (start_or b) is.1
start_found (Borrow false p) c b h is = ap (start_or b) is.1
start_found t c b h is = ap (start_or b) is.1

pub start_shown : (f : Form) (c : Forest) (t : Term) (b : ℕ) → means f (meanings c) ≡ IsTerm t → StartIs t (kids 0 b c) b (operator_start f c b)
start_shown f c t b shows =
    let parts : map (λ k. meaning k.tree) (kids 0 b c) ≡ kid_meanings t = meanings-kids 0 b c ∙ term_parts f (meanings c) t shows in
    subst (λ f. StartIs t (kids 0 b c) b (operator_start f c b)) (sym (term_formed f (meanings c) t shows))
    (start_found t c b parts (operator_found t c b (kids 0 b c) (λ w. token_start-kids w 0 b c) parts))

-- ---- the operator of a node lies inside it

abbrev Inside : ℕ → ℕ → ℕ → Type 0
Inside b size o = (b ≤ o) × (o < b + size)

front_inside : (b size o : ℕ) → 1 ≤ size → o ≡ b → Inside b size o
front_inside b size o h e = (omega arith, omega arith)

kid_inside : (c : Forest) (b n j o : ℕ) (s : Sign) (ms : List Meaning) → map (λ k. meaning k.tree) (kids 0 b c) ≡ ms → get_or ms j IsNothing ≡ IsSign s → sound (IsSign s) ≡ true → j < length ms → o ≡ starts_at j (kids 0 b c) → Inside b (length (forest_text c)) o
kid_inside c b n j o s ms parts is h lt at =
    let in_list : j < length (kids 0 b c) = omega (arith, ap length parts, length-map (kids 0 b c) (λ x. meaning x.tree)) in
    let here : meaning (get_or (kids 0 b c) j no_kid).tree ≡ IsSign s = sym (get_meaning (kids 0 b c) j in_list) ∙ ap (λ ms. get_or ms j IsNothing) parts ∙ is in
    (omega (arith, From-start b (kids 0 b c) j (From-kids 0 b c) in_list), omega (arith, sign_has_text (get_or (kids 0 b c) j no_kid) s here h, within 0 b c j in_list))

call_inside : (c : Forest) (b o : ℕ) (ms : List Meaning) → map (λ k. meaning k.tree) (kids 0 b c) ≡ ms → 1 < length ms → starts_at 1 (kids 0 b c) ≤ o → o < kid_end (get_or (kids 0 b c) 1 no_kid) → Inside b (length (forest_text c)) o
call_inside c b o ms parts lt g h =
    let in_list : 1 < length (kids 0 b c) = omega (arith, ap length parts, length-map (kids 0 b c) (λ x. meaning x.tree)) in
    (omega (arith, From-start b (kids 0 b c) 1 (From-kids 0 b c) in_list), omega (arith, within 0 b c 1 in_list))

inside_of : (t : Term) (c : Forest) (b o : ℕ) → 1 ≤ length (forest_text c) → map (λ k. meaning k.tree) (kids 0 b c) ≡ kid_meanings t → StartIs t (kids 0 b c) b o → Inside b (length (forest_text c)) o
inside_of (Literal k x) c b o h parts at = front_inside b _ o h at
inside_of (Name x) c b o h parts at = front_inside b _ o h at
inside_of (Paren e) c b o h parts at = front_inside b _ o h at
inside_of (Prefix op e) c b o h parts at = front_inside b _ o h at
inside_of (Call e args) c b o h parts at = call_inside c b o _ parts (omega arith) at.0 at.1
inside_of (Field e n) c b o h parts at = kid_inside c b 3 1 o Dot _ parts refl refl (omega arith) at
inside_of (Await e) c b o h parts at = kid_inside c b 3 1 o Dot _ parts refl refl (omega arith) at
inside_of (Try e) c b o h parts at = kid_inside c b 2 1 o Question _ parts refl refl (omega arith) at
inside_of (Cast e n) c b o h parts at = kid_inside c b 3 1 o As _ parts refl refl (omega arith) at
inside_of (Method e n args) c b o h parts at = kid_inside c b 4 1 o Dot _ parts refl refl (omega arith) at
inside_of (Index e i) c b o h parts at = kid_inside c b 4 1 o OpensIndex _ parts refl refl (omega arith) at
inside_of (Borrow true e) c b o h parts at = kid_inside c b 3 0 o (Op (Compute BitAnd)) _ parts refl refl (omega arith) at
inside_of (Borrow false e) c b o h parts at = kid_inside c b 2 0 o (Op (Compute BitAnd)) _ parts refl refl (omega arith) at
inside_of (Binary op l r) c b o h parts at = kid_inside c b 3 1 o (Op op) _ parts refl refl (omega arith) at
inside_of RangeFull c b o h parts at = kid_inside c b 1 0 o (To false) _ parts refl refl (omega arith) at
inside_of (RangeFrom l) c b o h parts at = kid_inside c b 2 1 o (To false) _ parts refl refl (omega arith) at
inside_of (RangeTo inclusive r) c b o h parts at = kid_inside c b 2 0 o (To inclusive) _ parts refl refl (omega arith) at
inside_of (Range inclusive l r) c b o h parts at = kid_inside c b 3 1 o (To inclusive) _ parts refl refl (omega arith) at

pub node_order : (f : Form) (c : Forest) (t : Term) (b : ℕ) → means f (meanings c) ≡ IsTerm t → Inside b (length (forest_text c)) (operator_start f c b)
node_order f c t b shows =
    inside_of t c b (operator_start f c b) (has_text c (firm-form f (meanings c) (ap is_right shows))) (meanings-kids 0 b c ∙ term_parts f (meanings c) t shows) (start_shown f c t b shows)
