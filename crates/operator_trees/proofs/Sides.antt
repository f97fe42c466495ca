-- Children that are no trivia: what they mean, which parts are there, and on which side of the
-- operator.
use Rattle.std.proofs.Common.{◌≡◌, ◌≤◌, ◌<◌, ◌+◌, ◌++◌, ℕ, zero, suc, List, [], ◌∷◌, Bool, true, false, ◌&&◌, cond, map, length, get_or, Option, Some, None, IfSome, nat_lt, nat_le, refl, sym, ap, subst, ◌∙◌, arith, length-append}
use Rattle.syntax_kind.specs.declared.syntax_kind.SyntaxKind.{SyntaxKind}
use Rattle.syntax_kind.specs.declared.syntax_kind.SyntaxKind.TheVariants.{Token as OfToken, Node as OfNode, OTHER}
use Rattle.syntax_kind.specs.Kinds.{is_trivia}
use Rattle.tree_model.specs.Tree.{Tree, node, token, Forest, nil, cons, text, forest_text}
use Rattle.operator_terms.specs.Operators.{Dereference, Not, Negate}
use Rattle.operator_terms.specs.Term.{Term, Literal, Name, Paren, Field, Await, Try, Cast, Method, Call, Index, Prefix, Borrow, Binary, RangeFull, RangeFrom, RangeTo, Range, Terms, NoTerms, Last, More}
use Rattle.operator_terms.specs.Sign.{Opens, Strange, sign_of}
use Rattle.operator_terms.specs.Places.{Part, part, argument}
use Rattle.operator_trees.specs.declared.form.Form.{Form}
use Rattle.operator_trees.specs.Forms.{form_of}
use Rattle.operator_trees.specs.Shown.{Meaning, IsSign, IsTerm, IsNothing, text_fits, leaf, means, meanings, meaning, is_right}
use Rattle.operator_trees.specs.Shape.{kid_meanings, argument_meanings}
use Rattle.operator_trees.specs.Before.{stands_before, Kid, kid_end, kids, no_kid, kid_at, From, operator_kid, part_kid, is_direct, argument_index, argument_kid}
use Rattle.operator_terms.specs.Powers.{part_before}
use Rattle.std.proofs.lemmas.List.{length-map}
use Rattle.operator_trees.proofs.Inversion.{no, firm, firm-form, term_parts}

-- what the kids mean
pub meanings-kids : (i b : ℕ) (c : Forest) → map (λ k. meaning k.tree) (kids i b c) ≡ meanings c
meanings-kids i b nil = refl
meanings-kids i b (cons (token k t) r) = skip (meanings-kids (suc i) (b + length t) r) (is_trivia k)
  where
    skip : map (λ k. meaning k.tree) (kids (suc i) (b + length t) r) ≡ meanings r → (y : Bool) → map (λ k. meaning k.tree) (cond y (kids (suc i) (b + length t) r) (record { number = i; start = b; tree = token k t } ∷ kids (suc i) (b + length t) r)) ≡ cond y (meanings r) (IsSign (leaf k t) ∷ meanings r)
    skip e true = e
    skip e false = ap (λ ms. IsSign (leaf k t) ∷ ms) e
meanings-kids i b (cons (node k c) r) = ap (λ ms. means (form_of k) (meanings c) ∷ ms) (meanings-kids (suc i) (b + length (text (node k c))) r)

-- they are in order
From-less : (a b : ℕ) (ks : List Kid) → a ≤ b → From b ks → From a ks
From-less a b [] h w = tt
From-less a b (k ∷ ks) h w = (omega (arith, h, w.0), w.1)

pub From-kids : (i b : ℕ) (c : Forest) → From b (kids i b c)
From-kids i b nil = tt
From-kids i b (cons (token k t) r) = skip (From-kids (suc i) (b + length t) r) (is_trivia k)
  where
    skip : From (b + length t) (kids (suc i) (b + length t) r) → (y : Bool) → From b (cond y (kids (suc i) (b + length t) r) (record { number = i; start = b; tree = token k t } ∷ kids (suc i) (b + length t) r))
    skip w true = From-less b (b + length t) (kids (suc i) (b + length t) r) (omega arith) w
    skip w false = (omega arith, w)
From-kids i b (cons (node k c) r) = (omega arith, From-kids (suc i) (b + length (text (node k c))) r)

pub From-start : (b : ℕ) (ks : List Kid) (j : ℕ) → From b ks → j < length ks → b ≤ (get_or ks j no_kid).start
From-start b [] j w h = absurd (omega arith)
From-start b (k ∷ ks) zero w h = w.0
From-start b (k ∷ ks) (suc j) w h = omega (arith, w.0, From-start (kid_end k) ks j w.1 (omega arith))

pub in_order : (b : ℕ) (ks : List Kid) (i j : ℕ) → From b ks → i < j → j < length ks → kid_end (get_or ks i no_kid) ≤ (get_or ks j no_kid).start
in_order b [] i j w h g = absurd (omega arith)
in_order b (k ∷ ks) zero zero w h g = absurd (omega arith)
in_order b (k ∷ ks) zero (suc j) w h g = From-start (kid_end k) ks j w.1 (omega arith)
in_order b (k ∷ ks) (suc i) zero w h g = absurd (omega arith)
in_order b (k ∷ ks) (suc i) (suc j) w h g = in_order (kid_end k) ks i j w.1 (omega arith) (omega arith)

-- ---- the part is at its kid
pub part_stands : (t : Term) (i : ℕ) → is_direct t i ≡ true → IfSome (part t i) (λ p. get_or (kid_meanings t) (part_kid t i) IsNothing ≡ IsTerm p.term)
part_stands (Paren e) zero d = refl
part_stands (Field e n) zero d = refl
part_stands (Await e) zero d = refl
part_stands (Try e) zero d = refl
part_stands (Cast e n) zero d = refl
part_stands (Method e n args) zero d = refl
part_stands (Method e n args) (suc i) d = absurd (no d)
part_stands (Call e args) zero d = refl
part_stands (Call e args) (suc i) d = absurd (no d)
part_stands (Index e i) zero d = refl
part_stands (Index e i) (suc zero) d = refl
part_stands (Prefix Not e) zero d = refl
part_stands (Prefix Dereference e) zero d = refl
part_stands (Prefix Negate e) zero d = refl
part_stands (Borrow true e) zero d = refl
part_stands (Borrow false e) zero d = refl
part_stands (Binary op l r) zero d = refl
part_stands (Binary op l r) (suc zero) d = refl
part_stands (RangeFrom l) zero d = refl
part_stands (RangeTo inclusive r) zero d = refl
part_stands (Range inclusive l r) zero d = refl
part_stands (Range inclusive l r) (suc zero) d = refl
part_stands _ _ d = tt

argument_among : (args : Terms) (j : ℕ) → IfSome (argument args j) (λ p. get_or (argument_meanings args) (argument_index j) IsNothing ≡ IsTerm p.term)
argument_among NoTerms j = tt
argument_among (Last e) zero = refl
argument_among (Last e) (suc j) = tt
argument_among (More e es) zero = refl
argument_among (More e es) (suc j) = argument_among es j

pub argument_stands : (args : Terms) (j : ℕ) (p : Part) → argument args j ≡ Some p → get_or (IsSign Opens ∷ argument_meanings args) (argument_kid j) IsNothing ≡ IsTerm p.term
argument_stands args j p is = subst (λ o. IfSome o (λ p. get_or (argument_meanings args) (argument_index j) IsNothing ≡ IsTerm p.term)) is (argument_among args j)

-- ---- what means something has text
some_text : (k : SyntaxKind) (t : List ℕ) (b : Bool) (ms : List Meaning) → text_fits k t ≡ b → firm (IsSign (cond b (sign_of k t) Strange) ∷ ms) ≡ true → 1 ≤ length t
some_text k t false ms e h = absurd (no h)
some_text (OfToken k) [] true ms e h = absurd (no e)
some_text (OfToken k) (x ∷ t) true ms e h = omega arith
some_text (OfNode k) t true ms e h = absurd (no e)
some_text (OTHER n) t true ms e h = absurd (no e)

right_first : (m : Meaning) (ms : List Meaning) → firm (m ∷ ms) ≡ true → is_right m ≡ true
right_first IsNothing ms h = absurd (no h)
right_first _ ms h = refl

pub has_text : (c : Forest) → firm (meanings c) ≡ true → 1 ≤ length (forest_text c)
has_text nil h = absurd (no h)
has_text (cons (token k t) r) h = skip (has_text r) (is_trivia k) h
  where
    skip : (firm (meanings r) ≡ true → 1 ≤ length (forest_text r)) → (b : Bool) → firm (cond b (meanings r) (IsSign (leaf k t) ∷ meanings r)) ≡ true → 1 ≤ length (t ++ forest_text r)
    skip each true h = omega (arith, length-append t (forest_text r), each h)
    skip each false h = omega (arith, length-append t (forest_text r), some_text k t (text_fits k t) (meanings r) refl h)
has_text (cons (node k c) r) h =
    omega (arith, length-append (forest_text c) (forest_text r), has_text c (firm-form (form_of k) (meanings c) (right_first (means (form_of k) (meanings c)) (meanings r) h)))

pub node_has_text : (k : SyntaxKind) (c : Forest) → is_right (means (form_of k) (meanings c)) ≡ true → 1 ≤ length (text (node k c))
node_has_text k c h = has_text c (firm-form (form_of k) (meanings c) h)

-- ---- on which side a part's kid is of the operator's
abbrev pub is_some : Option Part → Bool
is_some None = false
is_some (Some p) = true

abbrev pub side_right : ℕ → Bool → ℕ → ℕ → Bool
side_right n true i j = nat_lt i j && nat_lt j n
side_right n false i j = nat_lt j i && nat_lt i n

pub told : (t : Term) (i : ℕ) → is_some (part t i) ≡ true → is_direct t i ≡ true → side_right (length (kid_meanings t)) (part_before t i) (part_kid t i) (operator_kid t) ≡ true
told (Literal k x) i h d = absurd (no h)
told (Name x) i h d = absurd (no h)
told RangeFull i h d = absurd (no h)
told (Paren e) zero h d = refl
told (Field e n) zero h d = refl
told (Await e) zero h d = refl
told (Try e) zero h d = refl
told (Cast e n) zero h d = refl
told (Method e n args) zero h d = refl
told (Method e n args) (suc i) h d = absurd (no d)
told (Call e args) zero h d = refl
told (Call e args) (suc i) h d = absurd (no d)
told (Index e i) zero h d = refl
told (Index e i) (suc zero) h d = refl
told (Prefix Not e) zero h d = refl
told (Prefix Dereference e) zero h d = refl
told (Prefix Negate e) zero h d = refl
told (Borrow true e) zero h d = refl
told (Borrow false e) zero h d = refl
told (Binary op l r) zero h d = refl
told (Binary op l r) (suc zero) h d = refl
told (RangeFrom l) zero h d = refl
told (RangeTo inclusive r) zero h d = refl
told (Range inclusive l r) zero h d = refl
told (Range inclusive l r) (suc zero) h d = refl
told t i h d = absurd (no h)

-- A part's kid ends before the operator's starts exactly where the part precedes its form's
-- operator.
pub side_by_kids : (n : ℕ) (ks : List Kid) (before : Bool) (i j : ℕ) → From 0 ks → n ≡ length ks → side_right n before i j ≡ true → (get_or ks i no_kid).start < kid_end (get_or ks i no_kid) → nat_le (kid_end (get_or ks i no_kid)) (get_or ks j no_kid).start ≡ before
side_by_kids n ks true i j w e s h =
    let lt : i < j = grind arith in
    let in_list : j < length ks = grind arith in
    let le = in_order 0 ks i j w lt in_list in
    grind (arith, le)
side_by_kids n ks false i j w e s h =
    let lt : j < i = grind arith in
    let in_list : i < length ks = grind arith in
    let le : kid_end (get_or ks j no_kid) ≤ (get_or ks i no_kid).start = in_order 0 ks j i w lt in_list in
    grind (arith, le)

-- the rule on starts is whether the place ends before the parent's operator
pub stands_before-side : (order size from to parent : ℕ) → order < size → from < to → stands_before order size from to parent ≡ nat_le to parent
stands_before-side order size from to parent h g = grind arith

get_kid : (ks : List Kid) (n : ℕ) → get_or (map (λ k. meaning k.tree) ks) n IsNothing ≡ meaning (get_or ks n no_kid).tree
get_kid [] n = refl
get_kid (k ∷ ks) zero = refl
get_kid (k ∷ ks) (suc n) = get_kid ks n

-- the node or token at a kid means what the form says of it
pub kid_means : (c : Forest) (ms : List Meaning) (n : ℕ) → meanings c ≡ ms → meaning (kid_at c n).tree ≡ get_or ms n IsNothing
kid_means c ms n e = sym (get_kid (kids 0 0 c) n) ∙ ap (λ ms. get_or ms n IsNothing) (meanings-kids 0 0 c ∙ e)

-- the node or token at a part's kid shows the part
pub operand_shows : (f : Form) (c : Forest) (t : Term) (i : ℕ) (p : Part) → means f (meanings c) ≡ IsTerm t → part t i ≡ Some p → is_direct t i ≡ true → meaning (kid_at c (part_kid t i)).tree ≡ IsTerm p.term
operand_shows f c t i p shows is direct =
    let there : get_or (kid_meanings t) (part_kid t i) IsNothing ≡ IsTerm p.term = subst (λ o. IfSome o (λ p. get_or (kid_meanings t) (part_kid t i) IsNothing ≡ IsTerm p.term)) is (part_stands t i direct) in
    kid_means c (kid_meanings t) (part_kid t i) (term_parts f (meanings c) t shows) ∙ there

pub term_has_text : (u : Tree) (t : Term) → meaning u ≡ IsTerm t → 1 ≤ length (text u)
term_has_text (token k x) t e = absurd (let bad : meaning (token k x) ≡ IsTerm t = e in cc)
term_has_text (node k c) t e = node_has_text k c (ap is_right e)

pub kid_count_told : (f : Form) (c : Forest) (t : Term) → means f (meanings c) ≡ IsTerm t → length (kid_meanings t) ≡ length (kids 0 0 c)
kid_count_told f c t shows = ap length (sym (meanings-kids 0 0 c ∙ term_parts f (meanings c) t shows)) ∙ length-map (kids 0 0 c) (λ x. meaning x.tree)

-- The rule on starts, asked at an operand of a node that shows a term, is the part's side.
pub operand_side : (f : Form) (c : Forest) (t : Term) (i : ℕ) (p : Part) (order size : ℕ) → means f (meanings c) ≡ IsTerm t → part t i ≡ Some p → is_direct t i ≡ true → order < size
    → stands_before order size (kid_at c (part_kid t i)).start (kid_end (kid_at c (part_kid t i))) (kid_at c (operator_kid t)).start ≡ part_before t i
operand_side f c t i p order size shows is direct inside =
    let some : (kid_at c (part_kid t i)).start < kid_end (kid_at c (part_kid t i)) = omega (arith, term_has_text (kid_at c (part_kid t i)).tree p.term (operand_shows f c t i p shows is direct)) in
    stands_before-side order size _ _ _ inside some
    ∙ side_by_kids (length (kid_meanings t)) (kids 0 0 c) (part_before t i) (part_kid t i) (operator_kid t) (From-kids 0 0 c) (kid_count_told f c t shows) (told t i (ap is_some is) direct) some
