-- A node in the place of an operand: the tree with it shows the term with its term there.
use Rattle.std.proofs.Common.{◌≡◌, ◌<◌, ◌+◌, ◌++◌, ℕ, zero, suc, List, [], ◌∷◌, Bool, true, false, cond, length, get_or, Option, Some, None, IfSome, refl, sym, ap, subst, ◌∙◌, arith}
use Rattle.std.proofs.lemmas.List.{length-map}
use Rattle.std.proofs.lemmas.Bool.{ltb-true}
use Rattle.std.specs.Prelude.{nat_lt, option_and_then}
use Rattle.syntax_kind.specs.Kinds.{is_trivia}
use Rattle.tree_model.specs.Tree.{Tree, node, token, Forest, nil, cons, text, Place, subtree, child_at, forest_of_children}
use Rattle.tree_model.specs.Edit.{replace, with_child, set_child}
use Rattle.operator_terms.specs.Operators.{Dereference, Not, Negate}
use Rattle.operator_terms.specs.Term.{Term, Literal, Name, Paren, Field, Await, Try, Cast, Method, Call, Index, Prefix, Borrow, Binary, RangeFull, RangeFrom, RangeTo, Range, Terms, NoTerms, Last, More}
use Rattle.operator_terms.specs.Sign.{Opens, Comma}
use Rattle.operator_terms.specs.Places.{Part, Demand, part, argument, behind_part, part_at}
use Rattle.operator_terms.specs.Pairs.{change_part, change_argument}
use Rattle.operator_terms.specs.Put.{put}
use Rattle.operator_trees.specs.declared.form.Form.{Form}
use Rattle.operator_trees.specs.declared.form.Form.TheVariants as form
use Rattle.operator_trees.specs.Forms.{form_of}
use Rattle.operator_trees.specs.Shown.{Meaning, IsSign, IsTerm, IsArguments, IsNothing, leaf, means, meanings, meaning, rest_form, put_argument}
use Rattle.operator_trees.specs.Shape.{kid_meanings, argument_meanings, term_form}
use Rattle.operator_trees.specs.Before.{Kid, kids, no_kid, kid_at, part_kid, is_direct, argument_kid, argument_index}
use Rattle.operator_trees.specs.Operands.{argument_place, part_place, operand_place, below_part}
use Rattle.operator_trees.proofs.Inversion.{no, term_parts, term_formed, arguments_parts, arguments_formed}
use Rattle.operator_trees.proofs.Sides.{meanings-kids, is_some}
use Rattle.operator_trees.proofs.Tokens.{sound-term}
use Rattle.operator_trees.proofs.Operands.{PartStands, Stands, kid_stands, part-listed, among-length, told_parts, arguments_told, part_stands_at}

-- ---- one child of a forest

abbrev set_at : List Meaning → ℕ → Meaning → List Meaning
set_at [] j m = []
set_at (x ∷ ms) zero m = m ∷ ms
set_at (x ∷ ms) (suc j) m = x ∷ set_at ms j m

-- a kid is the child of its number, and a node in that child's place means what it means there
abbrev SetKid : ℕ → Forest → Tree → ℕ → Kid → Type 0
SetKid i c v j k = (n : ℕ) × (k.number ≡ i + n) × (meanings (set_child c n v) ≡ set_at (meanings c) j (meaning v))

abbrev means-cons : Tree → List Meaning → List Meaning
means-cons v ms = meaning v ∷ ms

set_kid : (i b : ℕ) (c : Forest) (kind : _) (children : Forest) (j : ℕ) → j < length (kids i b c) → SetKid i c (node kind children) j (get_or (kids i b c) j no_kid)
set_kid i b nil kind children j h = absurd (omega arith)
set_kid i b (cons (token k t) r) kind children j h = skip (set_kid (suc i) (b + length t) r kind children) (is_trivia k) refl j h
  where
    skip : ((j : ℕ) → j < length (kids (suc i) (b + length t) r) → SetKid (suc i) r (node kind children) j (get_or (kids (suc i) (b + length t) r) j no_kid))
        → (y : Bool) → is_trivia k ≡ y → (j : ℕ)
        → j < length (cond y (kids (suc i) (b + length t) r) (record { number = i; start = b; tree = token k t } ∷ kids (suc i) (b + length t) r))
        → (n : ℕ) × ((get_or (cond y (kids (suc i) (b + length t) r) (record { number = i; start = b; tree = token k t } ∷ kids (suc i) (b + length t) r)) j no_kid).number ≡ i + n)
        × (meanings (set_child (cons (token k t) r) n (node kind children)) ≡ set_at (cond y (meanings r) (IsSign (leaf k t) ∷ meanings r)) j (meaning (node kind children)))
    skip each true is j h =
        let n = each j h in
        (suc n.0, omega (arith, n.1), ap (λ y. cond y (meanings (set_child r n.0 (node kind children))) (IsSign (leaf k t) ∷ meanings (set_child r n.0 (node kind children)))) is ∙ n.2)
    skip each false is zero h = (0, omega arith, refl)
    skip each false is (suc j) h =
        let n = each j (omega arith) in
        (suc n.0, omega (arith, n.1), ap (λ y. cond y (meanings (set_child r n.0 (node kind children))) (IsSign (leaf k t) ∷ meanings (set_child r n.0 (node kind children)))) is ∙ ap (λ ms. IsSign (leaf k t) ∷ ms) n.2)
set_kid i b (cons (node k c) r) kind children zero h = (0, omega arith, refl)
set_kid i b (cons (node k c) r) kind children (suc j) h =
    let n = set_kid (suc i) (b + length (text (node k c))) r kind children j (omega arith) in
    (suc n.0, omega (arith, n.1), ap (λ ms. means (form_of k) (meanings c) ∷ ms) n.2)

-- the j-th kid of a forest whose kids mean the list
set_kid_at : (c : Forest) (ms : List Meaning) (v : Tree) (e : Term) (j : ℕ) (m : Meaning) → meanings c ≡ ms → j < length ms → meaning v ≡ m → ((k : _) (t : List ℕ) → v ≡ token k t → ⊥) → meanings (set_child c (kid_at c j).number v) ≡ set_at ms j m
set_kid_at c ms (token k t) e j m h less is node_only = absurd (node_only k t refl)
set_kid_at c ms (node k d) e j m h less is node_only =
    let count : length (kids 0 0 c) ≡ length ms = sym (length-map (kids 0 0 c) (λ k. meaning k.tree)) ∙ ap length (meanings-kids 0 0 c ∙ h) in
    let n = set_kid 0 0 c k d j (omega arith) in
    let number : (kid_at c j).number ≡ n.0 = n.1 ∙ (omega arith) in
    ap (λ i. meanings (set_child c i (node k d))) number ∙ n.2 ∙ ap (λ ms. set_at ms j (meaning (node k d))) h ∙ ap (set_at ms j) is

-- ---- what a form's kids mean with a part changed

changed-kids : (f : Term → Term) (t : Term) (i : ℕ) → is_direct t i ≡ true → IfSome (part t i) (λ p. set_at (kid_meanings t) (part_kid t i) (IsTerm (f p.term)) ≡ kid_meanings (change_part f t i))
changed-kids f (Paren e) zero d = refl
changed-kids f (Field e n) zero d = refl
changed-kids f (Await e) zero d = refl
changed-kids f (Try e) zero d = refl
changed-kids f (Cast e n) zero d = refl
changed-kids f (Method e n args) zero d = refl
changed-kids f (Method e n args) (suc i) d = absurd (no d)
changed-kids f (Call e args) zero d = refl
changed-kids f (Call e args) (suc i) d = absurd (no d)
changed-kids f (Index e i) zero d = refl
changed-kids f (Index e i) (suc zero) d = refl
changed-kids f (Prefix Not e) zero d = refl
changed-kids f (Prefix Dereference e) zero d = refl
changed-kids f (Prefix Negate e) zero d = refl
changed-kids f (Borrow true e) zero d = refl
changed-kids f (Borrow false e) zero d = refl
changed-kids f (Binary op l r) zero d = refl
changed-kids f (Binary op l r) (suc zero) d = refl
changed-kids f (RangeFrom l) zero d = refl
changed-kids f (RangeTo inclusive r) zero d = refl
changed-kids f (Range inclusive l r) zero d = refl
changed-kids f (Range inclusive l r) (suc zero) d = refl
changed-kids f _ _ d = tt

changed-arguments : (f : Term → Term) (es : Terms) (j : ℕ) → IfSome (argument es j) (λ p. set_at (argument_meanings es) (argument_index j) (IsTerm (f p.term)) ≡ argument_meanings (change_argument f es j))
changed-arguments f NoTerms j = tt
changed-arguments f (Last e) zero = refl
changed-arguments f (Last e) (suc j) = tt
changed-arguments f (More e es) zero = refl
changed-arguments f (More e es) (suc j) = later (argument es j) (changed-arguments f es j)
  where
    later : (o : Option Part) → IfSome o (λ p. set_at (argument_meanings es) (argument_index j) (IsTerm (f p.term)) ≡ argument_meanings (change_argument f es j)) → IfSome o (λ p. set_at (argument_meanings (More e es)) (argument_index (suc j)) (IsTerm (f p.term)) ≡ argument_meanings (change_argument f (More e es) (suc j)))
    later None h = tt
    later (Some p) h = ap (λ ms. IsTerm e ∷ IsSign Comma ∷ ms) h

form-change : (f : Term → Term) (t : Term) (i : ℕ) → term_form (change_part f t i) ≡ term_form t
form-change f (Paren e) zero = refl
form-change f (Field e n) zero = refl
form-change f (Await e) zero = refl
form-change f (Try e) zero = refl
form-change f (Cast e n) zero = refl
form-change f (Method e n args) zero = refl
form-change f (Method e n args) (suc i) = refl
form-change f (Call e args) zero = refl
form-change f (Call e args) (suc i) = refl
form-change f (Index e i) zero = refl
form-change f (Index e i) (suc zero) = refl
form-change f (Prefix op e) zero = refl
form-change f (Borrow mutable e) zero = refl
form-change f (Binary op l r) zero = refl
form-change f (Binary op l r) (suc zero) = refl
form-change f (RangeFrom l) zero = refl
form-change f (RangeTo inclusive r) zero = refl
form-change f (Range inclusive l r) zero = refl
form-change f (Range inclusive l r) (suc zero) = refl
form-change f _ _ = refl

-- a form of a term's kids is the term
formed : (t : Term) → means (term_form t) (kid_meanings t) ≡ IsTerm t
formed (Literal k x) = refl
formed (Name n) = refl
formed (Paren e) = refl
formed (Field e n) = refl
formed (Await e) = refl
formed (Try e) = refl
formed (Cast e n) = refl
formed (Method e n args) = refl
formed (Call e args) = refl
formed (Index e i) = refl
formed (Prefix Not e) = refl
formed (Prefix Dereference e) = refl
formed (Prefix Negate e) = refl
formed (Borrow true e) = refl
formed (Borrow false e) = refl
formed (Binary op l r) = refl
formed RangeFull = refl
formed (RangeFrom l) = refl
formed (RangeTo false r) = refl
formed (RangeTo true r) = refl
formed (Range false l r) = refl
formed (Range true l r) = refl

formed-rest : (args : Terms) → rest_form (argument_meanings args) ≡ IsArguments args
formed-rest NoTerms = refl
formed-rest (Last e) = refl
formed-rest (More e es) = ap (put_argument e) (formed-rest es)

-- ---- a node with a kid replaced

-- a node whose kids mean those of a term, by its form, shows the term
shows : (k : _) (c : Forest) (t : Term) → form_of k ≡ term_form t → meanings c ≡ kid_meanings t → meaning (node k c) ≡ IsTerm t
shows k c t f ms = ap (λ f. means f (meanings c)) f ∙ ap (means (term_form t)) ms ∙ formed t

lists : (k : _) (c : Forest) (args : Terms) → form_of k ≡ form.Arguments → meanings c ≡ IsSign Opens ∷ argument_meanings args → meaning (node k c) ≡ IsArguments args
lists k c args f ms = ap (λ f. means f (meanings c)) f ∙ ap (means form.Arguments) ms ∙ formed-rest args

no_token_term : (v : Tree) (e : Term) → meaning v ≡ IsTerm e → (k : _) (t : List ℕ) → v ≡ token k t → ⊥
no_token_term (token k x) e is = λ _ _ _. (let bad : IsSign (leaf k x) ≡ IsTerm e = is in cc)
no_token_term (node k c) e is = λ _ _ h. cc

no_token_list : (v : Tree) (args : Terms) → meaning v ≡ IsArguments args → (k : _) (t : List ℕ) → v ≡ token k t → ⊥
no_token_list (token k x) args is = λ _ _ _. (let bad : IsSign (leaf k x) ≡ IsArguments args = is in cc)
no_token_list (node k c) args is = λ _ _ h. cc

direct_put : (f : Term → Term) (u : Tree) (t : Term) (i : ℕ) (p : Part) (v : Tree) → meaning u ≡ IsTerm t → part t i ≡ Some p → is_direct t i ≡ true → meaning v ≡ IsTerm (f p.term)
    → meaning (replace u ((kid_at (forest_of_children u) (part_kid t i)).number ∷ []) v) ≡ IsTerm (change_part f t i)
direct_put f (token k x) t i p v e is d m = absurd (let bad : IsSign (leaf k x) ≡ IsTerm t = e in cc)
direct_put f (node k c) t i p v e is d m =
    let kids_are = term_parts (form_of k) (meanings c) t e in
    let set = set_kid_at c (kid_meanings t) v t (part_kid t i) (IsTerm (f p.term)) kids_are (ltb-true _ _ (part-listed t i (ap is_some is) d)) m (no_token_term v (f p.term) m) in
    let changed = subst (λ o. IfSome o (λ p. set_at (kid_meanings t) (part_kid t i) (IsTerm (f p.term)) ≡ kid_meanings (change_part f t i))) is (changed-kids f t i d) in
    shows k (set_child c (kid_at c (part_kid t i)).number v) (change_part f t i) (term_formed (form_of k) (meanings c) t e ∙ sym (form-change f t i)) (set ∙ changed)

list_put : (f : Term → Term) (u : Tree) (args : Terms) (j : ℕ) (p : Part) (v : Tree) → meaning u ≡ IsArguments args → argument args j ≡ Some p → meaning v ≡ IsTerm (f p.term)
    → meaning (with_child u (kid_at (forest_of_children u) (argument_kid j)).number v) ≡ IsArguments (change_argument f args j)
list_put f (token k x) args j p v e is m = absurd (let bad : IsSign (leaf k x) ≡ IsArguments args = e in cc)
list_put f (node k c) args j p v e is m =
    let kids_are = arguments_parts (form_of k) (meanings c) args e in
    let set = set_kid_at c (IsSign Opens ∷ argument_meanings args) v (f p.term) (argument_kid j) (IsTerm (f p.term)) kids_are (omega (arith, among-length args j (ap is_some is))) m (no_token_term v (f p.term) m) in
    let changed = subst (λ o. IfSome o (λ p. set_at (argument_meanings args) (argument_index j) (IsTerm (f p.term)) ≡ argument_meanings (change_argument f args j))) is (changed-arguments f args j) in
    lists k (set_child c (kid_at c (argument_kid j)).number v) (change_argument f args j) (arguments_formed (form_of k) (meanings c) args e) (set ∙ ap (λ ms. IsSign Opens ∷ ms) changed)

-- the list of arguments is kid n of the form
argument_put : (f : Term → Term) (u : Tree) (t w : Term) (n : ℕ) (args : Terms) (j : ℕ) (p : Part) (v : Tree) → meaning u ≡ IsTerm t → nat_lt n (length (kid_meanings t)) ≡ true
    → get_or (kid_meanings t) n IsNothing ≡ IsArguments args → term_form w ≡ term_form t → set_at (kid_meanings t) n (IsArguments (change_argument f args j)) ≡ kid_meanings w
    → argument args j ≡ Some p → meaning v ≡ IsTerm (f p.term)
    → meaning (replace u (argument_place n (forest_of_children u) j) v) ≡ IsTerm w
argument_put f (token k x) t w n args j p v e lt it form_is kids_are is m = absurd (let bad : IsSign (leaf k x) ≡ IsTerm t = e in cc)
argument_put f (node k c) t w n args j p v e lt it form_is kids_are is m =
    let told = term_parts (form_of k) (meanings c) t e in
    let s : Stands c (kid_meanings t) n = kid_stands c (kid_meanings t) n told (sound-term t) (ltb-true _ _ lt) in
    let list : Tree = child_at c (kid_at c n).number in
    let list_is : meaning list ≡ IsArguments args = s.means_it ∙ it in
    let number : ℕ = (kid_at (forest_of_children (kid_at c n).tree) (argument_kid j)).number in
    let put : meaning (with_child list number v) ≡ IsArguments (change_argument f args j) =
    subst (λ l. meaning (with_child list (kid_at (forest_of_children l) (argument_kid j)).number v) ≡ IsArguments (change_argument f args j)) s.is_child (list_put f list args j p v list_is is m) in
    let set = set_kid_at c (kid_meanings t) (with_child list number v) t n (IsArguments (change_argument f args j)) told (ltb-true _ _ lt) put (no_token_list (with_child list number v) (change_argument f args j) put) in
    shows k (set_child c (kid_at c n).number (with_child list number v)) w (term_formed (form_of k) (meanings c) t e ∙ sym form_is) (set ∙ kids_are)

part_put : (f : Term → Term) (u : Tree) (t : Term) (i : ℕ) (p : Part) (v : Tree) → meaning u ≡ IsTerm t → part t i ≡ Some p → meaning v ≡ IsTerm (f p.term)
    → meaning (replace u (part_place t (forest_of_children u) i) v) ≡ IsTerm (change_part f t i)
part_put f u (Method e n args) (suc j) p v h is m = argument_put f u (Method e n args) (Method e n (change_argument f args j)) 3 args j p v h refl refl refl refl is m
part_put f u (Method e n args) zero p v h is m = direct_put f u (Method e n args) zero p v h is refl m
part_put f u (Call e args) (suc j) p v h is m = argument_put f u (Call e args) (Call e (change_argument f args j)) 1 args j p v h refl refl refl refl is m
part_put f u (Call e args) zero p v h is m = direct_put f u (Call e args) zero p v h is refl m
part_put f u (Paren e) i p v h is m = direct_put f u (Paren e) i p v h is refl m
part_put f u t i p v h is m = direct_put f u t i p v h is refl m

-- ---- all the way down

pub replace-append : (t : Tree) (p q : Place) (v : Tree) → replace t (p ++ q) v ≡ replace t p (replace (subtree t p) q v)
replace-append t [] q v = refl
replace-append t (i ∷ p) q v = ap (with_child t i) (replace-append (child_at (forest_of_children t) i) p q v)

-- A node that shows a term, in the place of an operand: the whole shows the term with it there.
pub operand_put : (s : Term) (v : Tree) → meaning v ≡ IsTerm s → (q : List ℕ) (u : Tree) (d : Demand) (t : Term) (p : Part) → meaning u ≡ IsTerm t → part_at d t q ≡ Some p → meaning (replace u (operand_place q u t) v) ≡ IsTerm (put s q t)
operand_put s v m [] u d t p e is = m
operand_put s v m (i ∷ q) u d t p e is = by (λ r h. part_stands_at u t i r (told_parts u t e) h) (λ r h w g. part_put (put s q) u t i r w e h g) (λ w r. operand_put s v m q w r.demand r.term p) (part t i) refl is
  where
    by : ((r : Part) → part t i ≡ Some r → PartStands u (part_place t (forest_of_children u) i) r.term (behind_part t i))
        → ((r : Part) → part t i ≡ Some r → (w : Tree) → meaning w ≡ IsTerm (put s q r.term) → meaning (replace u (part_place t (forest_of_children u) i) w) ≡ IsTerm (change_part (put s q) t i))
        → ((w : Tree) (r : Part) → meaning w ≡ IsTerm r.term → part_at r.demand r.term q ≡ Some p → meaning (replace w (operand_place q w r.term) v) ≡ IsTerm (put s q r.term))
        → (o : Option Part) → part t i ≡ o → option_and_then (λ r. part_at r.demand r.term q) o ≡ Some p
        → meaning (replace u (below_part (operand_place q) u (part_place t (forest_of_children u) i) o) v) ≡ IsTerm (change_part (put s q) t i)
    by stands here below None h is = absurd (let bad : None ≡ Some p = is in cc)
    by stands here below (Some r) h is =
        let at = part_place t (forest_of_children u) i in
        let inner = below (subtree u at) r (stands r h).shows is in
        ap meaning (replace-append u at (operand_place q (subtree u at) r.term) v) ∙ here r h (replace (subtree u at) (operand_place q (subtree u at) r.term) v) inner
