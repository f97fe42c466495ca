-- The same of cursors.
use Rattle.std.proofs.Common.{◌≡◌, ◌<◌, ◌+◌, ◌++◌, ℕ, zero, suc, [], ◌∷◌, Bool, true, false, not, ◌&&◌, ◌||◌, cond, length, get_or, Some, nat_lt, refl, sym, ap, ◌∙◌, arith}
use Rattle.syntax_kind.specs.Kinds.{is_trivia}
use Rattle.tree_model.specs.Tree.{Tree, node, token, Forest, nil, cons, text, forest_text}
use Rattle.operator_terms.specs.Operators.{Dereference, Not, Negate}
use Rattle.operator_terms.specs.Term.{Term, Literal, Name, Paren, Method, Call, Index, Prefix, Borrow, Binary, RangeFull, Range}
use Rattle.operator_terms.specs.Places.{Part, part}
use Rattle.operator_terms.specs.Powers.{part_before}
use Rattle.operator_trees.specs.Forms.{form_of}
use Rattle.operator_trees.specs.Shown.{IsSign, IsTerm, leaf, means, meanings, meaning}
use Rattle.operator_trees.specs.Shape.{kid_meanings, term_form}
use Rattle.operator_trees.specs.Before.{Kid, kid_end, kids, no_kid, kid_at, part_kid, is_direct}
use Rattle.operator_terms.specs.Powers.{needs_pair_by_power, too_weak_at}
use Rattle.operator_trees.proofs.Inversion.{no, term_parts, term_formed}
use Rattle.operator_trees.proofs.Sides.{meanings-kids, is_some}
use Rattle.std.proofs.lemmas.List.{length-map}
use Rattle.std.proofs.lemmas.Bool.{ltb-true}
use Rattle.operator_powers.specs.Rules.{asks}
use Rattle.tree_model.specs.Tree.{Place, subtree, start, child_at, bytes_before, forest_of_children, kind_of}
use Rattle.tree_model.specs.Cursor.{Cursor, focus, at_place, range_start, range_end, parent_of}
use Rattle.operator_terms.specs.Term.{tokens}
use Rattle.operator_terms.specs.Places.{ends_in_cast}
use Rattle.operator_terms.specs.Powers.{needs_pair_at}
use Rattle.operator_trees.proofs.Tokens.{tokens-shown}
use Rattle.operator_powers.specs.Rules.{asks_at, form_at, is_foreign, is_arguments, kid_place, operators_ask, is_own_parent, asks_under}
use Rattle.tree_model.specs.EqualityLaws.{cursor_equivalence}
use Rattle.operator_powers.proofs.Asks.{asks_right}
use Rattle.tree_model.specs.Tree.{place_above, parent_place}
use Rattle.std.specs.Prelude.{option_map}

pub subtree-child : (t : Tree) (p : Place) (i : ℕ) → subtree t (p ++ i ∷ []) ≡ child_at (forest_of_children (subtree t p)) i
subtree-child t [] i = refl
subtree-child t (j ∷ p) i = subtree-child (child_at (forest_of_children t) j) p i

start-child : (t : Tree) (p : Place) (i : ℕ) → start t (p ++ i ∷ []) ≡ start t p + bytes_before (forest_of_children (subtree t p)) i
start-child t [] i = omega arith
start-child t (j ∷ p) i = omega (arith, start-child (child_at (forest_of_children t) j) p i)

above-child : (p : Place) (i : ℕ) → place_above (p ++ i ∷ []) ≡ p
above-child [] i = refl
above-child (j ∷ []) i = refl
above-child (j ∷ k ∷ p) i = ap (λ q. j ∷ q) (above-child (k ∷ p) i)

parent-child : (p : Place) (i : ℕ) → parent_place (p ++ i ∷ []) ≡ Some p
parent-child [] i = refl
parent-child (j ∷ p) i = ap Some (above-child (j ∷ p) i)

-- the parent of a child
pub child_parent : (c : Cursor) (i : ℕ) → parent_of (at_place c (c.place ++ i ∷ [])) ≡ Some c
child_parent c i = ap (option_map (at_place c)) (parent-child c.place i)

-- a kid is the child of its number
abbrev KidIs : ℕ → ℕ → Forest → Kid → Type 0
KidIs i b c k = (n : ℕ) × (k.number ≡ i + n) × (k.tree ≡ child_at c n) × (k.start ≡ b + bytes_before c n)

later : (i b : ℕ) (u : Tree) (c : Forest) (k : Kid) → KidIs (suc i) (b + length (text u)) c k → KidIs i b (cons u c) k
later i b u c k h = (suc h.0, omega (arith, h.1), h.2, omega (arith, h.3))

kid_is : (i b : ℕ) (c : Forest) (j : ℕ) → j < length (kids i b c) → KidIs i b c (get_or (kids i b c) j no_kid)
kid_is i b nil j h = absurd (omega arith)
kid_is i b (cons (token k t) r) j h = skip (kid_is (suc i) (b + length t) r) (is_trivia k) j h
  where
    skip : ((j : ℕ) → j < length (kids (suc i) (b + length t) r) → KidIs (suc i) (b + length t) r (get_or (kids (suc i) (b + length t) r) j no_kid))
        → (y : Bool) (j : ℕ) → j < length (cond y (kids (suc i) (b + length t) r) (record { number = i; start = b; tree = token k t } ∷ kids (suc i) (b + length t) r))
        → KidIs i b (cons (token k t) r) (get_or (cond y (kids (suc i) (b + length t) r) (record { number = i; start = b; tree = token k t } ∷ kids (suc i) (b + length t) r)) j no_kid)
    skip each true j h = later i b (token k t) r _ (each j h)
    skip each false zero h = (0, omega arith, refl, omega arith)
    skip each false (suc j) h = later i b (token k t) r _ (each j (omega arith))
kid_is i b (cons (node k c) r) zero h = (0, omega arith, refl, omega arith)
kid_is i b (cons (node k c) r) (suc j) h = later i b (node k c) r _ (kid_is (suc i) (b + length (text (node k c))) r j (omega arith))

-- numbers don't depend on where the kids start
same_number : (i a b : ℕ) (c : Forest) (j : ℕ) → (get_or (kids i a c) j no_kid).number ≡ (get_or (kids i b c) j no_kid).number
same_number i a b nil j = refl
same_number i a b (cons (token k t) r) j = skip (same_number (suc i) (a + length t) (b + length t) r) (is_trivia k) j
  where
    skip : ((j : ℕ) → (get_or (kids (suc i) (a + length t) r) j no_kid).number ≡ (get_or (kids (suc i) (b + length t) r) j no_kid).number) → (y : Bool) (j : ℕ)
        → (get_or (cond y (kids (suc i) (a + length t) r) (record { number = i; start = a; tree = token k t } ∷ kids (suc i) (a + length t) r)) j no_kid).number
        ≡ (get_or (cond y (kids (suc i) (b + length t) r) (record { number = i; start = b; tree = token k t } ∷ kids (suc i) (b + length t) r)) j no_kid).number
    skip each true j = each j
    skip each false zero = refl
    skip each false (suc j) = each j
same_number i a b (cons (node k c) r) zero = refl
same_number i a b (cons (node k c) r) (suc j) = same_number (suc i) (a + length (text (node k c))) (b + length (text (node k c))) r j

-- where a kid's cursor is
pub place_of_kid : (c : Cursor) (j : ℕ) → j < length (kids 0 (range_start c) (forest_of_children (focus c)))
    → (range_start (kid_place c j) ≡ (get_or (kids 0 (range_start c) (forest_of_children (focus c))) j no_kid).start)
    × (range_end (kid_place c j) ≡ kid_end (get_or (kids 0 (range_start c) (forest_of_children (focus c))) j no_kid))
    × (focus (kid_place c j) ≡ (get_or (kids 0 (range_start c) (forest_of_children (focus c))) j no_kid).tree)
place_of_kid c j h =
    let f = forest_of_children (focus c) in
    let k : Kid = get_or (kids 0 (range_start c) f) j no_kid in
    let is : KidIs 0 (range_start c) f k = kid_is 0 (range_start c) f j h in
    let number : (kid_at f j).number ≡ is.0 = same_number 0 0 (range_start c) f j ∙ is.1 ∙ (omega arith) in
    let begins : range_start (kid_place c j) ≡ k.start = ap (λ n. start c.tree (c.place ++ n ∷ [])) number ∙ start-child c.tree c.place is.0 ∙ sym is.3 in
    let shows : focus (kid_place c j) ≡ k.tree = ap (λ n. subtree c.tree (c.place ++ n ∷ [])) number ∙ subtree-child c.tree c.place is.0 ∙ sym is.2 in
    (begins, omega (arith, begins, ap (λ t. length (text t)) shows), shows)

-- ---- what shows a term has its form
pub form_told : (u : Tree) (t : Term) → meaning u ≡ IsTerm t → form_of (kind_of u) ≡ term_form t
form_told (token k x) t e = absurd (let bad : IsSign (leaf k x) ≡ IsTerm t = e in cc)
form_told (node k c) t e = term_formed (form_of k) (meanings c) t e

means_told : (u : Tree) (t : Term) → meaning u ≡ IsTerm t → means (form_of (kind_of u)) (meanings (forest_of_children u)) ≡ IsTerm t
means_told (token k x) t e = absurd (let bad : IsSign (leaf k x) ≡ IsTerm t = e in cc)
means_told (node k c) t e = e

text_told : (u : Tree) (t : Term) → meaning u ≡ IsTerm t → length (text u) ≡ length (forest_text (forest_of_children u))
text_told (token k x) t e = absurd (let bad : IsSign (leaf k x) ≡ IsTerm t = e in cc)
text_told (node k c) t e = refl

pub not_foreign : (u : Tree) (t : Term) → meaning u ≡ IsTerm t → is_foreign (form_of (kind_of u)) ≡ false
not_foreign u t e = ap is_foreign (form_told u t e) ∙ by t
  where
    by : (t : Term) → is_foreign (term_form t) ≡ false
    by (Paren e) = refl
    by _ = refl

pub not_arguments : (u : Tree) (t : Term) → meaning u ≡ IsTerm t → is_arguments (form_of (kind_of u)) ≡ false
not_arguments u t e = ap is_arguments (form_told u t e) ∙ by t
  where
    by : (t : Term) → is_arguments (term_form t) ≡ false
    by (Paren e) = refl
    by _ = refl

direct_weak : (t : Term) (i : ℕ) (s : Term) → is_direct t i ≡ true → too_weak_at t i s ≡ needs_pair_by_power s t (part_before t i)
direct_weak (Method e n args) zero s d = refl
direct_weak (Method e n args) (suc i) s d = absurd (no d)
direct_weak (Call e args) zero s d = refl
direct_weak (Call e args) (suc i) s d = absurd (no d)
direct_weak _ i s d = refl

part_in_list : (t : Term) (i : ℕ) → is_some (part t i) ≡ true → is_direct t i ≡ true → nat_lt (part_kid t i) (length (kid_meanings t)) ≡ true
part_in_list (Literal k x) i h d = absurd (no h)
part_in_list (Name x) i h d = absurd (no h)
part_in_list RangeFull i h d = absurd (no h)
part_in_list (Prefix Not e) i h d = refl
part_in_list (Prefix Dereference e) i h d = refl
part_in_list (Prefix Negate e) i h d = refl
part_in_list (Borrow true e) i h d = refl
part_in_list (Borrow false e) i h d = refl
part_in_list (Index e j) zero h d = refl
part_in_list (Index e j) (suc i) h d = refl
part_in_list (Binary op l r) zero h d = refl
part_in_list (Binary op l r) (suc i) h d = refl
part_in_list (Range inclusive l r) zero h d = refl
part_in_list (Range inclusive l r) (suc i) h d = refl
part_in_list _ i h d = refl

-- The test on cursors, at a part of a node that shows a term, is the test over terms.
pub operators_asked : (own parent place : Cursor) (angle : Bool) (s t : Term) (i : ℕ) (p : Part) → meaning (focus own) ≡ IsTerm s → meaning (focus parent) ≡ IsTerm t
    → part t i ≡ Some p → is_direct t i ≡ true → place ≡ kid_place parent (part_kid t i)
    → operators_ask own parent place angle ≡ needs_pair_at t i angle s
operators_asked own parent place angle s t i p self shows is direct at =
    let pc = forest_of_children (focus parent) in
    let ps = range_start parent in
    let shown : means (form_at parent) (meanings pc) ≡ IsTerm t = means_told (focus parent) t shows in
    let count : length (kid_meanings t) ≡ length (kids 0 ps pc) = sym (ap length (meanings-kids 0 ps pc ∙ term_parts (form_at parent) (meanings pc) t shown)) ∙ length-map (kids 0 ps pc) (λ x. meaning x.tree) in
    let listed : part_kid t i < length (kids 0 ps pc) = omega (arith, ltb-true _ _ (part_in_list t i (ap is_some is) direct)) in
    let stands = place_of_kid parent (part_kid t i) listed in
    let kid : Kid = get_or (kids 0 ps pc) (part_kid t i) no_kid in
    let from : range_start place ≡ kid.start = ap range_start at ∙ stands.0 in
    let to : range_end place ≡ kid_end kid = ap range_end at ∙ stands.1 in
    let asked : asks_at own parent place ≡ needs_pair_by_power s t (part_before t i) =
    ap (λ n. asks (form_at own) (forest_of_children (focus own)) (range_start own) n (range_start place) (range_end place) (form_at parent) pc ps) (text_told (focus own) s self)
    ∙ ap (λ n. asks (form_at own) (forest_of_children (focus own)) (range_start own) (length (forest_text (forest_of_children (focus own)))) n (range_end place) (form_at parent) pc ps) from
    ∙ ap (λ n. asks (form_at own) (forest_of_children (focus own)) (range_start own) (length (forest_text (forest_of_children (focus own)))) kid.start n (form_at parent) pc ps) to
    ∙ asks_right (form_at own) (forest_of_children (focus own)) (range_start own) s (form_at parent) pc ps t i p kid (means_told (focus own) s self) shown is direct refl in
    ap (λ ts. (ends_in_cast ts && angle) || asks_at own parent place) (tokens-shown (focus own) s self)
    ∙ ap (λ b. (ends_in_cast (tokens s) && angle) || b) (asked ∙ sym (direct_weak t i s direct))

pub place_parent : (parent place : Cursor) (j : ℕ) → place ≡ kid_place parent j → parent_of place ≡ Some parent
place_parent parent place j at = ap parent_of at ∙ child_parent parent (kid_at (forest_of_children (focus parent)) j).number

-- the place's own parent is that
pub own_parent : (parent place : Cursor) → parent_of place ≡ Some parent → is_own_parent parent (parent_of place) ≡ true
own_parent parent place e = ap (is_own_parent parent) e ∙ cursor_equivalence.refl parent

-- What is an expression of an operator tree is asked by the operators.
pub asked_under : (own parent place : Cursor) (angle : Bool) → is_foreign (form_at own) ≡ false → is_arguments (form_at parent) ≡ false
    → asks_under own parent place angle ≡ operators_ask own parent place angle
asked_under own parent place angle form list =
    ap (λ b. not b && (not (is_foreign (form_at own)) && operators_ask own parent place angle)) list
    ∙ ap (λ b. not b && operators_ask own parent place angle) form
