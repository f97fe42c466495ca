-- In a tree that shows a term, the places that show one are those of the term's operands, in order.
use Rattle.std.proofs.Common.{◌≡◌, ◌<◌, ◌+◌, ◌++◌, ℕ, zero, suc, List, [], ◌∷◌, Bool, true, false, cond, map, length, get_or, Some, None, refl, sym, ap, subst, ◌∙◌, arith, append-nil}
use Rattle.std.specs.List.{filter}
use Rattle.std.proofs.lemmas.List.{map-append}
use Rattle.std.proofs.lemmas.List.Elements.{filter-append}
use Rattle.std.proofs.lemmas.Simd.{map-map}
use Rattle.std.proofs.lemmas.Bool.{ltb-true}
use Rattle.syntax_kind.specs.declared.syntax_kind.SyntaxKind.{SyntaxKind}
use Rattle.syntax_kind.specs.Kinds.{is_trivia}
use Rattle.tree_model.specs.Tree.{Tree, node, token, Forest, nil, cons, Place, places, places_from, subtree, child_at, forest_of_children, text}
use Rattle.tree_model.specs.Cursor.{Cursor, focus, at_place, descendants_of}
use Rattle.tree_model.proofs.EveryLaws.{subtree-append}
use Rattle.tree_model.proofs.At.{cong₂}
use Rattle.operator_terms.specs.Operators.{Dereference, Not, Negate}
use Rattle.operator_terms.specs.Term.{Term, Literal, Name, Paren, Field, Await, Try, Cast, Method, Call, Index, Prefix, Borrow, Binary, RangeFull, RangeFrom, RangeTo, Range, Terms, NoTerms, Last, More}
use Rattle.operator_terms.specs.Operators.{left_demand, right_demand}
use Rattle.operator_terms.specs.Places.{AtLeast, Callee, Part, part, argument}
use Rattle.operator_terms.specs.Sign.{Opens}
use Rattle.operator_trees.specs.Forms.{form_of}
use Rattle.operator_trees.specs.Shown.{Meaning, IsSign, IsTerm, IsName, IsSegment, IsPath, IsType, IsArguments, IsNothing, leaf, means, meanings, meaning, is_right}
use Rattle.operator_trees.specs.Shape.{kid_meanings, argument_meanings, kids_of}
use Rattle.operator_trees.specs.Before.{Kid, kids, no_kid, kid_at, part_kid, is_direct, argument_kid, argument_index}
use Rattle.operator_trees.specs.Operands.{argument_place, part_place, operand_place, below_part}
use Rattle.operator_trees.proofs.Inversion.{no, no_sign, kids_told, strict, all_right}
use Rattle.operator_trees.proofs.Sides.{is_some, argument_stands}
use Rattle.operator_trees.proofs.Tokens.{and_both, sound-term, sound-arguments}
use Rattle.operator_trees.proofs.Operands.{Stands, kid_stands, direct_stands, told_parts, arguments_told, part-listed, among-length}
use Rattle.operator_pairs.specs.Listed.{under, below, below_arguments, is_term, shows_term}
use Rattle.operator_pairs.specs.Pairs.{operand_cursor}

-- ---- lists

pub map-same : {A B : Type 0} (f g : A → B) → ((x : A) → f x ≡ g x) → (xs : List A) → map f xs ≡ map g xs
map-same f g h [] = refl
map-same f g h (x ∷ xs) = cong₂ (λ a b. a ∷ b) (h x) (map-same f g h xs)

pub filter-same : {A : Type 0} (f g : A → Bool) → ((x : A) → f x ≡ g x) → (xs : List A) → filter f xs ≡ filter g xs
filter-same f g h [] = refl
filter-same f g h (x ∷ xs) = cong₂ (λ b ys. cond b (x ∷ ys) ys) (h x) (filter-same f g h xs)

pub filter-map : {A B : Type 0} (p : B → Bool) (f : A → B) (xs : List A) → filter p (map f xs) ≡ map f (filter (λ x. p (f x)) xs)
filter-map p f [] = refl
filter-map p f (x ∷ xs) = by (p (f x)) (filter-map p f xs)
  where
    by : (b : Bool) → filter p (map f xs) ≡ map f (filter (λ x. p (f x)) xs) → cond b (f x ∷ filter p (map f xs)) (filter p (map f xs)) ≡ map f (cond b (x ∷ filter (λ x. p (f x)) xs) (filter (λ x. p (f x)) xs))
    by true e = ap (λ ys. f x ∷ ys) e
    by false e = e

-- ---- the places of a forest that pass a test, by its structure

abbrev pub selected : (Tree → Bool) → ℕ → Forest → List Place
selected f i nil = []
selected f i (cons (token k t) r) = cond (f (token k t)) ((i ∷ []) ∷ selected f (suc i) r) (selected f (suc i) r)
selected f i (cons (node k c) r) =
    cond (f (node k c)) ((i ∷ []) ∷ (map (λ p. i ∷ p) (selected f 0 c) ++ selected f (suc i) r)) (map (λ p. i ∷ p) (selected f 0 c) ++ selected f (suc i) r)

pub selected_from : (f : Tree → Bool) (h : Place → Bool) (i : ℕ) (c : Forest) → ((j : ℕ) (q : Place) → h ((i + j) ∷ q) ≡ f (subtree (child_at c j) q)) → filter h (places_from i c) ≡ selected f i c
selected_from f h i nil same = refl
selected_from f h i (cons (token k t) r) same =
    let first : i ≡ i + 0 = omega arith in
    cong₂ (λ b ps. cond b ((i ∷ []) ∷ ps) ps) (ap (λ j. h (j ∷ [])) first ∙ same 0 [])
    (selected_from f h (suc i) r (λ j q. let later : suc i + j ≡ i + suc j = omega arith in ap (λ n. h (n ∷ q)) later ∙ same (suc j) q))
selected_from f h i (cons (node k c) r) same =
    let first : i ≡ i + 0 = omega arith in
    cong₂ (λ b ps. cond b ((i ∷ []) ∷ ps) ps) (ap (λ j. h (j ∷ [])) first ∙ same 0 [])
    (filter-append h (map (λ p. i ∷ p) (places_from 0 c)) (places_from (suc i) r)
    ∙ cong₂ (λ xs ys. xs ++ ys)
    (filter-map h (λ p. i ∷ p) (places_from 0 c)
    ∙ ap (map (λ p. i ∷ p)) (selected_from f (λ p. h (i ∷ p)) 0 c (λ j q. let here : 0 + j ≡ j = omega arith in ap (λ n. h (i ∷ (n ∷ q))) here ∙ ap (λ n. h (n ∷ (j ∷ q))) first ∙ same 0 (j ∷ q))))
    (selected_from f h (suc i) r (λ j q. let later : suc i + j ≡ i + suc j = omega arith in ap (λ n. h (n ∷ q)) later ∙ same (suc j) q)))

-- ---- the places that show a term, by kids

abbrev pub of_kids : (ℕ → List Place) → List Meaning → List Place
of_kids g [] = []
of_kids g (IsTerm e ∷ ms) = g 0 ++ of_kids (λ j. g (suc j)) ms
of_kids g (IsArguments a ∷ ms) = g 0 ++ of_kids (λ j. g (suc j)) ms
of_kids g (m ∷ ms) = of_kids (λ j. g (suc j)) ms

-- those in a tree, itself first
abbrev pub terms_in : Tree → List Place
terms_in (node k c) = cond (is_term (means (form_of k) (meanings c))) ([] ∷ selected shows_term 0 c) (selected shows_term 0 c)
terms_in (token k t) = []

abbrev pub of_kid : Kid → List Place
of_kid k = map (λ p. k.number ∷ p) (terms_in k.tree)

-- what lies in a node that shows no term and is no list of arguments: nothing
none_in : (i : ℕ) (k : SyntaxKind) (c : Forest) (m : Meaning) (g : ℕ → List Place) (rest others : List Place) → means (form_of k) (meanings c) ≡ m → is_right m ≡ true
    → of_kids g (kids_of m) ≡ [] → rest ≡ others → selected shows_term 0 c ≡ of_kids g (meanings c) → map (λ p. i ∷ p) (selected shows_term 0 c) ++ rest ≡ others
none_in i k c m g rest others e h empty same inner =
    let told : meanings c ≡ kids_of m = kids_told (form_of k) (meanings c) m e h in
    ap (λ ps. map (λ p. i ∷ p) ps ++ rest) (inner ∙ ap (of_kids g) told ∙ empty) ∙ same

node_listed : (i : ℕ) (k : SyntaxKind) (c : Forest) (g : ℕ → List Place) (ms : List Meaning) (rest : List Place) (m : Meaning) → means (form_of k) (meanings c) ≡ m → is_right m ≡ true
    → g 0 ≡ map (λ p. i ∷ p) (terms_in (node k c)) → rest ≡ of_kids (λ j. g (suc j)) ms → selected shows_term 0 c ≡ of_kids (λ j. of_kid (get_or (kids 0 0 c) j no_kid)) (meanings c)
    → cond (is_term m) ((i ∷ []) ∷ (map (λ p. i ∷ p) (selected shows_term 0 c) ++ rest)) (map (λ p. i ∷ p) (selected shows_term 0 c) ++ rest) ≡ of_kids g (m ∷ ms)
node_listed i k c g ms rest (IsTerm t) e h first same inner =
    ap (λ ps. (i ∷ []) ∷ (map (λ p. i ∷ p) (selected shows_term 0 c) ++ ps)) same
    ∙ ap (λ m. map (λ p. i ∷ p) (cond (is_term m) ([] ∷ selected shows_term 0 c) (selected shows_term 0 c)) ++ of_kids (λ j. g (suc j)) ms) (sym e)
    ∙ ap (λ ps. ps ++ of_kids (λ j. g (suc j)) ms) (sym first)
node_listed i k c g ms rest (IsArguments a) e h first same inner =
    ap (λ ps. map (λ p. i ∷ p) (selected shows_term 0 c) ++ ps) same
    ∙ ap (λ m. map (λ p. i ∷ p) (cond (is_term m) ([] ∷ selected shows_term 0 c) (selected shows_term 0 c)) ++ of_kids (λ j. g (suc j)) ms) (sym e)
    ∙ ap (λ ps. ps ++ of_kids (λ j. g (suc j)) ms) (sym first)
node_listed i k c g ms rest (IsName n) e h first same inner = none_in i k c (IsName n) (λ j. of_kid (get_or (kids 0 0 c) j no_kid)) rest (of_kids (λ j. g (suc j)) ms) e refl refl same inner
node_listed i k c g ms rest (IsSegment n) e h first same inner = none_in i k c (IsSegment n) (λ j. of_kid (get_or (kids 0 0 c) j no_kid)) rest (of_kids (λ j. g (suc j)) ms) e refl refl same inner
node_listed i k c g ms rest (IsPath n) e h first same inner = none_in i k c (IsPath n) (λ j. of_kid (get_or (kids 0 0 c) j no_kid)) rest (of_kids (λ j. g (suc j)) ms) e refl refl same inner
node_listed i k c g ms rest (IsType n) e h first same inner = none_in i k c (IsType n) (λ j. of_kid (get_or (kids 0 0 c) j no_kid)) rest (of_kids (λ j. g (suc j)) ms) e refl refl same inner
node_listed i k c g ms rest (IsSign s) e h first same inner = absurd (no_sign (form_of k) (meanings c) s e)
node_listed i k c g ms rest IsNothing e h first same inner = absurd (no h)

pub kids_listed : (i b : ℕ) (c : Forest) → all_right (meanings c) ≡ true → selected shows_term i c ≡ of_kids (λ j. of_kid (get_or (kids i b c) j no_kid)) (meanings c)
kids_listed i b nil h = refl
kids_listed i b (cons (token k t) r) h = skip (kids_listed (suc i) (b + length t) r) (is_trivia k) h
  where
    skip : (all_right (meanings r) ≡ true → selected shows_term (suc i) r ≡ of_kids (λ j. of_kid (get_or (kids (suc i) (b + length t) r) j no_kid)) (meanings r))
        → (y : Bool) → all_right (cond y (meanings r) (IsSign (leaf k t) ∷ meanings r)) ≡ true
        → selected shows_term (suc i) r
        ≡ of_kids (λ j. of_kid (get_or (cond y (kids (suc i) (b + length t) r) (record { number = i; start = b; tree = token k t } ∷ kids (suc i) (b + length t) r)) j no_kid)) (cond y (meanings r) (IsSign (leaf k t) ∷ meanings r))
    skip each true h = each h
    skip each false h = each h
kids_listed i b (cons (node k c) r) h =
    let s = and_both (is_right (means (form_of k) (meanings c))) (all_right (meanings r)) h in
    node_listed i k c (λ j. of_kid (get_or (record { number = i; start = b; tree = node k c } ∷ kids (suc i) (b + length (text (node k c))) r) j no_kid)) (meanings r)
    (selected shows_term (suc i) r) (means (form_of k) (meanings c)) refl s.0 refl
    (kids_listed (suc i) (b + length (text (node k c))) r s.1) (kids_listed 0 0 c (strict (form_of k) (meanings c) s.0))

-- ---- by the term

abbrev pub Listed : Term → Type 0
Listed t = (u : Tree) → meaning u ≡ IsTerm t → selected shows_term 0 (forest_of_children u) ≡ map (λ q. operand_place q u t) (below t)

abbrev kid_terms : Tree → ℕ → List Place
kid_terms u j = of_kid (kid_at (forest_of_children u) j)

right_kids : (u : Tree) (t : Term) → meaning u ≡ IsTerm t → all_right (meanings (forest_of_children u)) ≡ true
right_kids (token k x) t e = absurd (let bad : IsSign (leaf k x) ≡ IsTerm t = e in cc)
right_kids (node k c) t e = strict (form_of k) (meanings c) (ap is_right e)

right_among : (u : Tree) (args : Terms) → meaning u ≡ IsArguments args → all_right (meanings (forest_of_children u)) ≡ true
right_among (token k x) args e = absurd (let bad : IsSign (leaf k x) ≡ IsArguments args = e in cc)
right_among (node k c) args e = strict (form_of k) (meanings c) (ap is_right e)

shown_kids : (u : Tree) (t : Term) → meaning u ≡ IsTerm t → selected shows_term 0 (forest_of_children u) ≡ of_kids (kid_terms u) (kid_meanings t)
shown_kids u t e = kids_listed 0 0 (forest_of_children u) (right_kids u t e) ∙ ap (of_kids (kid_terms u)) (told_parts u t e)

-- in a tree that shows a term, itself and the others
terms_shown : (u : Tree) (t : Term) → meaning u ≡ IsTerm t → terms_in u ≡ [] ∷ selected shows_term 0 (forest_of_children u)
terms_shown (token k x) t e = absurd (let bad : IsSign (leaf k x) ≡ IsTerm t = e in cc)
terms_shown (node k c) t e = ap (λ m. cond (is_term m) ([] ∷ selected shows_term 0 c) (selected shows_term 0 c)) e

terms_among : (u : Tree) (args : Terms) → meaning u ≡ IsArguments args → terms_in u ≡ selected shows_term 0 (forest_of_children u)
terms_among (token k x) args e = absurd (let bad : IsSign (leaf k x) ≡ IsArguments args = e in cc)
terms_among (node k c) args e = ap (λ m. cond (is_term m) ([] ∷ selected shows_term 0 c) (selected shows_term 0 c)) e

-- what a part gives, its tree found at some place
part_listed : (u v : Tree) (t : Term) (i : ℕ) (p : Part) (at : Place) → part t i ≡ Some p → part_place t (forest_of_children u) i ≡ at → subtree u at ≡ v → meaning v ≡ IsTerm p.term → Listed p.term
    → map (λ q. at ++ q) (terms_in v) ≡ map (λ q. operand_place q u t) (under i (below p.term))
part_listed u v t i p at is here sees shows listed =
    ap (map (λ q. at ++ q)) (terms_shown v p.term shows ∙ ap (λ ps. [] ∷ ps) (listed v shows))
    ∙ map-map (λ q. at ++ q) (λ q. operand_place q v p.term) ([] ∷ below p.term)
    ∙ map-same (λ q. at ++ operand_place q v p.term) (λ q. operand_place (i ∷ q) u t)
    (λ q. sym (ap (λ o. below_part (operand_place q) u (part_place t (forest_of_children u) i) o) is
    ∙ ap (λ a. a ++ operand_place q (subtree u a) p.term) here
    ∙ ap (λ w. at ++ operand_place q w p.term) sees)) ([] ∷ below p.term)
    ∙ sym (map-map (λ q. operand_place q u t) (λ q. i ∷ q) ([] ∷ below p.term))

pub direct_place : (t : Term) (c : Forest) (i : ℕ) → is_direct t i ≡ true → part_place t c i ≡ (kid_at c (part_kid t i)).number ∷ []
direct_place (Method e n args) c (suc i) d = absurd (no d)
direct_place (Method e n args) c zero d = refl
direct_place (Call e args) c (suc i) d = absurd (no d)
direct_place (Call e args) c zero d = refl
direct_place (Paren e) c i d = refl
direct_place _ c i d = refl

direct : (u : Tree) (t : Term) (i : ℕ) (p : Part) → meaning u ≡ IsTerm t → part t i ≡ Some p → is_direct t i ≡ true → Listed p.term
    → kid_terms u (part_kid t i) ≡ map (λ q. operand_place q u t) (under i (below p.term))
direct u t i p e is d listed =
    let c = forest_of_children u in
    let k : Stands c (kid_meanings t) (part_kid t i) = kid_stands c (kid_meanings t) (part_kid t i) (told_parts u t e) (sound-term t) (ltb-true _ _ (part-listed t i (ap is_some is) d)) in
    let at : Place = (kid_at c (part_kid t i)).number ∷ [] in
    let shows : meaning (kid_at c (part_kid t i)).tree ≡ IsTerm p.term = ap meaning (sym k.is_child) ∙ (direct_stands u t i p (told_parts u t e) is d).shows in
    part_listed u (kid_at c (part_kid t i)).tree t i p at is (direct_place t c i d) k.is_child shows listed

-- ---- arguments

abbrev of_arguments : (ℕ → List Place) → Terms → List Place
of_arguments h NoTerms = []
of_arguments h (Last e) = h 0
of_arguments h (More e es) = h 0 ++ of_arguments (λ j. h (suc j)) es

among_kids : (g : ℕ → List Place) (args : Terms) → of_kids g (argument_meanings args) ≡ of_arguments (λ j. g (argument_index j)) args
among_kids g NoTerms = refl
among_kids g (Last e) = append-nil (g 0)
among_kids g (More e es) = ap (λ ps. g 0 ++ ps) (among_kids (λ j. g (suc (suc j))) es)

arguments_listed : (u : Tree) (t : Term) (n i : ℕ) (args : Terms) (h : ℕ → List Place)
    → ((j : ℕ) (p : Part) → argument args j ≡ Some p → map (λ q. n ∷ q) (h j) ≡ map (λ q. operand_place q u t) (under (i + j) (below p.term)))
    → map (λ q. n ∷ q) (of_arguments h args) ≡ map (λ q. operand_place q u t) (below_arguments i args)
arguments_listed u t n i NoTerms h each = refl
arguments_listed u t n i (Last e) h each =
    let first : i + 0 ≡ i = omega arith in
    each 0 (record { demand = AtLeast 0; term = e }) refl ∙ ap (λ m. map (λ q. operand_place q u t) (under m (below e))) first
arguments_listed u t n i (More e es) h each =
    let first : i + 0 ≡ i = omega arith in
    map-append (λ q. n ∷ q) (h 0) (of_arguments (λ j. h (suc j)) es)
    ∙ cong₂ (λ xs ys. xs ++ ys)
    (each 0 (record { demand = AtLeast 0; term = e }) refl ∙ ap (λ m. map (λ q. operand_place q u t) (under m (below e))) first)
    (arguments_listed u t n (suc i) es (λ j. h (suc j)) (λ j p is.
    let later : i + suc j ≡ suc i + j = omega arith in
    each (suc j) p is ∙ ap (λ m. map (λ q. operand_place q u t) (under m (below p.term))) later))
    ∙ sym (map-append (λ q. operand_place q u t) (under i (below e)) (below_arguments (suc i) es))

list_listed : (u : Tree) (t : Term) (n : ℕ) (args : Terms) → meaning u ≡ IsTerm t → n < length (kid_meanings t) → get_or (kid_meanings t) n IsNothing ≡ IsArguments args
    → ((j : ℕ) → part t (suc j) ≡ argument args j) → ((j : ℕ) → part_place t (forest_of_children u) (suc j) ≡ argument_place n (forest_of_children u) j)
    → ((j : ℕ) (p : Part) → argument args j ≡ Some p → Listed p.term)
    → kid_terms u n ≡ map (λ q. operand_place q u t) (below_arguments 1 args)
list_listed u t n args e lt it parts at each =
    let c = forest_of_children u in
    let k : Stands c (kid_meanings t) n = kid_stands c (kid_meanings t) n (told_parts u t e) (sound-term t) lt in
    let list : Tree = (kid_at c n).tree in
    let number : ℕ = (kid_at c n).number in
    let is_list : meaning list ≡ IsArguments args = ap meaning (sym k.is_child) ∙ k.means_it ∙ it in
    let told : meanings (forest_of_children list) ≡ IsSign Opens ∷ argument_meanings args = arguments_told list args is_list in
    ap (map (λ q. number ∷ q)) (
    terms_among list args is_list
    ∙ kids_listed 0 0 (forest_of_children list) (right_among list args is_list)
    ∙ ap (of_kids (kid_terms list)) told
    ∙ among_kids (λ j. kid_terms list (suc j)) args)
    ∙ arguments_listed u t number 1 args (λ j. kid_terms list (argument_kid j)) (λ j p is.
    let a : Stands (forest_of_children list) (IsSign Opens ∷ argument_meanings args) (argument_kid j) =
    kid_stands (forest_of_children list) (IsSign Opens ∷ argument_meanings args) (argument_kid j) told (sound-arguments args) (omega (arith, among-length args j (ap is_some is))) in
    let v : Tree = (kid_at (forest_of_children list) (argument_kid j)).tree in
    let m : ℕ = (kid_at (forest_of_children list) (argument_kid j)).number in
    map-map (λ q. number ∷ q) (λ q. m ∷ q) (terms_in v)
    ∙ part_listed u v t (suc j) p (number ∷ (m ∷ [])) (parts j ∙ is) (at j) (ap (λ w. child_at (forest_of_children w) m) k.is_child ∙ a.is_child)
    (ap meaning (sym a.is_child) ∙ a.means_it ∙ argument_stands args j p is) (each j p is)
    ∙ (let next : suc j ≡ 1 + j = omega arith in ap (λ i. map (λ q. operand_place q u t) (under i (below p.term))) next))

-- ---- all of them

one : (u : Tree) (t : Term) (i : ℕ) (e : Term) (g : List Place) → g ≡ map (λ q. operand_place q u t) (under i (below e)) → g ++ [] ≡ map (λ q. operand_place q u t) (under i (below e))
one u t i e g h = append-nil g ∙ h

two : (u : Tree) (t : Term) (xs ys : List (List ℕ)) (g h : List Place) → g ≡ map (λ q. operand_place q u t) xs → h ≡ map (λ q. operand_place q u t) ys → g ++ (h ++ []) ≡ map (λ q. operand_place q u t) (xs ++ ys)
two u t xs ys g h e f = cong₂ (λ x y. x ++ y) e (append-nil h ∙ f) ∙ sym (map-append (λ q. operand_place q u t) xs ys)

abbrev at_level : ℕ → Term → Part
at_level n e = record { demand = AtLeast n; term = e }

mutual
  pub listed : (t : Term) → Listed t
  listed (Literal k x) u h = shown_kids u (Literal k x) h
  listed (Name x) u h = shown_kids u (Name x) h
  listed RangeFull u h = shown_kids u RangeFull h
  listed (Paren e) u h = shown_kids u (Paren e) h ∙ one u (Paren e) 0 e (kid_terms u 1) (direct u (Paren e) 0 (at_level 0 e) h refl refl (listed e))
  listed (Field e n) u h = shown_kids u (Field e n) h ∙ one u (Field e n) 0 e (kid_terms u 0) (direct u (Field e n) 0 (at_level 13 e) h refl refl (listed e))
  listed (Await e) u h = shown_kids u (Await e) h ∙ one u (Await e) 0 e (kid_terms u 0) (direct u (Await e) 0 (at_level 13 e) h refl refl (listed e))
  listed (Try e) u h = shown_kids u (Try e) h ∙ one u (Try e) 0 e (kid_terms u 0) (direct u (Try e) 0 (at_level 13 e) h refl refl (listed e))
  listed (Cast e n) u h = shown_kids u (Cast e n) h ∙ one u (Cast e n) 0 e (kid_terms u 0) (direct u (Cast e n) 0 (at_level 11 e) h refl refl (listed e))
  listed (Prefix Not e) u h = shown_kids u (Prefix Not e) h ∙ one u (Prefix Not e) 0 e (kid_terms u 1) (direct u (Prefix Not e) 0 (at_level 12 e) h refl refl (listed e))
  listed (Prefix Dereference e) u h = shown_kids u (Prefix Dereference e) h ∙ one u (Prefix Dereference e) 0 e (kid_terms u 1) (direct u (Prefix Dereference e) 0 (at_level 12 e) h refl refl (listed e))
  listed (Prefix Negate e) u h = shown_kids u (Prefix Negate e) h ∙ one u (Prefix Negate e) 0 e (kid_terms u 1) (direct u (Prefix Negate e) 0 (at_level 12 e) h refl refl (listed e))
  listed (Borrow false e) u h = shown_kids u (Borrow false e) h ∙ one u (Borrow false e) 0 e (kid_terms u 1) (direct u (Borrow false e) 0 (at_level 12 e) h refl refl (listed e))
  listed (Borrow true e) u h = shown_kids u (Borrow true e) h ∙ one u (Borrow true e) 0 e (kid_terms u 2) (direct u (Borrow true e) 0 (at_level 12 e) h refl refl (listed e))
  listed (RangeFrom e) u h = shown_kids u (RangeFrom e) h ∙ one u (RangeFrom e) 0 e (kid_terms u 0) (direct u (RangeFrom e) 0 (at_level 2 e) h refl refl (listed e))
  listed (RangeTo x e) u h = shown_kids u (RangeTo x e) h ∙ one u (RangeTo x e) 0 e (kid_terms u 1) (direct u (RangeTo x e) 0 (at_level 2 e) h refl refl (listed e))
  listed (Range x l r) u h =
      shown_kids u (Range x l r) h ∙ two u (Range x l r) (under 0 (below l)) (under 1 (below r)) (kid_terms u 0) (kid_terms u 2)
      (direct u (Range x l r) 0 (at_level 2 l) h refl refl (listed l)) (direct u (Range x l r) 1 (at_level 2 r) h refl refl (listed r))
  listed (Binary op l r) u h =
      shown_kids u (Binary op l r) h ∙ two u (Binary op l r) (under 0 (below l)) (under 1 (below r)) (kid_terms u 0) (kid_terms u 2)
      (direct u (Binary op l r) 0 (at_level (left_demand op) l) h refl refl (listed l)) (direct u (Binary op l r) 1 (at_level (right_demand op) r) h refl refl (listed r))
  listed (Index l r) u h =
      shown_kids u (Index l r) h ∙ two u (Index l r) (under 0 (below l)) (under 1 (below r)) (kid_terms u 0) (kid_terms u 2)
      (direct u (Index l r) 0 (at_level 13 l) h refl refl (listed l)) (direct u (Index l r) 1 (at_level 0 r) h refl refl (listed r))
  listed (Method e n args) u h =
      shown_kids u (Method e n args) h ∙ two u (Method e n args) (under 0 (below e)) (below_arguments 1 args) (kid_terms u 0) (kid_terms u 3)
      (direct u (Method e n args) 0 (at_level 13 e) h refl refl (listed e))
      (list_listed u (Method e n args) 3 args h (omega arith) refl (λ j. refl) (λ j. refl) (all_listed args))
  listed (Call e args) u h =
      shown_kids u (Call e args) h ∙ two u (Call e args) (under 0 (below e)) (below_arguments 1 args) (kid_terms u 0) (kid_terms u 1)
      (direct u (Call e args) 0 (record { demand = Callee; term = e }) h refl refl (listed e))
      (list_listed u (Call e args) 1 args h (omega arith) refl (λ j. refl) (λ j. refl) (all_listed args))

  all_listed : (args : Terms) (j : ℕ) (p : Part) → argument args j ≡ Some p → Listed p.term
  all_listed NoTerms j p is = absurd (let bad : None ≡ Some p = is in cc)
  all_listed (Last e) zero p is = let same : at_level 0 e ≡ p = (let found : Some (at_level 0 e) ≡ Some p = is in cc) in subst (λ p. Listed p.term) same (listed e)
  all_listed (Last e) (suc j) p is = absurd (let bad : None ≡ Some p = is in cc)
  all_listed (More e es) zero p is = let same : at_level 0 e ≡ p = (let found : Some (at_level 0 e) ≡ Some p = is in cc) in subst (λ p. Listed p.term) same (listed e)
  all_listed (More e es) (suc j) p is = all_listed es j p is

-- ---- of a tree, and of cursors

shown_places : (u : Tree) (t : Term) → meaning u ≡ IsTerm t → filter (λ q. shows_term (subtree u q)) (places u) ≡ map (λ q. operand_place q u t) ([] ∷ below t)
shown_places (token k x) t e = absurd (let bad : IsSign (leaf k x) ≡ IsTerm t = e in cc)
shown_places (node k c) t e =
    cong₂ (λ b ps. cond b ([] ∷ ps) ps) (ap is_term e)
    (selected_from shows_term (λ q. shows_term (subtree (node k c) q)) 0 c (λ j q. let here : 0 + j ≡ j = omega arith in ap (λ n. shows_term (subtree (child_at c n) q)) here)
    ∙ listed t (node k c) e)

pub term_places : (r : Cursor) (t : Term) → meaning (focus r) ≡ IsTerm t → filter (λ d. shows_term (focus d)) (descendants_of r) ≡ map (operand_cursor r t) ([] ∷ below t)
term_places r t e =
    filter-map (λ d. shows_term (focus d)) (λ q. at_place r (r.place ++ q)) (places (focus r))
    ∙ ap (map (λ q. at_place r (r.place ++ q)))
    (filter-same (λ q. shows_term (subtree r.tree (r.place ++ q))) (λ q. shows_term (subtree (focus r) q)) (λ q. ap shows_term (subtree-append r.tree r.place q)) (places (focus r))
    ∙ shown_places (focus r) t e)
    ∙ map-map (λ q. at_place r (r.place ++ q)) (λ q. operand_place q (focus r) t) ([] ∷ below t)
