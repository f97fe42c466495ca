-- Pairs of a tree that shows a term: which may go, and where they are.
use Rattle.std.proofs.Common.{◌≡◌, ◌+◌, ◌++◌, ℕ, zero, suc, List, [], ◌∷◌, Bool, true, false, not, ◌&&◌, cond, map, drop, length, get_or, Option, Some, None, option_and_then, option_map, refl, sym, ap, subst, ◌∙◌, arith, append-nil}
use Rattle.std.specs.List.{filter, find, list_all, range_with_len}
use Rattle.syntax_kind.specs.declared.syntax_kind.SyntaxKind.{SyntaxKind}
use Rattle.syntax_kind.specs.Kinds.{is_trivia}
use Rattle.tree_model.specs.Tree.{Tree, node, token, Forest, nil, cons, places, places_from, subtree, child_at, child_count, forest_of_children, kind_of, is_node}
use Rattle.tree_model.specs.Cursor.{Cursor, focus, at_place, at_node, children_of, descendants_of, parent_of}
use Rattle.tree_model.specs.Every.{every, every_in}
use Rattle.tree_model.proofs.EveryLaws.{every_is_descendants}
use Rattle.tree_model.proofs.At.{cong₂}
use Rattle.operator_terms.specs.Token.{Token}
use Rattle.operator_terms.specs.Term.{Term, Literal, Name, Paren, Field, Await, Try, Cast, Method, Call, Index, Prefix, Borrow, Binary, RangeFull, RangeFrom, RangeTo, Range, Terms, NoTerms, Last, More, tokens}
use Rattle.operator_terms.specs.Operators.{left_demand, right_demand}
use Rattle.operator_terms.specs.Reading.{Reads, begins_with_angle}
use Rattle.operator_terms.specs.Places.{Demand, AtLeast, Callee, Part, part, part_at, argument, operand}
use Rattle.operator_terms.specs.Pairs.{fits_before}
use Rattle.operator_terms.specs.Sign.{Opens, Closes}
use Rattle.operator_terms.proofs.Paired.{fits_before-fits}
use Rattle.operator_trees.specs.declared.form.Form.{Form}
use Rattle.operator_trees.specs.declared.form.Form.TheVariants as form
use Rattle.operator_trees.specs.Forms.{form_of}
use Rattle.operator_trees.specs.Shown.{Meaning, IsSign, IsTerm, IsName, IsSegment, IsPath, IsType, IsArguments, IsNothing, leaf, means, meanings, meaning, is_right, shown, term_of}
use Rattle.operator_reading.specs.Reads.{ReadsBack}
use Rattle.operator_trees.specs.Shape.{term_form, blank, erase, blank_of}
use Rattle.operator_trees.specs.Before.{kids, no_kid}
use Rattle.operator_trees.specs.Leaves.{leaves_behind}
use Rattle.operator_trees.proofs.Inversion.{no, no_sign, strict, all_right, erased}
use Rattle.operator_trees.proofs.Operands.{told_parts}
use Rattle.operator_trees.proofs.Tokens.{and_both}
use Rattle.operator_powers.specs.Rules.{form_at, kid_place}
use Rattle.operator_powers.proofs.Cursors.{form_told, not_foreign, subtree-child}
use Rattle.operator_pairs.proofs.Deep.{inside_shown}
use Rattle.operator_pairs.specs.Listed.{under, below, below_arguments, is_term, shows_term}
use Rattle.operator_pairs.specs.Pairs.{operand_cursor, angle_behind, asks, is_paren, may_go_from, is_needless, inside_fits, part_fits, may_go, is_pair_term, reads_without, needless_pairs, pairs_read_without, nodes_below, AreNeedless, NeedlessOf}
use Rattle.operator_pairs.proofs.Listed.{filter-map, term_places}
use Rattle.operator_pairs.proofs.Ties.{needless_reads}
use Rattle.operator_pairs.proofs.Asked.{AskedAt, asked_at}

-- ---- the inside of a pair is its first child node

first_node : ℕ → Forest → Option ℕ
first_node i nil = None
first_node i (cons (token k t) r) = first_node (suc i) r
first_node i (cons (node k c) r) = Some i

first_term : (i b : ℕ) (c : Forest) (e : Term) (ms : List Meaning) → meanings c ≡ IsTerm e ∷ ms → first_node i c ≡ Some (get_or (kids i b c) 0 no_kid).number
unfolding first_node
first_term i b nil e ms h = absurd (let bad : [] ≡ IsTerm e ∷ ms = h in cc)
first_term i b (cons (token k t) r) e ms h = skip (first_term (suc i) (b + length t) r e ms) (is_trivia k) h
  where
    skip : (meanings r ≡ IsTerm e ∷ ms → first_node (suc i) r ≡ Some (get_or (kids (suc i) (b + length t) r) 0 no_kid).number) → (y : Bool) → cond y (meanings r) (IsSign (leaf k t) ∷ meanings r) ≡ IsTerm e ∷ ms
        → first_node (suc i) r ≡ Some (get_or (cond y (kids (suc i) (b + length t) r) (record { number = i; start = b; tree = token k t } ∷ kids (suc i) (b + length t) r)) 0 no_kid).number
    skip each true h = each h
    skip each false h = absurd (let bad : IsSign (leaf k t) ∷ meanings r ≡ IsTerm e ∷ ms = h in cc)
first_term i b (cons (node k c) r) e ms h = refl

head_is : (m n : Meaning) (ms ns : List Meaning) → m ∷ ms ≡ n ∷ ns → (m ≡ n) × (ms ≡ ns)
head_is m n ms ns e = (cc, cc)

second_term : (i b : ℕ) (c : Forest) (s : Meaning) (e : Term) (ms : List Meaning) → ((k : SyntaxKind) (d : Forest) → means (form_of k) (meanings d) ≡ s → ⊥) → meanings c ≡ s ∷ (IsTerm e ∷ ms) → first_node i c ≡ Some (get_or (kids i b c) 1 no_kid).number
unfolding first_node
second_term i b nil s e ms sign h = absurd (let bad : [] ≡ s ∷ (IsTerm e ∷ ms) = h in cc)
second_term i b (cons (token k t) r) s e ms sign h = skip (second_term (suc i) (b + length t) r s e ms sign) (first_term (suc i) (b + length t) r e ms) (is_trivia k) h
  where
    skip : (meanings r ≡ s ∷ (IsTerm e ∷ ms) → first_node (suc i) r ≡ Some (get_or (kids (suc i) (b + length t) r) 1 no_kid).number)
        → (meanings r ≡ IsTerm e ∷ ms → first_node (suc i) r ≡ Some (get_or (kids (suc i) (b + length t) r) 0 no_kid).number)
        → (y : Bool) → cond y (meanings r) (IsSign (leaf k t) ∷ meanings r) ≡ s ∷ (IsTerm e ∷ ms)
        → first_node (suc i) r ≡ Some (get_or (cond y (kids (suc i) (b + length t) r) (record { number = i; start = b; tree = token k t } ∷ kids (suc i) (b + length t) r)) 1 no_kid).number
    skip each next true h = each h
    skip each next false h = next (head_is (IsSign (leaf k t)) s (meanings r) (IsTerm e ∷ ms) h).1
second_term i b (cons (node k c) r) s e ms sign h = absurd (sign k c (head_is (means (form_of k) (meanings c)) s (meanings r) (IsTerm e ∷ ms) h).0)

find_first : (d : Cursor) (k : ℕ) (c : Forest) → ((j : ℕ) → at_node (at_place d (d.place ++ (k + j) ∷ [])) ≡ is_node (child_at c j))
    → find at_node (map (at_place d) (map (λ i. d.place ++ i ∷ []) (range_with_len k (child_count c)))) ≡ option_map (λ i. at_place d (d.place ++ i ∷ [])) (first_node k c)
unfolding first_node
find_first d k nil same = refl
find_first d k (cons (token n t) r) same =
    let first : k ≡ k + 0 = omega arith in
    let here : at_node (at_place d (d.place ++ k ∷ [])) ≡ false = ap (λ i. at_node (at_place d (d.place ++ i ∷ []))) first ∙ same 0 in
    let on : k + 1 ≡ suc k = omega arith in
    ap (λ b. cond b (Some (at_place d (d.place ++ k ∷ []))) (find at_node (map (at_place d) (map (λ i. d.place ++ i ∷ []) (range_with_len (k + 1) (child_count r)))))) here
    ∙ ap (λ i. find at_node (map (at_place d) (map (λ i. d.place ++ i ∷ []) (range_with_len i (child_count r))))) on
    ∙ find_first d (suc k) r (λ j. let later : suc k + j ≡ k + suc j = omega arith in ap (λ i. at_node (at_place d (d.place ++ i ∷ []))) later ∙ same (suc j))
find_first d k (cons (node n c) r) same =
    let first : k ≡ k + 0 = omega arith in
    let here : at_node (at_place d (d.place ++ k ∷ [])) ≡ true = ap (λ i. at_node (at_place d (d.place ++ i ∷ []))) first ∙ same 0 in
    ap (λ b. cond b (Some (at_place d (d.place ++ k ∷ []))) (find at_node (map (at_place d) (map (λ i. d.place ++ i ∷ []) (range_with_len (k + 1) (child_count r)))))) here

pub inside_found : (d : Cursor) (e : Term) → meaning (focus d) ≡ IsTerm (Paren e) → find at_node (children_of d) ≡ Some (kid_place d 1)
inside_found d e shows =
    find_first d 0 (forest_of_children (focus d)) (λ j. let here : 0 + j ≡ j = omega arith in ap (λ i. at_node (at_place d (d.place ++ i ∷ []))) here ∙ ap is_node (subtree-child d.tree d.place j))
    ∙ ap (option_map (λ i. at_place d (d.place ++ i ∷ [])))
    (second_term 0 0 (forest_of_children (focus d)) (IsSign Opens) e (IsSign Closes ∷ []) (λ k c h. no_sign (form_of k) (meanings c) Opens h) (told_parts (focus d) (Paren e) shows))

-- ---- of one operand

same_bool : (a b : Bool) → (a ≡ false → b ≡ true) → (b ≡ true → a ≡ false) → not a ≡ b
same_bool true true f g = absurd (no (sym (g refl)))
same_bool true false f g = refl
same_bool false b f g = sym (f refl)

pair_form : (t : Term) → is_paren (term_form t) ≡ is_pair_term t
pair_form (Paren e) = refl
pair_form _ = refl

unpaired : (d : Demand) (angle : Bool) (t : Term) → is_pair_term t ≡ false → inside_fits d angle t ≡ false
unpaired d angle (Paren e) h = absurd (no (sym h))
unpaired d angle _ h = refl

pub needless_at : (r : Cursor) (t : Term) (i : ℕ) (q : List ℕ) (held : Part) → meaning (focus r) ≡ IsTerm t → operand t (i ∷ q) ≡ Some held
    → is_needless (operand_cursor r t (i ∷ q)) ≡ may_go (leaves_behind r.tree r.place) t (i ∷ q)
needless_at r t i q held shows is =
    let d : Cursor = operand_cursor r t (i ∷ q) in
    let a : AskedAt r t (i ∷ q) held = asked_at r t i q held shows is in
    ap (λ b. b && may_go_from (find at_node (children_of d)) (parent_of d) d) (ap is_paren (form_told (focus d) held.term a.shows) ∙ pair_form held.term)
    ∙ by held.term refl
    ∙ ap (part_fits (angle_behind r t (i ∷ q))) (sym is)
  where
    by : (s : Term) → held.term ≡ s → (is_pair_term s && may_go_from (find at_node (children_of (operand_cursor r t (i ∷ q)))) (parent_of (operand_cursor r t (i ∷ q))) (operand_cursor r t (i ∷ q))) ≡ inside_fits held.demand (angle_behind r t (i ∷ q)) s
    by (Paren e) same =
        let d : Cursor = operand_cursor r t (i ∷ q) in
        let a : AskedAt r t (i ∷ q) held = asked_at r t i q held shows is in
        let pair : meaning (focus d) ≡ IsTerm (Paren e) = a.shows ∙ ap IsTerm same in
        let inside : meaning (focus (kid_place d 1)) ≡ IsTerm e = inside_shown d e pair in
        let f = a.fits (kid_place d 1) e inside in
        let g = fits_before-fits held.demand (angle_behind r t (i ∷ q)) e in
        ap (λ o. may_go_from o (parent_of d) d) (inside_found d e pair)
        ∙ ap (λ o. may_go_from (Some (kid_place d 1)) o d) a.is_parent
        ∙ ap (λ b. not b && not (asks (kid_place d 1) a.parent d)) (not_foreign (focus (kid_place d 1)) e inside)
        ∙ same_bool (asks (kid_place d 1) a.parent d) (fits_before held.demand (angle_behind r t (i ∷ q)) e) (λ h. g.1 (f.0 h)) (λ h. f.1 (g.0 h))
    by _ same = refl

-- ---- all places below the root are those of operands

abbrev pub AllOf : {A : Type 0} → (A → Type 0) → List A → Type 0
AllOf P [] = Unit {0}
AllOf P (x ∷ xs) = P x × AllOf P xs

abbrev Stays : Term → List ℕ → Type 0
Stays t q = (d : Demand) → (p : Part) × (part_at d t q ≡ Some p)

-- a place below the root
abbrev pub IsBelow : Term → List ℕ → Type 0
IsBelow t [] = ⊥
IsBelow t (i ∷ q) = Stays t (i ∷ q)

all-append : {A : Type 0} (P : A → Type 0) (xs ys : List A) → AllOf P xs → AllOf P ys → AllOf P (xs ++ ys)
all-append P [] ys h g = g
all-append P (x ∷ xs) ys h g = (h.0, all-append P xs ys h.1 g)

below-stays : (t : Term) (q : List ℕ) → IsBelow t q → Stays t q
below-stays t [] h = absurd h
below-stays t (i ∷ q) h = h

one_under : (t : Term) (i : ℕ) (p : Part) (q : List ℕ) → part t i ≡ Some p → Stays p.term q → IsBelow t (i ∷ q)
one_under t i p q is h = λ d. let x = h p.demand in (x.0, ap (option_and_then (λ p. part_at p.demand p.term q)) is ∙ x.1)

all_under : (t : Term) (i : ℕ) (p : Part) → part t i ≡ Some p → AllOf (IsBelow p.term) (below p.term) → AllOf (IsBelow t) (under i (below p.term))
all_under t i p is h = (one_under t i p [] is (λ d. (record { demand = d; term = p.term }, refl)), others (below p.term) h)
  where
    others : (qs : List (List ℕ)) → AllOf (IsBelow p.term) qs → AllOf (IsBelow t) (map (λ q. i ∷ q) qs)
    others [] h = tt
    others (q ∷ qs) h = (one_under t i p q is (below-stays p.term q h.0), others qs h.1)

-- the arguments of a form, from part i on
all_arguments : (t : Term) (i : ℕ) (args : Terms) → ((j : ℕ) (p : Part) → argument args j ≡ Some p → (part t (i + j) ≡ Some p) × AllOf (IsBelow p.term) (below p.term)) → AllOf (IsBelow t) (below_arguments i args)
all_arguments t i NoTerms each = tt
all_arguments t i (Last e) each =
    let h = each 0 (record { demand = AtLeast 0; term = e }) refl in
    let first : i + 0 ≡ i = omega arith in
    all_under t i (record { demand = AtLeast 0; term = e }) (ap (part t) (sym first) ∙ h.0) h.1
all_arguments t i (More e es) each =
    let h = each 0 (record { demand = AtLeast 0; term = e }) refl in
    let first : i + 0 ≡ i = omega arith in
    all-append (IsBelow t) (under i (below e)) (below_arguments (suc i) es)
    (all_under t i (record { demand = AtLeast 0; term = e }) (ap (part t) (sym first) ∙ h.0) h.1)
    (all_arguments t (suc i) es (λ j p is. let g = each (suc j) p is in let later : suc i + j ≡ i + suc j = omega arith in (ap (part t) later ∙ g.0, g.1)))

abbrev at_level : ℕ → Term → Part
at_level n e = record { demand = AtLeast n; term = e }

two_under : (t : Term) (l r : Part) → part t 0 ≡ Some l → part t 1 ≡ Some r → AllOf (IsBelow l.term) (below l.term) → AllOf (IsBelow r.term) (below r.term) → AllOf (IsBelow t) (under 0 (below l.term) ++ under 1 (below r.term))
two_under t l r e f h g = all-append (IsBelow t) (under 0 (below l.term)) (under 1 (below r.term)) (all_under t 0 l e h) (all_under t 1 r f g)

mutual
  pub all_below : (t : Term) → AllOf (IsBelow t) (below t)
  all_below (Literal k x) = tt
  all_below (Name x) = tt
  all_below RangeFull = tt
  all_below (Paren e) = all_under (Paren e) 0 (at_level 0 e) refl (all_below e)
  all_below (Field e n) = all_under (Field e n) 0 (at_level 13 e) refl (all_below e)
  all_below (Await e) = all_under (Await e) 0 (at_level 13 e) refl (all_below e)
  all_below (Try e) = all_under (Try e) 0 (at_level 13 e) refl (all_below e)
  all_below (Cast e n) = all_under (Cast e n) 0 (at_level 11 e) refl (all_below e)
  all_below (Prefix op e) = all_under (Prefix op e) 0 (at_level 12 e) refl (all_below e)
  all_below (Borrow m e) = all_under (Borrow m e) 0 (at_level 12 e) refl (all_below e)
  all_below (RangeFrom e) = all_under (RangeFrom e) 0 (at_level 2 e) refl (all_below e)
  all_below (RangeTo x e) = all_under (RangeTo x e) 0 (at_level 2 e) refl (all_below e)
  all_below (Range x l r) = two_under (Range x l r) (at_level 2 l) (at_level 2 r) refl refl (all_below l) (all_below r)
  all_below (Binary op l r) = two_under (Binary op l r) (at_level (left_demand op) l) (at_level (right_demand op) r) refl refl (all_below l) (all_below r)
  all_below (Index l r) = two_under (Index l r) (at_level 13 l) (at_level 0 r) refl refl (all_below l) (all_below r)
  all_below (Method e n args) =
      all-append (IsBelow (Method e n args)) (under 0 (below e)) (below_arguments 1 args) (all_under (Method e n args) 0 (at_level 13 e) refl (all_below e))
      (all_arguments (Method e n args) 1 args (λ j p is. let next : 1 + j ≡ suc j = omega arith in (ap (part (Method e n args)) next ∙ is, each_below args j p is)))
  all_below (Call e args) =
      all-append (IsBelow (Call e args)) (under 0 (below e)) (below_arguments 1 args) (all_under (Call e args) 0 (record { demand = Callee; term = e }) refl (all_below e))
      (all_arguments (Call e args) 1 args (λ j p is. let next : 1 + j ≡ suc j = omega arith in (ap (part (Call e args)) next ∙ is, each_below args j p is)))

  each_below : (args : Terms) (j : ℕ) (p : Part) → argument args j ≡ Some p → AllOf (IsBelow p.term) (below p.term)
  each_below NoTerms j p is = absurd (let bad : None ≡ Some p = is in cc)
  each_below (Last e) zero p is = let same : at_level 0 e ≡ p = (let found : Some (at_level 0 e) ≡ Some p = is in cc) in subst (λ p. AllOf (IsBelow p.term) (below p.term)) same (all_below e)
  each_below (Last e) (suc j) p is = absurd (let bad : None ≡ Some p = is in cc)
  each_below (More e es) zero p is = let same : at_level 0 e ≡ p = (let found : Some (at_level 0 e) ≡ Some p = is in cc) in subst (λ p. AllOf (IsBelow p.term) (below p.term)) same (all_below e)
  each_below (More e es) (suc j) p is = each_below es j p is

pub filter-all : {A : Type 0} (f g : A → Bool) (xs : List A) → AllOf (λ x. f x ≡ g x) xs → filter f xs ≡ filter g xs
filter-all f g [] h = refl
filter-all f g (x ∷ xs) h = cong₂ (λ b ys. cond b (x ∷ ys) ys) h.0 (filter-all f g xs h.1)

pub all-map : {A : Type 0} (P Q : A → Type 0) → ((x : A) → P x → Q x) → (xs : List A) → AllOf P xs → AllOf Q xs
all-map P Q f [] h = tt
all-map P Q f (x ∷ xs) h = (f x h.0, all-map P Q f xs h.1)

-- ---- each tree in one that shows a term means something

right_in : (c : Forest) → all_right (meanings c) ≡ true → every_in (λ u. is_right (meaning u)) c ≡ true
right_in nil h = refl
right_in (cons (token k t) r) h = skip (right_in r) (is_trivia k) h
  where
    skip : (all_right (meanings r) ≡ true → every_in (λ u. is_right (meaning u)) r ≡ true) → (y : Bool) → all_right (cond y (meanings r) (IsSign (leaf k t) ∷ meanings r)) ≡ true → every_in (λ u. is_right (meaning u)) r ≡ true
    skip each true h = each h
    skip each false h = each h
right_in (cons (node k c) r) h =
    let s = and_both (is_right (means (form_of k) (meanings c))) (all_right (meanings r)) h in
    cong₂ (λ a b. a && b) s.0 (cong₂ (λ a b. a && b) (right_in c (strict (form_of k) (meanings c) s.0)) (right_in r s.1))

right_every : (u : Tree) → is_right (meaning u) ≡ true → every (λ u. is_right (meaning u)) u ≡ true
right_every (token k x) h = refl
right_every (node k c) h = cong₂ (λ a b. a && b) h (right_in c (strict (form_of k) (meanings c) h))

-- a node that shows no term is no pair
not_paren : (u : Tree) → is_right (meaning u) ≡ true → (is_node u && is_paren (form_of (kind_of u))) ≡ (shows_term u && is_paren (form_of (kind_of u)))
not_paren (token k x) h = refl
not_paren (node k c) h = by (form_of k) (means (form_of k) (meanings c)) (erased (form_of k) (meanings c) h) h
  where
    by : (f : Form) (m : Meaning) → erase m ≡ blank_of f → is_right m ≡ true → is_paren f ≡ (is_term m && is_paren f)
    by f (IsTerm t) e h = refl
    by form.Paren (IsSign s) e h = absurd (let bad : IsSign s ≡ IsTerm blank = e in cc)
    by form.Paren (IsName n) e h = absurd (let bad : IsName [] ≡ IsTerm blank = e in cc)
    by form.Paren (IsSegment n) e h = absurd (let bad : IsSegment [] ≡ IsTerm blank = e in cc)
    by form.Paren (IsPath n) e h = absurd (let bad : IsPath [] ≡ IsTerm blank = e in cc)
    by form.Paren (IsType n) e h = absurd (let bad : IsType [] ≡ IsTerm blank = e in cc)
    by form.Paren (IsArguments a) e h = absurd (let bad : IsArguments NoTerms ≡ IsTerm blank = e in cc)
    by form.Paren IsNothing e h = absurd (no h)
    by _ m e h = sym (and-false (is_term m))
      where
        and-false : (b : Bool) → (b && false) ≡ false
        and-false true = refl
        and-false false = refl

and_swap : (a b p m : Bool) → (a && p) ≡ (b && p) → (a && (p && m)) ≡ (b && (p && m))
and_swap true b true m h = ap (λ x. x && m) (h ∙ and-true b)
  where
    and-true : (b : Bool) → (b && true) ≡ b
    and-true true = refl
    and-true false = refl
and_swap false b true m h = ap (λ x. x && m) (h ∙ and-true b)
  where
    and-true : (b : Bool) → (b && true) ≡ b
    and-true true = refl
    and-true false = refl
and_swap true true false m h = refl
and_swap true false false m h = refl
and_swap false true false m h = refl
and_swap false false false m h = refl

needless_shown : (d : Cursor) → is_right (meaning (focus d)) ≡ true → (at_node d && is_needless d) ≡ (shows_term (focus d) && is_needless d)
needless_shown d h = and_swap (at_node d) (shows_term (focus d)) (is_paren (form_at d)) (may_go_from (find at_node (children_of d)) (parent_of d) d) (not_paren (focus d) h)

-- two filters that agree where a third test holds
kept : {A : Type 0} (p q s w : A → Bool) → ((x : A) → w x ≡ true → (q x && p x) ≡ (s x && p x)) → (xs : List A) → list_all w xs ≡ true → filter p (filter q xs) ≡ filter p (filter s xs)
kept p q s w h [] g = refl
kept p q s w h (x ∷ xs) g =
    let both = and_both (w x) (list_all w xs) g in
    by (q x) (s x) (p x) refl (h x both.0) (kept p q s w h xs both.1)
  where
    by : (a b c : Bool) → p x ≡ c → (a && p x) ≡ (b && p x) → filter p (filter q xs) ≡ filter p (filter s xs) → filter p (cond a (x ∷ filter q xs) (filter q xs)) ≡ filter p (cond b (x ∷ filter s xs) (filter s xs))
    by true true c e f same = ap (λ ys. cond (p x) (x ∷ ys) ys) same
    by true false c e f same = ap (λ y. cond y (x ∷ filter p (filter q xs)) (filter p (filter q xs))) f ∙ same
    by false true c e f same = same ∙ ap (λ y. cond y (x ∷ filter p (filter s xs)) (filter p (filter s xs))) f
    by false false c e f same = same

-- ---- the pairs below the root

abbrev tail_of : {A : Type 0} → List A → List A
tail_of xs = drop 1 xs

nodes_kept : (r : Cursor) (t : Term) → meaning (focus r) ≡ IsTerm t → filter is_needless (nodes_below r) ≡ filter is_needless (map (operand_cursor r t) (below t))
nodes_kept r t shows = by (focus r) refl
  where
    by : (u : Tree) → focus r ≡ u → filter is_needless (nodes_below r) ≡ filter is_needless (map (operand_cursor r t) (below t))
    by (token k x) e = absurd (let bad : IsSign (leaf k x) ≡ IsTerm t = ap meaning (sym e) ∙ shows in cc)
    by (node k c) e =
        let first : Cursor = at_place r (r.place ++ []) in
        let rest : List Cursor = map (λ q. at_place r (r.place ++ q)) (places_from 0 c) in
        let all : descendants_of r ≡ first ∷ rest = ap (λ u. map (λ q. at_place r (r.place ++ q)) (places u)) e in
        let here : focus first ≡ node k c = ap (subtree r.tree) (append-nil r.place) ∙ e in
        let right : list_all (λ d. is_right (meaning (focus d))) (first ∷ rest) ≡ true =
        ap (list_all (λ d. is_right (meaning (focus d)))) (sym all) ∙ sym (every_is_descendants (λ u. is_right (meaning u)) r) ∙ right_every (focus r) (ap is_right shows) in
        let rest_right = (and_both (is_right (meaning (focus first))) (list_all (λ d. is_right (meaning (focus d))) rest) right).1 in
        let left : nodes_below r ≡ filter at_node rest =
        ap (λ ds. tail_of (filter at_node ds)) all ∙ ap (λ b. tail_of (cond b (first ∷ filter at_node rest) (filter at_node rest))) (ap is_node here) in
        let shown_first : shows_term (focus first) ≡ true = ap (λ u. is_term (meaning u)) (here ∙ sym e) ∙ ap is_term shows in
        let others : filter (λ d. shows_term (focus d)) rest ≡ map (operand_cursor r t) (below t) =
        ap (λ b. tail_of (cond b (first ∷ filter (λ d. shows_term (focus d)) rest) (filter (λ d. shows_term (focus d)) rest))) (sym shown_first)
        ∙ ap (λ ds. tail_of (filter (λ d. shows_term (focus d)) ds)) (sym all)
        ∙ ap tail_of (term_places r t shows) in
        ap (filter is_needless) left
        ∙ kept is_needless at_node (λ d. shows_term (focus d)) (λ d. is_right (meaning (focus d))) needless_shown rest rest_right
        ∙ ap (filter is_needless) others

-- of each place below the root: what is asked there
each_place : (r : Cursor) (t : Term) → meaning (focus r) ≡ IsTerm t → (q : List ℕ) → IsBelow t q → is_needless (operand_cursor r t q) ≡ may_go (leaves_behind r.tree r.place) t q
each_place r t shows [] h = absurd h
each_place r t shows (i ∷ q) h = let p = h (AtLeast 0) in needless_at r t i q p.0 shows p.1

pub needless_listed : (r : Cursor) (t : Term) → meaning (focus r) ≡ IsTerm t → filter is_needless (nodes_below r) ≡ needless_pairs r t
needless_listed r t shows =
    nodes_kept r t shows
    ∙ filter-map is_needless (operand_cursor r t) (below t)
    ∙ ap (map (operand_cursor r t))
    (filter-all (λ q. is_needless (operand_cursor r t q)) (may_go (leaves_behind r.tree r.place) t) (below t)
    (all-map (IsBelow t) (λ q. is_needless (operand_cursor r t q) ≡ may_go (leaves_behind r.tree r.place) t q) (each_place r t shows) (below t) (all_below t)))

-- and where neither `<` nor `<<` follows the whole: what reads without it
each_read : (following : List Token) (t : Term) → Reads 0 (tokens t) t → begins_with_angle following ≡ false → (q : List ℕ) → IsBelow t q → may_go following t q ≡ reads_without t q
each_read following t reads angle [] h = absurd h
each_read following t reads angle (i ∷ q) h = let p = h (AtLeast 0) in needless_reads following t i q p.0 p.1 reads angle

pub needless_read : (r : Cursor) (t : Term) → Reads 0 (tokens t) t → begins_with_angle (leaves_behind r.tree r.place) ≡ false → needless_pairs r t ≡ pairs_read_without r t
needless_read r t reads angle =
    let following : List Token = leaves_behind r.tree r.place in
    ap (map (operand_cursor r t))
    (filter-all (may_go following t) (reads_without t) (below t)
    (all-map (IsBelow t) (λ q. may_go following t q ≡ reads_without t q) (each_read following t reads angle) (below t) (all_below t)))

pub are_needless : (r : Cursor) (t : Term) (pairs : List Cursor) → meaning (focus r) ≡ IsTerm t → Reads 0 (tokens t) t → pairs ≡ filter is_needless (nodes_below r) → AreNeedless r pairs t
are_needless r t pairs shows reads is = (reads, is ∙ needless_listed r t shows, λ angle. is ∙ needless_listed r t shows ∙ needless_read r t reads angle)

-- ---- as the answers have it

pub reading_pairs : (c : Cursor) (pairs : List Cursor) → ReadsBack (Some true) (shown (focus c)) → pairs ≡ filter is_needless (nodes_below c) → NeedlessOf c (Some pairs) (shown (focus c))
reading_pairs c pairs h is = by (meaning (focus c)) refl h
  where
    by : (m : Meaning) → meaning (focus c) ≡ m → ReadsBack (Some true) (term_of m) → NeedlessOf c (Some pairs) (term_of m)
    by (IsTerm t) e h = are_needless c t pairs e (h.0.0 refl) is
    by _ e h = absurd h

pub unread_none : (c : Cursor) → ReadsBack (Some false) (shown (focus c)) → NeedlessOf c None (shown (focus c))
unread_none c h = by (shown (focus c)) h
  where
    by : (o : Option Term) → ReadsBack (Some false) o → NeedlessOf c None o
    by (Some t) h = λ reads. no (h.0.1 reads)
    by None h = absurd h

pub unshown_none : (c : Cursor) → ReadsBack None (shown (focus c)) → NeedlessOf c None (shown (focus c))
unshown_none c h = by (shown (focus c)) h
  where
    by : (o : Option Term) → ReadsBack None o → NeedlessOf c None o
    by (Some t) h = absurd h
    by None h = tt
