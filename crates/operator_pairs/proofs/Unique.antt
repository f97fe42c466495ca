-- Two operands of a term are at two places.
use Rattle.std.proofs.Common.{◌≡◌, ◌≤◌, ◌<◌, ◌+◌, ◌++◌, ℕ, zero, suc, List, [], ◌∷◌, Bool, true, false, cond, length, get_or, Option, Some, None, option_and_then, refl, sym, ap, ◌∙◌, arith}
use Rattle.std.specs.Prelude.{nat_lt}
use Rattle.std.proofs.lemmas.Bool.{ltb-true, ltb-false}
use Rattle.std.proofs.lemmas.List.{length-map}
use Rattle.syntax_kind.specs.Kinds.{is_trivia}
use Rattle.tree_model.specs.Tree.{Tree, node, token, Forest, nil, cons, Place, subtree, forest_of_children, text}
use Rattle.operator_terms.specs.Term.{Term, Method, Call, Index, Binary, Range, Paren, Terms}
use Rattle.operator_terms.specs.Places.{Demand, AtLeast, Part, part, part_at, argument}
use Rattle.operator_terms.specs.Sign.{Opens}
use Rattle.operator_trees.specs.Shown.{Meaning, IsSign, IsTerm, IsArguments, IsNothing, meaning, meanings}
use Rattle.operator_trees.specs.Shape.{kid_meanings, argument_meanings}
use Rattle.operator_trees.specs.Before.{kids, no_kid, kid_at, argument_kid, argument_index}
use Rattle.operator_trees.specs.Operands.{part_place, operand_place, below_part}
use Rattle.operator_trees.proofs.Sides.{meanings-kids, is_some}
use Rattle.operator_trees.proofs.Tokens.{sound-term}
use Rattle.operator_trees.proofs.Operands.{Stands, PartStands, kid_stands, part_stands_at, told_parts, arguments_told, among-length}

-- numbers of kids rise
number_from : (i b : ℕ) (c : Forest) (k : ℕ) → k < length (kids i b c) → i ≤ (get_or (kids i b c) k no_kid).number
number_from i b nil k h = absurd (omega arith)
number_from i b (cons (token n t) r) k h = skip (number_from (suc i) (b + length t) r) (is_trivia n) k h
  where
    skip : ((k : ℕ) → k < length (kids (suc i) (b + length t) r) → suc i ≤ (get_or (kids (suc i) (b + length t) r) k no_kid).number)
        → (y : Bool) (k : ℕ) → k < length (cond y (kids (suc i) (b + length t) r) (record { number = i; start = b; tree = token n t } ∷ kids (suc i) (b + length t) r))
        → i ≤ (get_or (cond y (kids (suc i) (b + length t) r) (record { number = i; start = b; tree = token n t } ∷ kids (suc i) (b + length t) r)) k no_kid).number
    skip each true k h = omega (arith, each k h)
    skip each false zero h = omega arith
    skip each false (suc k) h = omega (arith, each k (omega arith))
number_from i b (cons (node n c) r) zero h = omega arith
number_from i b (cons (node n c) r) (suc k) h = omega (arith, number_from (suc i) (b + length (text (node n c))) r k (omega arith))

numbers_rise : (i b : ℕ) (c : Forest) (j k : ℕ) → j < k → k < length (kids i b c) → (get_or (kids i b c) j no_kid).number < (get_or (kids i b c) k no_kid).number
numbers_rise i b nil j k l h = absurd (omega arith)
numbers_rise i b (cons (token n t) r) j k l h = skip (numbers_rise (suc i) (b + length t) r) (number_from (suc i) (b + length t) r) (is_trivia n) j k l h
  where
    skip : ((j k : ℕ) → j < k → k < length (kids (suc i) (b + length t) r) → (get_or (kids (suc i) (b + length t) r) j no_kid).number < (get_or (kids (suc i) (b + length t) r) k no_kid).number)
        → ((k : ℕ) → k < length (kids (suc i) (b + length t) r) → suc i ≤ (get_or (kids (suc i) (b + length t) r) k no_kid).number)
        → (y : Bool) (j k : ℕ) → j < k → k < length (cond y (kids (suc i) (b + length t) r) (record { number = i; start = b; tree = token n t } ∷ kids (suc i) (b + length t) r))
        → (get_or (cond y (kids (suc i) (b + length t) r) (record { number = i; start = b; tree = token n t } ∷ kids (suc i) (b + length t) r)) j no_kid).number
        < (get_or (cond y (kids (suc i) (b + length t) r) (record { number = i; start = b; tree = token n t } ∷ kids (suc i) (b + length t) r)) k no_kid).number
    skip each from true j k l h = each j k l h
    skip each from false j zero l h = absurd (omega (arith, l))
    skip each from false zero (suc k) l h = omega (arith, from k (omega arith))
    skip each from false (suc j) (suc k) l h = each j k (omega (arith, l)) (omega arith)
numbers_rise i b (cons (node n c) r) j zero l h = absurd (omega (arith, l))
numbers_rise i b (cons (node n c) r) zero (suc k) l h = omega (arith, number_from (suc i) (b + length (text (node n c))) r k (omega arith))
numbers_rise i b (cons (node n c) r) (suc j) (suc k) l h = numbers_rise (suc i) (b + length (text (node n c))) r j k (omega (arith, l)) (omega arith)

kid_count : (c : Forest) (ms : List Meaning) → meanings c ≡ ms → length (kids 0 0 c) ≡ length ms
kid_count c ms e = sym (length-map (kids 0 0 c) (λ k. meaning k.tree)) ∙ ap length (meanings-kids 0 0 c ∙ e)

kids_apart : (c : Forest) (ms : List Meaning) (j k : ℕ) → meanings c ≡ ms → j < k → k < length ms → (kid_at c j).number ≡ (kid_at c k).number → ⊥
kids_apart c ms j k e l h same = let rise = numbers_rise 0 0 c j k l (omega (arith, kid_count c ms e, h)) in omega (arith, rise, same)

head_same : (m n : ℕ) (x y : Place) → m ∷ x ≡ n ∷ y → m ≡ n
head_same m n x y e = cc

argument_rise : (j k : ℕ) → j < k → argument_index j < argument_index k
argument_rise j zero l = absurd (omega (arith, l))
argument_rise zero (suc k) l = omega arith
argument_rise (suc j) (suc k) l = omega (arith, argument_rise j k (omega (arith, l)))

between : (j k : ℕ) → nat_lt j k ≡ false → nat_lt k j ≡ false → j ≡ k
between j k l m = let a : k ≤ j = ltb-false j k l in let b : j ≤ k = ltb-false k j m in omega (arith, a, b)

-- two arguments of one list
arguments_apart : (u : Tree) (args : Terms) (j k : ℕ) (p r : Part) → meaning u ≡ IsArguments args → argument args j ≡ Some p → argument args k ≡ Some r
    → (kid_at (forest_of_children u) (argument_kid j)).number ≡ (kid_at (forest_of_children u) (argument_kid k)).number → j ≡ k
arguments_apart u args j k p r e jis kis same = by (nat_lt j k) (nat_lt k j) refl refl
  where
    told : meanings (forest_of_children u) ≡ IsSign Opens ∷ argument_meanings args
    told = arguments_told u args e

    by : (a b : Bool) → nat_lt j k ≡ a → nat_lt k j ≡ b → j ≡ k
    by true b l m =
        let less : j < k = ltb-true j k l in
        let most : argument_index k < length (argument_meanings args) = among-length args k (ap is_some kis) in
        let rise : argument_index j < argument_index k = argument_rise j k less in
        absurd (kids_apart (forest_of_children u) (IsSign Opens ∷ argument_meanings args) (argument_kid j) (argument_kid k) told (omega (arith, rise)) (omega (arith, most)) same)
    by false true l m =
        let less : k < j = ltb-true k j m in
        let most : argument_index j < length (argument_meanings args) = among-length args j (ap is_some jis) in
        let rise : argument_index k < argument_index j = argument_rise k j less in
        absurd (kids_apart (forest_of_children u) (IsSign Opens ∷ argument_meanings args) (argument_kid k) (argument_kid j) told (omega (arith, rise)) (omega (arith, most)) (sym same))
    by false false l m = between j k l m

second_same : (m n a b : ℕ) (x y : Place) → m ∷ (a ∷ x) ≡ n ∷ (b ∷ y) → a ≡ b
second_same m n a b x y e = cc

nothing : {A : Type 0} (p : Part) → None ≡ Some p → A
nothing p e = absurd (let bad : None ≡ Some p = e in cc)

list_of : (u : Tree) (t : Term) (n : ℕ) (args : Terms) → meaning u ≡ IsTerm t → n < length (kid_meanings t) → get_or (kid_meanings t) n IsNothing ≡ IsArguments args → meaning (kid_at (forest_of_children u) n).tree ≡ IsArguments args
list_of u t n args e lt it =
    let k : Stands (forest_of_children u) (kid_meanings t) n = kid_stands (forest_of_children u) (kid_meanings t) n (told_parts u t e) (sound-term t) lt in
    ap meaning (sym k.is_child) ∙ k.means_it ∙ it

-- two parts of one node
parts_apart : (u : Tree) (t : Term) (i j : ℕ) (p r : Part) (x y : Place) → meaning u ≡ IsTerm t → part t i ≡ Some p → part t j ≡ Some r → part_place t (forest_of_children u) i ++ x ≡ part_place t (forest_of_children u) j ++ y → i ≡ j
parts_apart u t zero zero p r x y e is js same = refl
parts_apart u (Binary op a b) zero (suc zero) p r x y e is js same = absurd (kids_apart (forest_of_children u) (kid_meanings (Binary op a b)) 0 2 (told_parts u (Binary op a b) e) (omega arith) (omega arith) (head_same _ _ x y same))
parts_apart u (Binary op a b) (suc zero) zero p r x y e is js same = absurd (kids_apart (forest_of_children u) (kid_meanings (Binary op a b)) 0 2 (told_parts u (Binary op a b) e) (omega arith) (omega arith) (sym (head_same _ _ x y same)))
parts_apart u (Binary op a b) (suc zero) (suc zero) p r x y e is js same = refl
parts_apart u (Binary op a b) (suc zero) (suc (suc k)) p r x y e is js same = nothing r js
parts_apart u (Range z a b) zero (suc zero) p r x y e is js same = absurd (kids_apart (forest_of_children u) (kid_meanings (Range z a b)) 0 2 (told_parts u (Range z a b) e) (omega arith) (omega arith) (head_same _ _ x y same))
parts_apart u (Range z a b) (suc zero) zero p r x y e is js same = absurd (kids_apart (forest_of_children u) (kid_meanings (Range z a b)) 0 2 (told_parts u (Range z a b) e) (omega arith) (omega arith) (sym (head_same _ _ x y same)))
parts_apart u (Range z a b) (suc zero) (suc zero) p r x y e is js same = refl
parts_apart u (Range z a b) (suc zero) (suc (suc k)) p r x y e is js same = nothing r js
parts_apart u (Index a b) zero (suc zero) p r x y e is js same = absurd (kids_apart (forest_of_children u) (kid_meanings (Index a b)) 0 2 (told_parts u (Index a b) e) (omega arith) (omega arith) (head_same _ _ x y same))
parts_apart u (Index a b) (suc zero) zero p r x y e is js same = absurd (kids_apart (forest_of_children u) (kid_meanings (Index a b)) 0 2 (told_parts u (Index a b) e) (omega arith) (omega arith) (sym (head_same _ _ x y same)))
parts_apart u (Index a b) (suc zero) (suc zero) p r x y e is js same = refl
parts_apart u (Index a b) (suc zero) (suc (suc k)) p r x y e is js same = nothing r js
parts_apart u (Method a n args) zero (suc j) p r x y e is js same = absurd (kids_apart (forest_of_children u) (kid_meanings (Method a n args)) 0 3 (told_parts u (Method a n args) e) (omega arith) (omega arith) (head_same _ _ x _ same))
parts_apart u (Method a n args) (suc i) zero p r x y e is js same = absurd (kids_apart (forest_of_children u) (kid_meanings (Method a n args)) 0 3 (told_parts u (Method a n args) e) (omega arith) (omega arith) (sym (head_same _ _ _ y same)))
parts_apart u (Method a n args) (suc i) (suc j) p r x y e is js same =
    ap suc (arguments_apart (kid_at (forest_of_children u) 3).tree args i j p r (list_of u (Method a n args) 3 args e (omega arith) refl) is js (second_same _ _ _ _ x y same))
parts_apart u (Call a args) zero (suc j) p r x y e is js same = absurd (kids_apart (forest_of_children u) (kid_meanings (Call a args)) 0 1 (told_parts u (Call a args) e) (omega arith) (omega arith) (head_same _ _ x _ same))
parts_apart u (Call a args) (suc i) zero p r x y e is js same = absurd (kids_apart (forest_of_children u) (kid_meanings (Call a args)) 0 1 (told_parts u (Call a args) e) (omega arith) (omega arith) (sym (head_same _ _ _ y same)))
parts_apart u (Call a args) (suc i) (suc j) p r x y e is js same =
    ap suc (arguments_apart (kid_at (forest_of_children u) 1).tree args i j p r (list_of u (Call a args) 1 args e (omega arith) refl) is js (second_same _ _ _ _ x y same))
parts_apart u t (suc i) j p r x y e is js same = nothing p is
parts_apart u t zero (suc j) p r x y e is js same = nothing r js

not_here : (t : Term) (c : Forest) (j : ℕ) (x : Place) → [] ≡ part_place t c j ++ x → ⊥
not_here (Method a n args) c (suc j) x e = cc
not_here (Method a n args) c zero x e = cc
not_here (Call a args) c (suc j) x e = cc
not_here (Call a args) c zero x e = cc
not_here (Paren a) c j x e = cc
not_here _ c j x e = cc

strip : (a x y : Place) → a ++ x ≡ a ++ y → x ≡ y
strip [] x y e = e
strip (i ∷ a) x y e = strip a x y (tail_same i (a ++ x) (a ++ y) e)
  where
    tail_same : (i : ℕ) (x y : Place) → i ∷ x ≡ i ∷ y → x ≡ y
    tail_same i x y e = cc

below_here : (u : Tree) (t : Term) (j : ℕ) (q : List ℕ) (p : Part) (o : Option Part) → option_and_then (λ s. part_at s.demand s.term q) o ≡ Some p → [] ≡ below_part (operand_place q) u (part_place t (forest_of_children u) j) o → ⊥
below_here u t j q p None is same = nothing p is
below_here u t j q p (Some s) is same = not_here t (forest_of_children u) j _ same

step_apart : (u : Tree) (t : Term) (i j : ℕ) (q x : List ℕ) (p r : Part) → meaning u ≡ IsTerm t
    → ((v : Tree) (s : Part) → meaning v ≡ IsTerm s.term → part_at s.demand s.term q ≡ Some p → part_at s.demand s.term x ≡ Some r → operand_place q v s.term ≡ operand_place x v s.term → q ≡ x)
    → (o w : Option Part) → part t i ≡ o → part t j ≡ w → option_and_then (λ s. part_at s.demand s.term q) o ≡ Some p → option_and_then (λ s. part_at s.demand s.term x) w ≡ Some r
    → below_part (operand_place q) u (part_place t (forest_of_children u) i) o ≡ below_part (operand_place x) u (part_place t (forest_of_children u) j) w → i ∷ q ≡ j ∷ x
step_apart u t i j q x p r e each None w ei ej is js same = nothing p is
step_apart u t i j q x p r e each (Some s) None ei ej is js same = nothing r js
step_apart u t i j q x p r e each (Some s) (Some z) ei ej is js same =
    let c : Forest = forest_of_children u in
    let here : i ≡ j = parts_apart u t i j s z (operand_place q (subtree u (part_place t c i)) s.term) (operand_place x (subtree u (part_place t c j)) z.term) e ei ej same in
    let found : Some s ≡ Some z = sym ei ∙ ap (part t) here ∙ ej in
    let one : s ≡ z = cc in
    let v : Tree = subtree u (part_place t c i) in
    let both : part_place t c i ++ operand_place q v s.term ≡ part_place t c i ++ operand_place x v s.term =
    same
    ∙ ap (λ k. part_place t c k ++ operand_place x (subtree u (part_place t c k)) z.term) (sym here)
    ∙ ap (λ s. part_place t c i ++ operand_place x v s.term) (sym one) in
    let shown : PartStands u (part_place t c i) s.term _ = part_stands_at u t i s (told_parts u t e) ei in
    let rest : q ≡ x = each v s shown.shows is (ap (λ s. part_at s.demand s.term x) one ∙ js) (strip (part_place t c i) (operand_place q v s.term) (operand_place x v s.term) both) in
    ap (λ q. i ∷ q) rest ∙ ap (λ k. k ∷ x) here

pub unique : (q x : List ℕ) (u : Tree) (d b : Demand) (t : Term) (p r : Part) → meaning u ≡ IsTerm t → part_at d t q ≡ Some p → part_at b t x ≡ Some r → operand_place q u t ≡ operand_place x u t → q ≡ x
unique [] [] u d b t p r e is js same = refl
unique [] (j ∷ x) u d b t p r e is js same = absurd (below_here u t j x r (part t j) js same)
unique (i ∷ q) [] u d b t p r e is js same = absurd (below_here u t i q p (part t i) is (sym same))
unique (i ∷ q) (j ∷ x) u d b t p r e is js same =
    step_apart u t i j q x p r e (λ v s h f g k. unique q x v s.demand s.demand s.term p r h f g k) (part t i) (part t j) refl refl is js same

pub one_operand : (u : Tree) (t : Term) (q x : List ℕ) (p r : Part) → meaning u ≡ IsTerm t → part_at (AtLeast 0) t q ≡ Some p → part_at (AtLeast 0) t x ≡ Some r → operand_place q u t ≡ operand_place x u t → q ≡ x
one_operand u t q x p r e is js same = unique q x u (AtLeast 0) (AtLeast 0) t p r e is js same
