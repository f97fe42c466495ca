-- Where operands are, and which tokens follow them.
use Rattle.std.proofs.Common.{◌≡◌, ◌<◌, ◌+◌, ◌++◌, ℕ, zero, suc, List, [], ◌∷◌, Bool, true, false, cond, length, get_or, Option, Some, None, IfSome, refl, sym, ap, subst, ◌∙◌, arith}
use Rattle.syntax_kind.specs.Kinds.{is_trivia}
use Rattle.tree_model.specs.Tree.{Tree, node, token, Forest, nil, cons, text}
use Rattle.operator_terms.specs.Operators.{Dereference, Not, Negate}
use Rattle.operator_terms.specs.Term.{Term, Literal, Name, Paren, Field, Await, Try, Cast, Method, Call, Index, Prefix, Borrow, Binary, RangeFull, RangeFrom, RangeTo, Range, Terms, NoTerms, Last, More}
use Rattle.operator_terms.specs.Sign.{Opens}
use Rattle.operator_terms.specs.Places.{Part, part, argument}
use Rattle.operator_trees.specs.Forms.{form_of}
use Rattle.operator_trees.specs.Shown.{Meaning, IsSign, IsTerm, IsArguments, IsNothing, leaf, means, meanings, meaning}
use Rattle.operator_trees.specs.Shape.{kid_meanings, argument_meanings}
use Rattle.std.proofs.Common.{append_assoc, append-nil, drop}
use Rattle.std.proofs.lemmas.List.{length-map}
use Rattle.std.proofs.lemmas.Bool.{ltb-true}
use Rattle.std.specs.Prelude.{nat_lt, option_and_then}
use Rattle.tree_model.specs.Tree.{Place, subtree, child_at, forest_of_children}
use Rattle.syntax_kind.specs.declared.syntax_kind.token_kind.TokenKind.TheVariants as tok
use Rattle.operator_terms.specs.Token.{Token, fixed}
use Rattle.operator_terms.specs.Operators.{operator_kind, range_kind}
use Rattle.operator_terms.specs.Term.{name, tokens, argument_tokens}
use Rattle.operator_terms.specs.Places.{Demand, part_at, behind_argument, behind_part, behind_in, tokens_behind}
use Rattle.operator_trees.specs.Before.{Kid, kids, no_kid, kid_at, part_kid, is_direct, argument_kid, argument_index}
use Rattle.operator_trees.specs.Leaves.{leaves, behind_child, leaves_behind}
use Rattle.operator_trees.specs.Operands.{argument_place, part_place, operand_place, below_part}
use Rattle.operator_trees.proofs.Inversion.{no, term_parts, arguments_parts}
use Rattle.operator_trees.proofs.Tokens.{sound, list_tokens, all_sound, and_both, leaves-are, sound-term, sound-arguments, tokens-arguments}
use Rattle.operator_trees.proofs.Sides.{meanings-kids, kid_means, argument_stands, is_some, part_stands}

-- a kid is the child of its number, and after it are the tokens of the kids after it
abbrev pub Behind : ℕ → Forest → ℕ → Kid → Type 0
Behind i c j k = (n : ℕ) × (k.number ≡ i + n) × (k.tree ≡ child_at c n) × (leaves (behind_child c n) ≡ list_tokens (drop (suc j) (meanings c)))

pub behind_kid : (i b : ℕ) (c : Forest) (j : ℕ) → all_sound (meanings c) ≡ true → j < length (kids i b c) → Behind i c j (get_or (kids i b c) j no_kid)
behind_kid i b nil j s h = absurd (omega arith)
behind_kid i b (cons (token k t) r) j s h = skip (behind_kid (suc i) (b + length t) r) (leaves-are r) (is_trivia k) j s h
  where
    later : (ms : List Meaning) (j l : ℕ) (u : Kid) → (n : ℕ) × (u.number ≡ suc i + n) × (u.tree ≡ child_at r n) × (leaves (behind_child r n) ≡ list_tokens (drop (suc l) (meanings r))) → list_tokens (drop (suc l) (meanings r)) ≡ list_tokens (drop (suc j) ms)
        → (n : ℕ) × (u.number ≡ i + n) × (u.tree ≡ child_at (cons (token k t) r) n) × (leaves (behind_child (cons (token k t) r) n) ≡ list_tokens (drop (suc j) ms))
    later ms j l u h e = (suc h.0, omega (arith, h.1), h.2, h.3 ∙ e)

    skip : ((j : ℕ) → all_sound (meanings r) ≡ true → j < length (kids (suc i) (b + length t) r) → Behind (suc i) r j (get_or (kids (suc i) (b + length t) r) j no_kid))
        → (all_sound (meanings r) ≡ true → leaves r ≡ list_tokens (meanings r))
        → (y : Bool) (j : ℕ) → all_sound (cond y (meanings r) (IsSign (leaf k t) ∷ meanings r)) ≡ true
        → j < length (cond y (kids (suc i) (b + length t) r) (record { number = i; start = b; tree = token k t } ∷ kids (suc i) (b + length t) r))
        → (n : ℕ) × ((get_or (cond y (kids (suc i) (b + length t) r) (record { number = i; start = b; tree = token k t } ∷ kids (suc i) (b + length t) r)) j no_kid).number ≡ i + n)
        × ((get_or (cond y (kids (suc i) (b + length t) r) (record { number = i; start = b; tree = token k t } ∷ kids (suc i) (b + length t) r)) j no_kid).tree ≡ child_at (cons (token k t) r) n)
        × (leaves (behind_child (cons (token k t) r) n) ≡ list_tokens (drop (suc j) (cond y (meanings r) (IsSign (leaf k t) ∷ meanings r))))
    skip each all true j s h = later (meanings r) j j (get_or (kids (suc i) (b + length t) r) j no_kid) (each j s h) refl
    skip each all false zero s h = (0, omega arith, refl, all (and_both (sound (IsSign (leaf k t))) (all_sound (meanings r)) s).1)
    skip each all false (suc j) s h = later (IsSign (leaf k t) ∷ meanings r) (suc j) j (get_or (kids (suc i) (b + length t) r) j no_kid) (each j (and_both (sound (IsSign (leaf k t))) (all_sound (meanings r)) s).1 (omega arith)) refl
behind_kid i b (cons (node k c) r) zero s h = (0, omega arith, refl, leaves-are r (and_both (sound (means (form_of k) (meanings c))) (all_sound (meanings r)) s).1)
behind_kid i b (cons (node k c) r) (suc j) s h =
    let less : j < length (kids (suc i) (b + length (text (node k c))) r) = omega arith in
    let n = behind_kid (suc i) (b + length (text (node k c))) r j (and_both (sound (means (form_of k) (meanings c))) (all_sound (meanings r)) s).1 less in
    (suc n.0, omega (arith, n.1), n.2, n.3)

-- what follows a part in its form
behind-direct : (t : Term) (i : ℕ) → is_some (part t i) ≡ true → is_direct t i ≡ true → list_tokens (drop (suc (part_kid t i)) (kid_meanings t)) ≡ behind_part t i
unfolding tokens
behind-direct (Literal k x) i h d = absurd (no h)
behind-direct (Name x) i h d = absurd (no h)
behind-direct RangeFull i h d = absurd (no h)
behind-direct (Paren e) zero h d = refl
behind-direct (Field e n) zero h d = refl
behind-direct (Await e) zero h d = refl
behind-direct (Try e) zero h d = refl
behind-direct (Cast e n) zero h d = refl
behind-direct (Method e n args) zero h d = ap (λ ts. fixed tok.DOT ∷ name n ∷ fixed tok.L_PAREN ∷ ts) (append-nil (argument_tokens args ++ (fixed tok.R_PAREN ∷ [])))
behind-direct (Method e n args) (suc i) h d = absurd (no d)
behind-direct (Call e args) zero h d = ap (λ ts. fixed tok.L_PAREN ∷ ts) (append-nil (argument_tokens args ++ (fixed tok.R_PAREN ∷ [])))
behind-direct (Call e args) (suc i) h d = absurd (no d)
behind-direct (Index e i) zero h d = refl
behind-direct (Index e i) (suc zero) h d = refl
behind-direct (Prefix Not e) zero h d = refl
behind-direct (Prefix Dereference e) zero h d = refl
behind-direct (Prefix Negate e) zero h d = refl
behind-direct (Borrow true e) zero h d = refl
behind-direct (Borrow false e) zero h d = refl
behind-direct (Binary op l r) zero h d = ap (λ ts. fixed (operator_kind op) ∷ ts) (append-nil (tokens r))
behind-direct (Binary op l r) (suc zero) h d = refl
behind-direct (RangeFrom l) zero h d = refl
behind-direct (RangeTo inclusive r) zero h d = refl
behind-direct (Range inclusive l r) zero h d = ap (λ ts. fixed (range_kind inclusive) ∷ ts) (append-nil (tokens r))
behind-direct (Range inclusive l r) (suc zero) h d = refl
behind-direct t i h d = absurd (no h)

behind-among : (args : Terms) (j : ℕ) → is_some (argument args j) ≡ true → list_tokens (drop (suc (argument_index j)) (argument_meanings args)) ≡ behind_argument args j ++ (fixed tok.R_PAREN ∷ [])
behind-among NoTerms j h = absurd (no h)
behind-among (Last e) zero h = refl
behind-among (Last e) (suc j) h = absurd (no h)
behind-among (More e es) zero h = ap (λ ts. fixed tok.COMMA ∷ ts) (tokens-arguments es)
behind-among (More e es) (suc j) h = behind-among es j h

pub among-length : (args : Terms) (j : ℕ) → is_some (argument args j) ≡ true → argument_index j < length (argument_meanings args)
among-length NoTerms j h = absurd (no h)
among-length (Last e) zero h = omega arith
among-length (Last e) (suc j) h = absurd (no h)
among-length (More e es) zero h = omega arith
among-length (More e es) (suc j) h = omega (arith, among-length es j h)

pub part-listed : (t : Term) (i : ℕ) → is_some (part t i) ≡ true → is_direct t i ≡ true → nat_lt (part_kid t i) (length (kid_meanings t)) ≡ true
part-listed (Literal k x) i h d = absurd (no h)
part-listed (Name x) i h d = absurd (no h)
part-listed RangeFull i h d = absurd (no h)
part-listed (Prefix Not e) i h d = refl
part-listed (Prefix Dereference e) i h d = refl
part-listed (Prefix Negate e) i h d = refl
part-listed (Borrow true e) i h d = refl
part-listed (Borrow false e) i h d = refl
part-listed (Index e j) zero h d = refl
part-listed (Index e j) (suc i) h d = refl
part-listed (Binary op l r) zero h d = refl
part-listed (Binary op l r) (suc i) h d = refl
part-listed (Range inclusive l r) zero h d = refl
part-listed (Range inclusive l r) (suc i) h d = refl
part-listed _ i h d = refl

-- ---- one step down

-- a kid by its meanings: the child of its number means what the list says, and after it are the
-- tokens of the rest
pub record Stands (c : Forest) (ms : List Meaning) (j : ℕ) : Type 0 where
  pub means_it : meaning (child_at c (kid_at c j).number) ≡ get_or ms j IsNothing
  pub is_child : child_at c (kid_at c j).number ≡ (kid_at c j).tree
  pub behind : leaves (behind_child c (kid_at c j).number) ≡ list_tokens (drop (suc j) ms)

pub kid_stands : (c : Forest) (ms : List Meaning) (j : ℕ) → meanings c ≡ ms → all_sound ms ≡ true → j < length ms → Stands c ms j
kid_stands c ms j e s h =
    let count : length (kids 0 0 c) ≡ length ms = sym (length-map (kids 0 0 c) (λ k. meaning k.tree)) ∙ ap length (meanings-kids 0 0 c ∙ e) in
    let n = behind_kid 0 0 c j (ap all_sound e ∙ s) (omega arith) in
    let number : (kid_at c j).number ≡ n.0 = n.1 ∙ (omega arith) in
    record {
      means_it = ap (λ i. meaning (child_at c i)) number ∙ ap meaning (sym n.2) ∙ kid_means c ms j e;
      is_child = ap (child_at c) number ∙ sym n.2;
      behind = ap (λ i. leaves (behind_child c i)) number ∙ n.3 ∙ ap (λ ms. list_tokens (drop (suc j) ms)) e;
    }

-- the part is where `part_place` says, and after it what `behind_part` says
pub record PartStands (u : Tree) (at : Place) (e : Term) (behind : List Token) : Type 0 where
  pub shows : meaning (subtree u at) ≡ IsTerm e
  pub leaves_are : leaves_behind u at ≡ behind

pub direct_stands : (u : Tree) (t : Term) (i : ℕ) (p : Part) → meanings (forest_of_children u) ≡ kid_meanings t → part t i ≡ Some p → is_direct t i ≡ true
    → PartStands u ((kid_at (forest_of_children u) (part_kid t i)).number ∷ []) p.term (behind_part t i)
direct_stands u t i p e is d =
    let some = ap is_some is in
    let k : Stands (forest_of_children u) (kid_meanings t) (part_kid t i) = kid_stands (forest_of_children u) (kid_meanings t) (part_kid t i) e (sound-term t) (ltb-true _ _ (part-listed t i some d)) in
    record {
      shows = k.means_it ∙ subst (λ o. IfSome o (λ p. get_or (kid_meanings t) (part_kid t i) IsNothing ≡ IsTerm p.term)) is (part_stands t i d);
      leaves_are = k.behind ∙ behind-direct t i some d;
    }

pub arguments_told : (u : Tree) (args : Terms) → meaning u ≡ IsArguments args → meanings (forest_of_children u) ≡ IsSign Opens ∷ argument_meanings args
arguments_told (token k x) args e = absurd (let bad : IsSign (leaf k x) ≡ IsArguments args = e in cc)
arguments_told (node k c) args e = arguments_parts (form_of k) (meanings c) args e

pub argument_stands_at : (u : Tree) (t : Term) (n : ℕ) (args : Terms) (j : ℕ) (p : Part) → meanings (forest_of_children u) ≡ kid_meanings t → nat_lt n (length (kid_meanings t)) ≡ true
    → get_or (kid_meanings t) n IsNothing ≡ IsArguments args → list_tokens (drop (suc n) (kid_meanings t)) ≡ [] → argument args j ≡ Some p
    → PartStands u (argument_place n (forest_of_children u) j) p.term (behind_argument args j ++ (fixed tok.R_PAREN ∷ []))
argument_stands_at u t n args j p e lt it last is =
    let c = forest_of_children u in
    let k : Stands c (kid_meanings t) n = kid_stands c (kid_meanings t) n e (sound-term t) (ltb-true _ _ lt) in
    let list : Tree = (kid_at c n).tree in
    let told : meanings (forest_of_children list) ≡ IsSign Opens ∷ argument_meanings args = arguments_told list args (ap meaning (sym k.is_child) ∙ k.means_it ∙ it) in
    let some = ap is_some is in
    let a : Stands (forest_of_children list) (IsSign Opens ∷ argument_meanings args) (argument_kid j) = kid_stands (forest_of_children list) (IsSign Opens ∷ argument_meanings args) (argument_kid j) told (sound-arguments args) (omega (arith, among-length args j some)) in
    record {
      shows = ap (λ v. meaning (child_at (forest_of_children v) (kid_at (forest_of_children list) (argument_kid j)).number)) k.is_child ∙ a.means_it ∙ argument_stands args j p is;
      leaves_are =
          ap (λ ts. leaves_behind (child_at c (kid_at c n).number) ((kid_at (forest_of_children list) (argument_kid j)).number ∷ []) ++ ts) (k.behind ∙ last)
          ∙ append-nil _
          ∙ ap (λ v. leaves (behind_child (forest_of_children v) (kid_at (forest_of_children list) (argument_kid j)).number)) k.is_child
          ∙ a.behind ∙ behind-among args j some;
    }

pub part_stands_at : (u : Tree) (t : Term) (i : ℕ) (p : Part) → meanings (forest_of_children u) ≡ kid_meanings t → part t i ≡ Some p → PartStands u (part_place t (forest_of_children u) i) p.term (behind_part t i)
part_stands_at u (Method e n args) (suc j) p h is = argument_stands_at u (Method e n args) 3 args j p h refl refl refl is
part_stands_at u (Method e n args) zero p h is = direct_stands u (Method e n args) zero p h is refl
part_stands_at u (Call e args) (suc j) p h is = argument_stands_at u (Call e args) 1 args j p h refl refl refl is
part_stands_at u (Call e args) zero p h is = direct_stands u (Call e args) zero p h is refl
part_stands_at u (Paren e) i p h is = direct_stands u (Paren e) i p h is refl
part_stands_at u t i p h is = direct_stands u t i p h is refl

-- ---- all the way down

pub subtree-append : (t : Tree) (p q : Place) → subtree t (p ++ q) ≡ subtree (subtree t p) q
subtree-append t [] q = refl
subtree-append t (i ∷ p) q = subtree-append (child_at (forest_of_children t) i) p q

pub behind-append : (t : Tree) (p q : Place) → leaves_behind t (p ++ q) ≡ leaves_behind (subtree t p) q ++ leaves_behind t p
behind-append t [] q = sym (append-nil (leaves_behind t q))
behind-append t (i ∷ p) q =
    ap (λ ts. ts ++ leaves (behind_child (forest_of_children t) i)) (behind-append (child_at (forest_of_children t) i) p q)
    ∙ append_assoc (leaves_behind (subtree (child_at (forest_of_children t) i) p) q) (leaves_behind (child_at (forest_of_children t) i) p) (leaves (behind_child (forest_of_children t) i))

pub told_parts : (u : Tree) (t : Term) → meaning u ≡ IsTerm t → meanings (forest_of_children u) ≡ kid_meanings t
told_parts (token k x) t e = absurd (let bad : IsSign (leaf k x) ≡ IsTerm t = e in cc)
told_parts (node k c) t e = term_parts (form_of k) (meanings c) t e

pub operand_stands : (q : List ℕ) (u : Tree) (d : Demand) (t : Term) (p : Part) → meaning u ≡ IsTerm t → part_at d t q ≡ Some p → PartStands u (operand_place q u t) p.term (tokens_behind q t)
operand_stands [] u d t p e is = record { shows = e ∙ ap IsTerm (ap (λ o. term_or t o) is); leaves_are = refl }
  where
    term_or : Term → Option Part → Term
    term_or t None = t
    term_or t (Some p) = p.term
operand_stands (i ∷ q) u d t p e is = by (λ s h. part_stands_at u t i s (told_parts u t e) h) (λ v s. operand_stands q v s.demand s.term p) (part t i) refl is
  where
    by : ((s : Part) → part t i ≡ Some s → PartStands u (part_place t (forest_of_children u) i) s.term (behind_part t i))
        → ((v : Tree) (s : Part) → meaning v ≡ IsTerm s.term → part_at s.demand s.term q ≡ Some p → PartStands v (operand_place q v s.term) p.term (tokens_behind q s.term))
        → (o : Option Part) → part t i ≡ o → option_and_then (λ s. part_at s.demand s.term q) o ≡ Some p
        → PartStands u (below_part (operand_place q) u (part_place t (forest_of_children u) i) o) p.term (behind_in (tokens_behind q) o (behind_part t i))
    by here below None h is = absurd (let bad : None ≡ Some p = is in cc)
    by here below (Some s) h is =
        let at = part_place t (forest_of_children u) i in
        let first : PartStands u at s.term (behind_part t i) = here s h in
        let rest : PartStands (subtree u at) (operand_place q (subtree u at) s.term) p.term (tokens_behind q s.term) = below (subtree u at) s first.shows is in
        record {
          shows = ap meaning (subtree-append u at (operand_place q (subtree u at) s.term)) ∙ rest.shows;
          leaves_are = behind-append u at (operand_place q (subtree u at) s.term) ∙ ap (λ ts. ts ++ leaves_behind u at) rest.leaves_are ∙ ap (λ ts. tokens_behind q s.term ++ ts) first.leaves_are;
        }
