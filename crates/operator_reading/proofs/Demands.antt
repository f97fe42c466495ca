-- Where a tree shows a term, its demands are met exactly where no part at any place asks for a
-- pair.
use Rattle.std.proofs.Common.{◌≡◌, ℕ, List, [], ◌∷◌, Bool, true, false, not, ◌&&◌, ◌||◌, cond, refl, sym, ap, subst, ◌∙◌, arith}
use Rattle.syntax_kind.specs.declared.syntax_kind.SyntaxKind.{SyntaxKind}
use Rattle.syntax_kind.specs.Kinds.{is_trivia}
use Rattle.tree_model.specs.Tree.{Tree, node, token, Forest, nil, cons}
use Rattle.tree_model.specs.Every.{every, every_in}
use Rattle.operator_terms.specs.Operators.{Dereference, Not, Negate, left_demand, right_demand}
use Rattle.operator_terms.specs.Term.{Term, Literal, Name, Paren, Field, Await, Try, Cast, Method, Call, Index, Prefix, Borrow, Binary, RangeFull, RangeFrom, RangeTo, Range, Terms, NoTerms, Last, More}
use Rattle.operator_terms.specs.Places.{Demand, AtLeast, Callee, meets, some_part, part}
use Rattle.operator_terms.specs.AllFit.{parts_meet, demands_met, all_demands_met}
use Rattle.operator_terms.specs.Powers.{powers, needs_pair_by_power, too_weak_at}
use Rattle.operator_terms.proofs.Demands.{meets-true, true-meets}
use Rattle.operator_terms.proofs.Power.{too_weak_where_unmet}
use Rattle.operator_trees.specs.declared.form.Form.{Form}
use Rattle.operator_trees.specs.declared.form.Form.TheVariants as form
use Rattle.operator_trees.specs.Forms.{form_of}
use Rattle.operator_trees.specs.Shown.{Meaning, IsSign, IsTerm, IsName, IsSegment, IsPath, IsType, IsArguments, IsNothing, leaf, means, meanings, meaning, is_right}
use Rattle.operator_trees.specs.Shape.{kid_meanings, argument_meanings, term_form, erase, blank_of, blank}
use Rattle.operator_trees.proofs.Inversion.{no, no_sign, kids_told, term_formed, erased}
use Rattle.operator_trees.proofs.Tokens.{sound, all_sound, and_both, sound-kids}
use Rattle.operator_powers.specs.Rules.{form_powers, is_term_form}
use Rattle.operator_powers.proofs.Orders.{powers_shown}
use Rattle.operator_powers.proofs.Asks.{by-power}
use Rattle.operator_reading.specs.Reads.{part_asks, child_asks, asks_from, node_fits}

-- ---- what the children ask, by what they mean
abbrev asked : Term → Bool → List Meaning → Bool
asked t before [] = false
asked t before (IsSign s ∷ ms) = asked t false ms
asked t before (IsTerm e ∷ ms) = needs_pair_by_power e t before || asked t before ms
asked t before (_ ∷ ms) = asked t before ms

abbrev one_asked : Term → Bool → Meaning → Bool
one_asked t before (IsTerm e) = needs_pair_by_power e t before
one_asked t before _ = false

abbrev one_before : Meaning → Bool → Bool
one_before (IsSign s) before = false
one_before _ before = before

asked-one : (t : Term) (before : Bool) (m : Meaning) (ms : List Meaning) → (one_asked t before m || asked t (one_before m before) ms) ≡ asked t before (m ∷ ms)
asked-one t before (IsTerm e) ms = refl
asked-one t before (IsSign s) ms = refl
asked-one t before (IsName n) ms = refl
asked-one t before _ ms = refl

pub term_blank : (f : Form) (m : Meaning) → erase m ≡ blank_of f → is_right m ≡ true → (IsTerm blank ≡ erase m → ⊥) → is_term_form f ≡ false
term_blank form.NameRef m e h g = refl
term_blank form.Segment m e h g = refl
term_blank form.Path m e h g = refl
term_blank form.PathType m e h g = refl
term_blank form.Arguments m e h g = refl
term_blank form.Foreign m e h g = refl
term_blank _ m e h g = absurd (g (sym e))

pub term_formed_so : (t : Term) → is_term_form (term_form t) ≡ true
term_formed_so (Paren e) = refl
term_formed_so _ = refl

child_is : (t : Term) (before : Bool) (k : SyntaxKind) (c : Forest) (m : Meaning) → means (form_of k) (meanings c) ≡ m → is_right m ≡ true → child_asks (term_form t) (powers t) before (node k c) ≡ one_asked t before m
child_is t before k c (IsTerm e) is h =
    let f : form_of k ≡ term_form e = term_formed (form_of k) (meanings c) e is in
    rw (powers_shown (form_of k) c e 0 is) (rw (f, term_formed_so e) (by-power e t before))
child_is t before k c (IsSign s) is h = absurd (no_sign (form_of k) (meanings c) s is)
child_is t before k c IsNothing is h = absurd (no h)
child_is t before k c (IsName n) is h = none (term_blank (form_of k) (IsName n) (subst (λ m. erase m ≡ blank_of (form_of k)) is (erased (form_of k) (meanings c) (ap is_right is))) refl (λ e. cc))
  where
    none : is_term_form (form_of k) ≡ false → child_asks (term_form t) (powers t) before (node k c) ≡ false
    none e = ap (λ b. b && part_asks (form_of k) c (term_form t) (powers t) before) e
child_is t before k c m is h = none (term_blank (form_of k) m (subst (λ m. erase m ≡ blank_of (form_of k)) is (erased (form_of k) (meanings c) (ap is_right is ∙ h))) h (λ e. cc))
  where
    none : is_term_form (form_of k) ≡ false → child_asks (term_form t) (powers t) before (node k c) ≡ false
    none e = ap (λ b. b && part_asks (form_of k) c (term_form t) (powers t) before) e

sound_right : (m : Meaning) → sound m ≡ true → is_right m ≡ true
sound_right IsNothing h = h
sound_right _ h = refl

asks-are : (t : Term) (before : Bool) (c : Forest) → all_sound (meanings c) ≡ true → asks_from (term_form t) (powers t) before c ≡ asked t before (meanings c)
asks-are t before nil h = refl
asks-are t before (cons (token k x) r) h = skip (λ b. asks-are t b r) (is_trivia k) h
  where
    skip : ((b : Bool) → all_sound (meanings r) ≡ true → asks_from (term_form t) (powers t) b r ≡ asked t b (meanings r)) → (y : Bool) → all_sound (cond y (meanings r) (IsSign (leaf k x) ∷ meanings r)) ≡ true
        → asks_from (term_form t) (powers t) (y && before) r ≡ asked t before (cond y (meanings r) (IsSign (leaf k x) ∷ meanings r))
    skip each true h = each before h
    skip each false h = each false (and_both (sound (IsSign (leaf k x))) (all_sound (meanings r)) h).1
asks-are t before (cons (node k c) r) h =
    let m = means (form_of k) (meanings c) in
    let s = and_both (sound m) (all_sound (meanings r)) h in
    ap (λ b. b || asks_from (term_form t) (powers t) before r) (child_is t before k c m refl (sound_right m s.0))
    ∙ ap (λ b. one_asked t before m || b) (asks-are t before r s.1)
    ∙ ap (λ b. one_asked t before m || asked t b (meanings r)) (sym (kept m refl))
    ∙ asked-one t before m (meanings r)
  where
    kept : (m : Meaning) → means (form_of k) (meanings c) ≡ m → one_before m before ≡ before
    kept (IsSign s) e = absurd (no_sign (form_of k) (meanings c) s e)
    kept (IsTerm e) g = refl
    kept _ e = refl

-- ---- what asks is what doesn't meet its demand

not_of : (b c : Bool) → (b ≡ false → c ≡ true) → (c ≡ true → b ≡ false) → b ≡ not c
not_of true true f g = g refl
not_of true false f g = refl
not_of false true f g = refl
not_of false false f g = absurd (let bad : false ≡ true = f refl in cc)

weak_is : (t : Term) (i : ℕ) (d : Demand) (e : Term) → part t i ≡ some_part d e → too_weak_at t i e ≡ not (meets d e)
weak_is t i d e is =
    let w = too_weak_where_unmet t i d e e is in
    not_of (too_weak_at t i e) (meets d e) (λ h. meets-true d e (w.0 h)) (λ h. w.1 (true-meets d e h))

one : (a : Bool) → (not a || false) ≡ not a
one true = refl
one false = refl

two : (a b : Bool) → (not a || (not b || false)) ≡ not (a && b)
two true true = refl
two true false = refl
two false b = refl

front : (x a : Bool) → x ≡ not a → (x || false) ≡ not a
front x a e = ap (λ b. b || false) e ∙ one a

both : (x y a b : Bool) → x ≡ not a → y ≡ not b → (x || (y || false)) ≡ not (a && b)
both x y a b e f = ap (λ z. z || (y || false)) e ∙ ap (λ z. not a || (z || false)) f ∙ two a b

any_place : (x : Bool) → x ≡ not true → (x || false) ≡ false
any_place x e = ap (λ b. b || false) e

any_meets : (e : Term) → meets (AtLeast 0) e ≡ true
any_meets e = meets-true (AtLeast 0) e (omega arith)

asked-parts : (t : Term) → asked t true (kid_meanings t) ≡ not (parts_meet t)
asked-parts (Literal k x) = refl
asked-parts (Name n) = refl
asked-parts RangeFull = refl
asked-parts (Paren e) = any_place (needs_pair_by_power e (Paren e) false) (weak_is (Paren e) 0 (AtLeast 0) e refl ∙ ap not (any_meets e))
asked-parts (Field e n) = front _ _ (weak_is (Field e n) 0 (AtLeast 13) e refl)
asked-parts (Await e) = front _ _ (weak_is (Await e) 0 (AtLeast 13) e refl)
asked-parts (Try e) = front _ _ (weak_is (Try e) 0 (AtLeast 13) e refl)
asked-parts (Cast e n) = front _ _ (weak_is (Cast e n) 0 (AtLeast 11) e refl)
asked-parts (Method e n args) = front _ _ (weak_is (Method e n args) 0 (AtLeast 13) e refl)
asked-parts (Call e args) = front _ _ (weak_is (Call e args) 0 Callee e refl)
asked-parts (Index e i) =
    ap (λ b. needs_pair_by_power e (Index e i) true || b) (any_place (needs_pair_by_power i (Index e i) false) (weak_is (Index e i) 1 (AtLeast 0) i refl ∙ ap not (any_meets i)))
    ∙ front (needs_pair_by_power e (Index e i) true) _ (weak_is (Index e i) 0 (AtLeast 13) e refl)
asked-parts (Prefix Not e) = front _ _ (weak_is (Prefix Not e) 0 (AtLeast 12) e refl)
asked-parts (Prefix Dereference e) = front _ _ (weak_is (Prefix Dereference e) 0 (AtLeast 12) e refl)
asked-parts (Prefix Negate e) = front _ _ (weak_is (Prefix Negate e) 0 (AtLeast 12) e refl)
asked-parts (Borrow true e) = front _ _ (weak_is (Borrow true e) 0 (AtLeast 12) e refl)
asked-parts (Borrow false e) = front _ _ (weak_is (Borrow false e) 0 (AtLeast 12) e refl)
asked-parts (Binary op l r) = both _ _ _ _ (weak_is (Binary op l r) 0 (AtLeast (left_demand op)) l refl) (weak_is (Binary op l r) 1 (AtLeast (right_demand op)) r refl)
asked-parts (RangeFrom l) = front _ _ (weak_is (RangeFrom l) 0 (AtLeast 2) l refl)
asked-parts (RangeTo inclusive r) = front _ _ (weak_is (RangeTo inclusive r) 0 (AtLeast 2) r refl)
asked-parts (Range inclusive l r) = both _ _ _ _ (weak_is (Range inclusive l r) 0 (AtLeast 2) l refl) (weak_is (Range inclusive l r) 1 (AtLeast 2) r refl)

not_not : (b : Bool) → not (not b) ≡ b
not_not true = refl
not_not false = refl

-- a node that shows a term fits where the term's own parts meet their demands
fits-term : (k : SyntaxKind) (c : Forest) (t : Term) → means (form_of k) (meanings c) ≡ IsTerm t → all_sound (meanings c) ≡ true → node_fits (node k c) ≡ parts_meet t
fits-term k c t is s =
    let f : form_of k ≡ term_form t = term_formed (form_of k) (meanings c) t is in
    let asks : asks_from (form_of k) (form_powers (form_of k) c 0) true c ≡ not (parts_meet t) =
    ap (λ p. asks_from (form_of k) p true c) (powers_shown (form_of k) c t 0 is) ∙ ap (λ f. asks_from f (powers t) true c) f
    ∙ asks-are t true c s ∙ ap (asked t true) (kids_told (form_of k) (meanings c) (IsTerm t) is refl) ∙ asked-parts t in
    ap (λ b. not (is_term_form (form_of k) && b)) asks ∙ ap (λ b. not (b && not (parts_meet t))) (ap is_term_form f ∙ term_formed_so t) ∙ not_not (parts_meet t)

fits-other : (k : SyntaxKind) (c : Forest) (m : Meaning) → means (form_of k) (meanings c) ≡ m → is_right m ≡ true → (IsTerm blank ≡ erase m → ⊥) → node_fits (node k c) ≡ true
fits-other k c m is h g =
    ap (λ b. not (b && asks_from (form_of k) (form_powers (form_of k) c 0) true c)) (term_blank (form_of k) m (subst (λ m. erase m ≡ blank_of (form_of k)) is (erased (form_of k) (meanings c) (ap is_right is ∙ h))) h g)

-- ---- all the way down
abbrev met : Meaning → Bool
met (IsTerm t) = demands_met t
met (IsArguments args) = all_demands_met args
met _ = true

abbrev all_met : List Meaning → Bool
all_met [] = true
all_met (m ∷ ms) = met m && all_met ms

and_true : (b : Bool) → (b && true) ≡ b
and_true true = refl
and_true false = refl

met-arguments : (args : Terms) → all_met (argument_meanings args) ≡ all_demands_met args
met-arguments NoTerms = refl
met-arguments (Last e) = and_true (demands_met e)
met-arguments (More e es) = ap (λ b. demands_met e && b) (met-arguments es)

met-term : (t : Term) → (parts_meet t && all_met (kid_meanings t)) ≡ demands_met t
met-term (Literal k x) = refl
met-term (Name n) = refl
met-term RangeFull = refl
met-term (Paren e) = and_true (demands_met e)
met-term (Field e n) = ap (λ b. parts_meet (Field e n) && b) (and_true (demands_met e))
met-term (Await e) = ap (λ b. parts_meet (Await e) && b) (and_true (demands_met e))
met-term (Try e) = ap (λ b. parts_meet (Try e) && b) (and_true (demands_met e))
met-term (Cast e n) = ap (λ b. parts_meet (Cast e n) && b) (and_true (demands_met e))
met-term (Method e n args) = ap (λ b. parts_meet (Method e n args) && (demands_met e && b)) (and_true (all_demands_met args))
met-term (Call e args) = ap (λ b. parts_meet (Call e args) && (demands_met e && b)) (and_true (all_demands_met args))
met-term (Index e i) = ap (λ b. parts_meet (Index e i) && (demands_met e && b)) (and_true (demands_met i))
met-term (Prefix Not e) = ap (λ b. parts_meet (Prefix Not e) && b) (and_true (demands_met e))
met-term (Prefix Dereference e) = ap (λ b. parts_meet (Prefix Dereference e) && b) (and_true (demands_met e))
met-term (Prefix Negate e) = ap (λ b. parts_meet (Prefix Negate e) && b) (and_true (demands_met e))
met-term (Borrow true e) = ap (λ b. parts_meet (Borrow true e) && b) (and_true (demands_met e))
met-term (Borrow false e) = ap (λ b. parts_meet (Borrow false e) && b) (and_true (demands_met e))
met-term (Binary op l r) = ap (λ b. parts_meet (Binary op l r) && (demands_met l && b)) (and_true (demands_met r))
met-term (RangeFrom l) = ap (λ b. parts_meet (RangeFrom l) && b) (and_true (demands_met l))
met-term (RangeTo inclusive r) = ap (λ b. parts_meet (RangeTo inclusive r) && b) (and_true (demands_met r))
met-term (Range inclusive l r) = ap (λ b. parts_meet (Range inclusive l r) && (demands_met l && b)) (and_true (demands_met r))

-- a node whose children are met
node-met : (k : SyntaxKind) (c : Forest) (m : Meaning) → means (form_of k) (meanings c) ≡ m → is_right m ≡ true → all_sound (meanings c) ≡ true → (node_fits (node k c) && all_met (meanings c)) ≡ met m
node-met k c (IsTerm t) is h s =
    ap (λ b. b && all_met (meanings c)) (fits-term k c t is s) ∙ ap (λ ms. parts_meet t && all_met ms) (kids_told (form_of k) (meanings c) (IsTerm t) is refl) ∙ met-term t
node-met k c (IsSign s) is h g = absurd (no_sign (form_of k) (meanings c) s is)
node-met k c IsNothing is h s = absurd (no h)
node-met k c (IsArguments args) is h s =
    ap (λ b. b && all_met (meanings c)) (fits-other k c (IsArguments args) is h (λ e. cc)) ∙ ap all_met (kids_told (form_of k) (meanings c) (IsArguments args) is refl) ∙ met-arguments args
node-met k c (IsName n) is h s = ap (λ b. b && all_met (meanings c)) (fits-other k c (IsName n) is h (λ e. cc)) ∙ ap all_met (kids_told (form_of k) (meanings c) (IsName n) is refl)
node-met k c (IsSegment n) is h s = ap (λ b. b && all_met (meanings c)) (fits-other k c (IsSegment n) is h (λ e. cc)) ∙ ap all_met (kids_told (form_of k) (meanings c) (IsSegment n) is refl)
node-met k c (IsPath n) is h s = ap (λ b. b && all_met (meanings c)) (fits-other k c (IsPath n) is h (λ e. cc)) ∙ ap all_met (kids_told (form_of k) (meanings c) (IsPath n) is refl)
node-met k c (IsType n) is h s = ap (λ b. b && all_met (meanings c)) (fits-other k c (IsType n) is h (λ e. cc)) ∙ ap all_met (kids_told (form_of k) (meanings c) (IsType n) is refl)

all-met : (c : Forest) → all_sound (meanings c) ≡ true → every_in node_fits c ≡ all_met (meanings c)
all-met nil h = refl
all-met (cons (token k x) r) h = skip (all-met r) (is_trivia k) h
  where
    skip : (all_sound (meanings r) ≡ true → every_in node_fits r ≡ all_met (meanings r)) → (y : Bool) → all_sound (cond y (meanings r) (IsSign (leaf k x) ∷ meanings r)) ≡ true
        → every_in node_fits r ≡ all_met (cond y (meanings r) (IsSign (leaf k x) ∷ meanings r))
    skip each true h = each h
    skip each false h = each (and_both (sound (IsSign (leaf k x))) (all_sound (meanings r)) h).1
all-met (cons (node k c) r) h =
    let m = means (form_of k) (meanings c) in
    let s = and_both (sound m) (all_sound (meanings r)) h in
    let right = sound_right m s.0 in
    let inner : all_sound (meanings c) ≡ true = ap all_sound (kids_told (form_of k) (meanings c) m refl right) ∙ sound-kids m in
    sym (and_assoc (node_fits (node k c)) (every_in node_fits c) (every_in node_fits r))
    ∙ ap (λ b. (node_fits (node k c) && b) && every_in node_fits r) (all-met c inner)
    ∙ ap (λ b. b && every_in node_fits r) (node-met k c m refl right inner)
    ∙ ap (λ b. met m && b) (all-met r s.1)
  where
    and_assoc : (a b c : Bool) → ((a && b) && c) ≡ (a && (b && c))
    and_assoc true b c = refl
    and_assoc false b c = refl

-- Where a tree shows a term, every node fits exactly where the term's demands are met.
pub every_fits : (u : Tree) (t : Term) → meaning u ≡ IsTerm t → every node_fits u ≡ demands_met t
every_fits (token k x) t e = absurd (let bad : IsSign (leaf k x) ≡ IsTerm t = e in cc)
every_fits (node k c) t e =
    let s : all_sound (meanings c) ≡ true = ap all_sound (kids_told (form_of k) (meanings c) (IsTerm t) e refl) ∙ sound-kids (IsTerm t) in
    ap (λ b. node_fits (node k c) && b) (all-met c s) ∙ node-met k c (IsTerm t) e refl s
