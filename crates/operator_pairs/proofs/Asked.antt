-- Every operand below the root of a tree that shows a term, asked with its own parent: the answer
-- is whether it fits.
use Rattle.std.proofs.Common.{◌≡◌, ◌++◌, ℕ, zero, suc, List, [], ◌∷◌, Bool, true, false, ◌||◌, cond, Option, Some, None, option_and_then, refl, sym, ap, subst, ◌∙◌, ◌↔◌, arith, append_assoc, append-nil}
use Rattle.syntax_kind.specs.declared.syntax_kind.token_kind.TokenKind.TheVariants as tok
use Rattle.tree_model.specs.Tree.{Tree, node, token, Place, subtree, child_at, forest_of_children, kind_of}
use Rattle.tree_model.specs.Cursor.{Cursor, focus, at_place, parent_of}
use Rattle.tree_model.proofs.EveryLaws.{subtree-append}
use Rattle.operator_terms.specs.Token.{Token, fixed}
use Rattle.operator_terms.specs.Term.{Term, Method, Call, Paren, Terms, NoTerms, Last, More}
use Rattle.operator_terms.specs.Reading.{begins_with_angle}
use Rattle.operator_terms.specs.Places.{Demand, AtLeast, Part, some_part, part, part_at, argument, operand, behind_argument, behind_part, tokens_behind, FitsPlace}
use Rattle.operator_terms.specs.Powers.{needs_pair_at}
use Rattle.operator_terms.proofs.Power.{needs_where_unfit}
use Rattle.operator_terms.proofs.Headlines.{behind-last}
use Rattle.operator_trees.specs.Forms.{form_of}
use Rattle.operator_trees.specs.Shown.{IsSign, IsTerm, IsArguments, leaf, meaning, meanings}
use Rattle.operator_trees.specs.Shape.{kid_meanings, term_form}
use Rattle.operator_trees.specs.Before.{kid_at, part_kid, is_direct, argument_kid}
use Rattle.operator_trees.specs.Leaves.{leaves_behind}
use Rattle.operator_trees.specs.Operands.{part_place, operand_place, below_part}
use Rattle.operator_trees.proofs.Inversion.{no, arguments_formed}
use Rattle.operator_trees.proofs.Operands.{PartStands, Stands, kid_stands, operand_stands, told_parts}
use Rattle.operator_trees.proofs.Tokens.{sound-term}
use Rattle.operator_powers.specs.Rules.{form_at, is_arguments, is_term_form, kid_place, operators_ask}
use Rattle.operator_powers.proofs.Cursors.{form_told, not_arguments, operators_asked, child_parent, place_parent}
use Rattle.operator_pairs.proofs.Deep.{Asked, asked_so}
use Rattle.operator_pairs.specs.Pairs.{operand_cursor, angle_behind, asks}
use Rattle.operator_pairs.proofs.Listed.{direct_place}

-- ---- places, by their last number

pub split_last : (i : ℕ) (q : List ℕ) → (front : List ℕ) × (last : ℕ) × (i ∷ q ≡ front ++ last ∷ [])
split_last i [] = ([], i, refl)
split_last i (j ∷ q) = let s = split_last j q in (i ∷ s.0, s.1, ap (λ xs. i ∷ xs) s.2)

itself : (o : Option Part) → option_and_then (λ p. some_part p.demand p.term) o ≡ o
itself None = refl
itself (Some p) = refl

part_at-last : (q : List ℕ) (d : Demand) (t : Term) (i : ℕ) → part_at d t (q ++ (i ∷ [])) ≡ option_and_then (λ p. part p.term i) (part_at d t q)
part_at-last [] d t i = itself (part t i)
part_at-last (j ∷ q) d t i = onward (part t j) (λ r. part_at-last q r.demand r.term i)
  where
    onward : (o : Option Part) → ((r : Part) → part_at r.demand r.term (q ++ (i ∷ [])) ≡ option_and_then (λ p. part p.term i) (part_at r.demand r.term q)) → option_and_then (λ p. part_at p.demand p.term (q ++ (i ∷ []))) o ≡ option_and_then (λ p. part p.term i) (option_and_then (λ p. part_at p.demand p.term q) o)
    onward None each = refl
    onward (Some r) each = each r

-- what holds the operand
pub holder_of : (t : Term) (q : List ℕ) (i : ℕ) (d : Demand) (held : Part) → part_at d t (q ++ i ∷ []) ≡ Some held → (holder : Part) × (part_at d t q ≡ Some holder) × (part holder.term i ≡ Some held)
holder_of t q i d held is = by (part_at d t q) refl (sym (part_at-last q d t i) ∙ is)
  where
    by : (o : Option Part) → part_at d t q ≡ o → option_and_then (λ p. part p.term i) o ≡ Some held → (holder : Part) × (part_at d t q ≡ Some holder) × (part holder.term i ≡ Some held)
    by None e h = absurd (let bad : None ≡ Some held = h in cc)
    by (Some holder) e h = (holder, e, h)

-- where it is: after its holder's place, the part's own
pub operand_place_last : (q : List ℕ) (u : Tree) (d : Demand) (t : Term) (i : ℕ) (holder held : Part) → part_at d t q ≡ Some holder → part holder.term i ≡ Some held
    → operand_place (q ++ i ∷ []) u t ≡ operand_place q u t ++ part_place holder.term (forest_of_children (subtree u (operand_place q u t))) i
operand_place_last [] u d t i holder held is has =
    let same : record { demand = d; term = t } ≡ holder = (let found : Some (record { demand = d; term = t }) ≡ Some holder = is in cc) in
    ap (λ o. below_part (operand_place []) u (part_place t (forest_of_children u) i) o) (ap (λ p. part p.term i) same ∙ has)
    ∙ append-nil (part_place t (forest_of_children u) i)
    ∙ ap (λ p. part_place p.term (forest_of_children u) i) same
operand_place_last (j ∷ q) u d t i holder held is has = by (λ v s h. operand_place_last q v s.demand s.term i holder held h has) (part t j) is
  where
    by : ((v : Tree) (s : Part) → part_at s.demand s.term q ≡ Some holder → operand_place (q ++ i ∷ []) v s.term ≡ operand_place q v s.term ++ part_place holder.term (forest_of_children (subtree v (operand_place q v s.term))) i)
        → (o : Option Part) → option_and_then (λ s. part_at s.demand s.term q) o ≡ Some holder
        → below_part (operand_place (q ++ i ∷ [])) u (part_place t (forest_of_children u) j) o
        ≡ below_part (operand_place q) u (part_place t (forest_of_children u) j) o ++ part_place holder.term (forest_of_children (subtree u (below_part (operand_place q) u (part_place t (forest_of_children u) j) o))) i
    by each None h = absurd (let bad : None ≡ Some holder = h in cc)
    by each (Some s) h =
        let at : Place = part_place t (forest_of_children u) j in
        let v : Tree = subtree u at in
        ap (λ p. at ++ p) (each v s h)
        ∙ sym (append_assoc at (operand_place q v s.term) (part_place holder.term (forest_of_children (subtree v (operand_place q v s.term))) i))
        ∙ ap (λ w. (at ++ operand_place q v s.term) ++ part_place holder.term (forest_of_children w) i) (sym (subtree-append u at (operand_place q v s.term)))

-- ---- arguments

list_form : (u : Tree) (args : Terms) → meaning u ≡ IsArguments args → is_arguments (form_of (kind_of u)) ≡ true
list_form (token k x) args e = absurd (let bad : IsSign (leaf k x) ≡ IsArguments args = e in cc)
list_form (node k c) args e = ap is_arguments (arguments_formed (form_of k) (meanings c) args e)

any_demanded : (args : Terms) (j : ℕ) (p : Part) → argument args j ≡ Some p → p.demand ≡ AtLeast 0
any_demanded NoTerms j p is = absurd (let bad : None ≡ Some p = is in cc)
any_demanded (Last e) zero p is = ap (λ o. demand_or o) (sym is)
  where
    demand_or : Option Part → Demand
    demand_or None = AtLeast 0
    demand_or (Some p) = p.demand
any_demanded (Last e) (suc j) p is = absurd (let bad : None ≡ Some p = is in cc)
any_demanded (More e es) zero p is = ap (λ o. demand_or o) (sym is)
  where
    demand_or : Option Part → Demand
    demand_or None = AtLeast 0
    demand_or (Some p) = p.demand
any_demanded (More e es) (suc j) p is = any_demanded es j p is

no_angle : (args : Terms) (j : ℕ) (ts : List Token) → begins_with_angle ((behind_argument args j ++ fixed tok.R_PAREN ∷ []) ++ ts) ≡ false
no_angle NoTerms j ts = refl
no_angle (Last e) j ts = refl
no_angle (More e es) zero ts = refl
no_angle (More e es) (suc j) ts = no_angle es j ts

-- an argument: the list of arguments is its parent, any term fits there, and neither `<` nor `<<`
-- follows
record Nested (u : Tree) (t : Term) (i : ℕ) (p : Part) : Type 0 where
  list : ℕ
  child : ℕ
  place : part_place t (forest_of_children u) i ≡ list ∷ (child ∷ [])
  is_list : is_arguments (form_of (kind_of (child_at (forest_of_children u) list))) ≡ true
  any : p.demand ≡ AtLeast 0
  followed : (ts : List Token) → begins_with_angle (behind_part t i ++ ts) ≡ false

nested : (u : Tree) (t : Term) (i : ℕ) (p : Part) → meaning u ≡ IsTerm t → part t i ≡ Some p → is_direct t i ≡ false → Nested u t i p
nested u (Method e n args) (suc j) p shows is d =
    let k : Stands (forest_of_children u) (kid_meanings (Method e n args)) 3 = kid_stands (forest_of_children u) (kid_meanings (Method e n args)) 3 (told_parts u (Method e n args) shows) (sound-term (Method e n args)) (omega arith) in
    record {
      list = (kid_at (forest_of_children u) 3).number;
      child = (kid_at (forest_of_children (kid_at (forest_of_children u) 3).tree) (argument_kid j)).number;
      place = refl;
      is_list = list_form (child_at (forest_of_children u) (kid_at (forest_of_children u) 3).number) args k.means_it;
      any = any_demanded args j p is;
      followed = no_angle args j;
    }
nested u (Call e args) (suc j) p shows is d =
    let k : Stands (forest_of_children u) (kid_meanings (Call e args)) 1 = kid_stands (forest_of_children u) (kid_meanings (Call e args)) 1 (told_parts u (Call e args) shows) (sound-term (Call e args)) (omega arith) in
    record {
      list = (kid_at (forest_of_children u) 1).number;
      child = (kid_at (forest_of_children (kid_at (forest_of_children u) 1).tree) (argument_kid j)).number;
      place = refl;
      is_list = list_form (child_at (forest_of_children u) (kid_at (forest_of_children u) 1).number) args k.means_it;
      any = any_demanded args j p is;
      followed = no_angle args j;
    }
nested u (Method e n args) zero p shows is d = absurd (no (sym d))
nested u (Call e args) zero p shows is d = absurd (no (sym d))
nested u (Paren e) i p shows is d = absurd (no (sym d))
nested u t i p shows is d = absurd (no (sym d))

fits_any : (d : Demand) (angle : Bool) (s : Term) → d ≡ AtLeast 0 → angle ≡ false → FitsPlace d angle s
fits_any d angle s e f = subst (λ d. FitsPlace d angle s) (sym e) (omega arith, λ ends. f)

-- ---- the test, with the operand's own parent

-- the node or token at an operand, its parent, and what the test says there of any term
pub record AskedAt (r : Cursor) (t : Term) (q : List ℕ) (held : Part) : Type 0 where
  pub shows : meaning (focus (operand_cursor r t q)) ≡ IsTerm held.term
  pub parent : Cursor
  pub is_parent : parent_of (operand_cursor r t q) ≡ Some parent
  pub holds : is_term_form (form_at parent) || is_arguments (form_at parent) ≡ true
  pub fits : (own : Cursor) (s : Term) → meaning (focus own) ≡ IsTerm s → asks own parent (operand_cursor r t q) ≡ false ↔ FitsPlace held.demand (angle_behind r t q) s

pub operand_shown : (r : Cursor) (t : Term) (q : List ℕ) (held : Part) → meaning (focus r) ≡ IsTerm t → operand t q ≡ Some held → meaning (focus (operand_cursor r t q)) ≡ IsTerm held.term
operand_shown r t q held shows is =
    ap meaning (subtree-append r.tree r.place (operand_place q (focus r) t)) ∙ (operand_stands q (focus r) (AtLeast 0) t held shows is).shows

formed : (t : Term) → is_term_form (term_form t) ≡ true
formed (Paren e) = refl
formed _ = refl

or_true : (b : Bool) → b || true ≡ true
or_true true = refl
or_true false = refl

asked_directly : (r : Cursor) (t : Term) (q : List ℕ) (i : ℕ) (holder held : Part) → meaning (focus r) ≡ IsTerm t → operand t q ≡ Some holder → part holder.term i ≡ Some held → operand t (q ++ i ∷ []) ≡ Some held
    → is_direct holder.term i ≡ true → AskedAt r t (q ++ i ∷ []) held
asked_directly r t q i holder held shows is has whole direct =
    let u : Tree = focus r in
    let at : Place = operand_place q u t in
    let parent : Cursor = at_place r (r.place ++ at) in
    let own : Cursor = operand_cursor r t (q ++ i ∷ []) in
    let n : ℕ = part_kid holder.term i in
    let here : own ≡ kid_place parent n =
    ap (λ p. at_place r (r.place ++ p)) (operand_place_last q u (AtLeast 0) t i holder held is has ∙ ap (λ p. at ++ p) (direct_place holder.term (forest_of_children (subtree u at)) i direct))
    ∙ ap (at_place r) (sym (append_assoc r.place at ((kid_at (forest_of_children (subtree u at)) n).number ∷ [])))
    ∙ ap (λ w. at_place r ((r.place ++ at) ++ (kid_at (forest_of_children w) n).number ∷ [])) (sym (subtree-append r.tree r.place at)) in
    let a : Asked t q i r parent own holder held = asked_so t q i r parent own holder held shows is has direct refl here in
    record {
      shows = operand_shown r t (q ++ i ∷ []) held shows whole;
      parent = parent;
      is_parent = place_parent parent own n here;
      holds = ap (λ b. b || is_arguments (form_at parent)) (ap is_term_form (form_told (focus parent) holder.term a.holder_shown) ∙ formed holder.term);
      fits = λ s_own s s_shows.
          let angle : Bool = angle_behind r t (q ++ i ∷ []) in
          let f = needs_where_unfit holder.term i held.demand held.term s angle has in
          let g : asks s_own parent own ≡ needs_pair_at holder.term i angle s =
          ap (λ b. cond b false (operators_ask s_own parent own (begins_with_angle (leaves_behind own.tree own.place)))) (not_arguments (focus parent) holder.term a.holder_shown)
          ∙ operators_asked s_own parent own (begins_with_angle (leaves_behind own.tree own.place)) s holder.term i held s_shows a.holder_shown has direct here
          ∙ ap (λ ts. needs_pair_at holder.term i (begins_with_angle ts) s) a.follows in
          ((λ h. f.0 (sym g ∙ h)), (λ h. g ∙ f.1 h));
    }

asked_in_list : (r : Cursor) (t : Term) (q : List ℕ) (i : ℕ) (holder held : Part) → meaning (focus r) ≡ IsTerm t → operand t q ≡ Some holder → part holder.term i ≡ Some held → operand t (q ++ i ∷ []) ≡ Some held
    → is_direct holder.term i ≡ false → AskedAt r t (q ++ i ∷ []) held
asked_in_list r t q i holder held shows is has whole direct =
    let u : Tree = focus r in
    let at : Place = operand_place q u t in
    let v : Tree = subtree u at in
    let h : PartStands u at holder.term (tokens_behind q t) = operand_stands q u (AtLeast 0) t holder shows is in
    let x : Nested v holder.term i held = nested v holder.term i held h.shows has direct in
    let parent : Cursor = at_place r (r.place ++ (at ++ x.list ∷ [])) in
    let own : Cursor = operand_cursor r t (q ++ i ∷ []) in
    let pieces : r.place ++ (at ++ x.list ∷ (x.child ∷ [])) ≡ (r.place ++ (at ++ x.list ∷ [])) ++ x.child ∷ [] = simp append_assoc in
    let here : own ≡ at_place parent (parent.place ++ x.child ∷ []) =
    ap (λ p. at_place r (r.place ++ p)) (operand_place_last q u (AtLeast 0) t i holder held is has ∙ ap (λ p. at ++ p) x.place)
    ∙ ap (at_place r) pieces in
    let list : focus parent ≡ child_at (forest_of_children v) x.list = subtree-append r.tree r.place (at ++ x.list ∷ []) ∙ subtree-append u at (x.list ∷ []) in
    let angle : angle_behind r t (q ++ i ∷ []) ≡ false =
    ap (λ ts. begins_with_angle (ts ++ leaves_behind r.tree r.place)) (behind-last t q i holder held is has)
    ∙ ap begins_with_angle (append_assoc (behind_part holder.term i) (tokens_behind q t) (leaves_behind r.tree r.place))
    ∙ x.followed (tokens_behind q t ++ leaves_behind r.tree r.place) in
    record {
      shows = operand_shown r t (q ++ i ∷ []) held shows whole;
      parent = parent;
      is_parent = ap parent_of here ∙ child_parent parent x.child;
      holds = ap (λ b. is_term_form (form_at parent) || b) (ap (λ w. is_arguments (form_of (kind_of w))) list ∙ x.is_list) ∙ or_true (is_term_form (form_at parent));
      fits = λ s_own s s_shows.
          let g : asks s_own parent own ≡ false =
          ap (λ b. cond b false (operators_ask s_own parent own (begins_with_angle (leaves_behind own.tree own.place)))) (ap (λ w. is_arguments (form_of (kind_of w))) list ∙ x.is_list) in
          ((λ y. fits_any held.demand (angle_behind r t (q ++ i ∷ [])) s x.any angle), (λ y. g));
    }

pub asked_at : (r : Cursor) (t : Term) (i : ℕ) (q : List ℕ) (held : Part) → meaning (focus r) ≡ IsTerm t → operand t (i ∷ q) ≡ Some held → AskedAt r t (i ∷ q) held
asked_at r t i q held shows is =
    let s = split_last i q in
    let whole : operand t (s.0 ++ s.1 ∷ []) ≡ Some held = ap (operand t) (sym s.2) ∙ is in
    let h = holder_of t s.0 s.1 (AtLeast 0) held whole in
    subst (λ q. AskedAt r t q held) (sym s.2) (by s.0 s.1 h.0 h.1 h.2 whole (is_direct h.0.term s.1) refl)
  where
    by : (q : List ℕ) (i : ℕ) (holder : Part) → operand t q ≡ Some holder → part holder.term i ≡ Some held → operand t (q ++ i ∷ []) ≡ Some held → (b : Bool) → is_direct holder.term i ≡ b → AskedAt r t (q ++ i ∷ []) held
    by q i holder e has whole true d = asked_directly r t q i holder held shows e has whole d
    by q i holder e has whole false d = asked_in_list r t q i holder held shows e has whole d

-- with any cursor for the parent
pub asked_below : (r : Cursor) (t : Term) (i : ℕ) (q : List ℕ) (held : Part) (parent own : Cursor) (s : Term) → meaning (focus r) ≡ IsTerm t → operand t (i ∷ q) ≡ Some held → parent_of (operand_cursor r t (i ∷ q)) ≡ Some parent → meaning (focus own) ≡ IsTerm s
    → asks own parent (operand_cursor r t (i ∷ q)) ≡ false ↔ FitsPlace held.demand (angle_behind r t (i ∷ q)) s
asked_below r t i q held parent own s shows is above own_shows =
    let a : AskedAt r t (i ∷ q) held = asked_at r t i q held shows is in
    let both : Some a.parent ≡ Some parent = sym a.is_parent ∙ above in
    let same : a.parent ≡ parent = cc in
    subst (λ p. asks own p (operand_cursor r t (i ∷ q)) ≡ false ↔ FitsPlace held.demand (angle_behind r t (i ∷ q)) s) same (a.fits own s own_shows)
