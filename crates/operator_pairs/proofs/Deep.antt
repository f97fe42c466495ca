-- The operands of a tree that shows a term, at every depth: what is there, and what follows.
use Rattle.std.proofs.Common.{◌≡◌, ℕ, List, [], ◌∷◌, ◌++◌, Bool, true, false, Some, refl, sym, ap, subst, ◌∙◌, ◌↔◌, append_assoc}
use Rattle.tree_model.specs.Tree.{Place, subtree, forest_of_children}
use Rattle.tree_model.specs.Cursor.{Cursor, focus, at_place}
use Rattle.operator_terms.specs.Term.{Term, Paren}
use Rattle.operator_terms.specs.Places.{AtLeast, Part, part, operand, behind_part, tokens_behind, FitsPlace}
use Rattle.operator_terms.specs.Powers.{needs_pair_at}
use Rattle.operator_terms.specs.Reading.{begins_with_angle}
use Rattle.operator_terms.proofs.Power.{needs_where_unfit}
use Rattle.operator_terms.proofs.Headlines.{behind-last}
use Rattle.operator_trees.specs.Shown.{meaning, IsTerm}
use Rattle.operator_trees.specs.Before.{kid_at, part_kid, is_direct}
use Rattle.operator_trees.specs.Leaves.{leaves_behind}
use Rattle.operator_trees.specs.Operands.{operand_place}
use Rattle.operator_trees.proofs.Operands.{PartStands, operand_stands, direct_stands, told_parts, behind-append, subtree-append}
use Rattle.operator_powers.specs.Rules.{kid_place}

-- what a part's cursor shows, and what follows it
pub record Asked (t : Term) (q : List ℕ) (i : ℕ) (r parent own : Cursor) (holder held : Part) : Type 0 where
  pub holder_shown : meaning (focus parent) ≡ IsTerm holder.term
  pub held_shown : meaning (focus own) ≡ IsTerm held.term
  pub follows : leaves_behind own.tree own.place ≡ tokens_behind (q ++ i ∷ []) t ++ leaves_behind r.tree r.place

pub asked_at : (t : Term) (q : List ℕ) (i : ℕ) (r : Cursor) (holder held : Part) → meaning (focus r) ≡ IsTerm t → operand t q ≡ Some holder → part holder.term i ≡ Some held → is_direct holder.term i ≡ true
    → Asked t q i r (at_place r (r.place ++ operand_place q (focus r) t)) (kid_place (at_place r (r.place ++ operand_place q (focus r) t)) (part_kid holder.term i)) holder held
asked_at t q i r holder held shows is has direct =
    let at : Place = operand_place q (focus r) t in
    let h : PartStands (focus r) at holder.term (tokens_behind q t) = operand_stands q (focus r) (AtLeast 0) t holder shows is in
    let parent : Cursor = at_place r (r.place ++ at) in
    let here : focus parent ≡ subtree (focus r) at = subtree-append r.tree r.place at in
    let shown : meaning (focus parent) ≡ IsTerm holder.term = ap meaning here ∙ h.shows in
    let n : ℕ = (kid_at (forest_of_children (focus parent)) (part_kid holder.term i)).number in
    let k : PartStands (focus parent) (n ∷ []) held.term (behind_part holder.term i) = direct_stands (focus parent) holder.term i held (told_parts (focus parent) holder.term shown) has direct in
    record {
      holder_shown = shown;
      held_shown = ap meaning (subtree-append r.tree (r.place ++ at) (n ∷ [])) ∙ k.shows;
      follows =
          behind-append r.tree (r.place ++ at) (n ∷ [])
          ∙ ap (λ ts. ts ++ leaves_behind r.tree (r.place ++ at)) k.leaves_are
          ∙ ap (λ ts. behind_part holder.term i ++ ts) (behind-append r.tree r.place at ∙ ap (λ ts. ts ++ leaves_behind r.tree r.place) h.leaves_are)
          ∙ sym (append_assoc (behind_part holder.term i) (tokens_behind q t) (leaves_behind r.tree r.place))
          ∙ ap (λ ts. ts ++ leaves_behind r.tree r.place) (sym (behind-last t q i holder held is has));
    }

pub fits_asked : (holder held : Part) (i : ℕ) (angle : Bool) → part holder.term i ≡ Some held → needs_pair_at holder.term i angle held.term ≡ false ↔ FitsPlace held.demand angle held.term
fits_asked holder held i angle has = needs_where_unfit holder.term i held.demand held.term held.term angle has

pub asked_so : (t : Term) (q : List ℕ) (i : ℕ) (r parent own : Cursor) (holder held : Part) → meaning (focus r) ≡ IsTerm t → operand t q ≡ Some holder → part holder.term i ≡ Some held → is_direct holder.term i ≡ true
    → parent ≡ at_place r (r.place ++ operand_place q (focus r) t) → own ≡ kid_place parent (part_kid holder.term i) → Asked t q i r parent own holder held
asked_so t q i r parent own holder held shows is has direct pe oe =
    subst (λ o. Asked t q i r parent o holder held) (sym oe)
    (subst (λ p. Asked t q i r p (kid_place p (part_kid holder.term i)) holder held) (sym pe) (asked_at t q i r holder held shows is has direct))

pub fits_so : (t : Term) (q : List ℕ) (i : ℕ) (r parent own : Cursor) (holder held : Part) → Asked t q i r parent own holder held → part holder.term i ≡ Some held → (b : Bool)
    → b ≡ needs_pair_at holder.term i (begins_with_angle (leaves_behind own.tree own.place)) held.term
    → b ≡ false ↔ FitsPlace held.demand (begins_with_angle (tokens_behind (q ++ i ∷ []) t ++ leaves_behind r.tree r.place)) held.term
fits_so t q i r parent own holder held a has b e =
    let angle : Bool = begins_with_angle (tokens_behind (q ++ i ∷ []) t ++ leaves_behind r.tree r.place) in
    let f = fits_asked holder held i angle has in
    let g : b ≡ needs_pair_at holder.term i angle held.term = e ∙ ap (λ ts. needs_pair_at holder.term i (begins_with_angle ts) held.term) a.follows in
    ((λ h. f.0 (sym g ∙ h)), (λ h. g ∙ f.1 h))

-- what a pair holds, as a cursor
pub inside_shown : (c : Cursor) (e : Term) → meaning (focus c) ≡ IsTerm (Paren e) → meaning (focus (kid_place c 1)) ≡ IsTerm e
inside_shown c e shows =
    ap meaning (subtree-append c.tree c.place ((kid_at (forest_of_children (focus c)) 1).number ∷ []))
    ∙ (direct_stands (focus c) (Paren e) 0 (record { demand = AtLeast 0; term = e }) (told_parts (focus c) (Paren e) shows) refl refl).shows

pub pair_so : (t : Term) (q : List ℕ) (i : ℕ) (r parent place : Cursor) (holder held : Part) (e : Term) → Asked t q i r parent place holder held → part holder.term i ≡ Some held → (b : Bool)
    → b ≡ needs_pair_at holder.term i (begins_with_angle (leaves_behind place.tree place.place)) e
    → b ≡ false ↔ FitsPlace held.demand (begins_with_angle (tokens_behind (q ++ i ∷ []) t ++ leaves_behind r.tree r.place)) e
pair_so t q i r parent place holder held e a has b is =
    let angle : Bool = begins_with_angle (tokens_behind (q ++ i ∷ []) t ++ leaves_behind r.tree r.place) in
    let f = needs_where_unfit holder.term i held.demand held.term e angle has in
    let g : b ≡ needs_pair_at holder.term i angle e = is ∙ ap (λ ts. needs_pair_at holder.term i (begins_with_angle ts) e) a.follows in
    ((λ h. f.0 (sym g ∙ h)), (λ h. g ∙ f.1 h))
