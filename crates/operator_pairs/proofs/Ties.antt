-- What the answers say of reading: one pair gone, and no operand asked.
use Rattle.std.proofs.Common.{◌≡◌, ◌++◌, ℕ, List, [], ◌∷◌, Bool, true, false, ◌&&◌, Option, Some, None, IfSome, refl, sym, ap, subst, ◌∙◌, ◌↔◌}
use Rattle.tree_model.specs.Cursor.{Cursor, focus, parent_of}
use Rattle.operator_terms.specs.Token.{Token}
use Rattle.operator_terms.specs.Term.{Term, Paren, tokens, is_field}
use Rattle.operator_terms.specs.Reading.{Reads, begins_with_angle}
use Rattle.operator_terms.specs.Places.{Demand, AtLeast, Callee, Part, some_part, part, operand, tokens_behind, ends_in_cast, FitsPlace, Fits, MayStandBefore}
use Rattle.operator_terms.specs.Powers.{needs_pair_at}
use Rattle.operator_terms.specs.Pairs.{without}
use Rattle.operator_terms.specs.AllFit.{all_fit}
use Rattle.operator_terms.specs.Headline.{AsksNowhere}
use Rattle.operator_terms.proofs.Paired.{fits_before-fits}
use Rattle.operator_terms.proofs.MayGo.{pair_may_go_before}
use Rattle.operator_terms.proofs.AllFit.{all_fit-reads}
use Rattle.operator_terms.proofs.Headlines.{operand-last, one_reading_where_none_asked}
use Rattle.operator_terms.proofs.Readings.{one_reading}
use Rattle.operator_terms.proofs.Power.{needs_where_unfit}
use Rattle.operator_terms.proofs.Precedences.{none_needed}
use Rattle.operator_terms.specs.Precedence.{precedence, needs_parentheses_in}
use Rattle.operator_trees.proofs.Tokens.{tokens-shown}
use Rattle.tree_model.specs.Tree.{Tree}
use Rattle.operator_trees.specs.Shown.{IsTerm, meaning, shown, term_of}
use Rattle.operator_reading.specs.Reads.{ReadsBack, IsAnswer}
use Rattle.operator_trees.specs.Leaves.{leaves_behind, leaves_of}
use Rattle.operator_pairs.specs.Pairs.{operand_cursor, angle_behind, asks, inside_fits, part_fits, may_go, is_pair_term, is_pair_part, reads_without, AskedNowhere, MayGoBefore}
use Rattle.operator_pairs.proofs.Asked.{AskedAt, asked_at, asked_below, operand_shown, split_last, holder_of}

-- ---- one pair

-- what `own` shows fits in the pair's place exactly where the tokens read without the pair
pub pair_asked : (r : Cursor) (t : Term) (i : ℕ) (q : List ℕ) (d : Demand) (e : Term) (parent own : Cursor) → meaning (focus r) ≡ IsTerm t → operand t (i ∷ q) ≡ some_part d (Paren e) → parent_of (operand_cursor r t (i ∷ q)) ≡ Some parent → meaning (focus own) ≡ IsTerm e
    → Reads 0 (tokens t) t → MayGoBefore (leaves_behind r.tree r.place) t (i ∷ q)
    → asks own parent (operand_cursor r t (i ∷ q)) ≡ false ↔ Reads 0 (tokens (without (i ∷ q) t)) (without (i ∷ q) t)
pair_asked r t i q d e parent own shows is above own_shows reads stands =
    let f = asked_below r t i q (record { demand = d; term = Paren e }) parent own e shows is above own_shows in
    let g = pair_may_go_before (leaves_behind r.tree r.place) t (i ∷ q) d e reads is stands.0 stands.1 in
    ((λ h. g.0 (f.0 h)), (λ h. f.1 (g.1 h)))

pub only_reading : (t u : Term) → Reads 0 (tokens t) t → Reads 0 (tokens t) u → u ≡ t
only_reading t u h g = sym (one_reading 0 0 (tokens t) t u h g)

-- where neither `<` nor `<<` follows, anything may be
pub may_stand : (following : List Token) (t : Term) (q : List ℕ) → begins_with_angle following ≡ false → MayGoBefore following t q
may_stand following t q h = ((λ ends. h), (λ ends. h))

same_bool : (a b : Bool) → (a ≡ true → b ≡ true) → (b ≡ true → a ≡ true) → a ≡ b
same_bool true b f g = sym (f refl)
same_bool false true f g = g refl
same_bool false false f g = refl

pub needless_reads : (following : List Token) (t : Term) (i : ℕ) (q : List ℕ) (held : Part) → operand t (i ∷ q) ≡ Some held → Reads 0 (tokens t) t → begins_with_angle following ≡ false → may_go following t (i ∷ q) ≡ reads_without t (i ∷ q)
needless_reads following t i q held is reads angle =
    ap (part_fits behind) is ∙ by held.term refl ∙ ap (λ o. is_pair_part o && all_fit (without (i ∷ q) t)) (sym is)
  where
    behind : Bool
    behind = begins_with_angle (tokens_behind (i ∷ q) t ++ following)

    by : (s : Term) → held.term ≡ s → inside_fits held.demand (begins_with_angle (tokens_behind (i ∷ q) t ++ following)) s ≡ (is_pair_term s && all_fit (without (i ∷ q) t))
    by (Paren e) same =
        let stands = may_stand following t (i ∷ q) angle in
        let at : operand t (i ∷ q) ≡ some_part held.demand (Paren e) = is ∙ ap (λ s. some_part held.demand s) same in
        let f = fits_before-fits held.demand (begins_with_angle (tokens_behind (i ∷ q) t ++ following)) e in
        let g = pair_may_go_before following t (i ∷ q) held.demand e reads at stands.0 stands.1 in
        let h = all_fit-reads (without (i ∷ q) t) in
        same_bool _ (all_fit (without (i ∷ q) t)) (λ x. h.1 (g.0 (f.0 x))) (λ x. f.1 (g.1 (h.0 x)))
    by _ same = refl

-- ---- no operand asked

pub asked_nowhere : (r : Cursor) (t : Term) → meaning (focus r) ≡ IsTerm t → MayStandBefore (leaves_behind r.tree r.place) t → Reads 0 (tokens t) t ↔ AskedNowhere r t
asked_nowhere r t shows stands = (to, from)
  where
    to : Reads 0 (tokens t) t → AskedNowhere r t
    to reads i q held parent is above =
        let following = leaves_behind r.tree r.place in
        let none : AsksNowhere following t = (one_reading_where_none_asked following t stands).0 (reads, λ u h. only_reading t u reads h) in
        let s = split_last i q in
        let whole : operand t (s.0 ++ s.1 ∷ []) ≡ Some held = ap (operand t) (sym s.2) ∙ is in
        let h = holder_of t s.0 s.1 (AtLeast 0) held whole in
        let not_asked : needs_pair_at h.0.term s.1 (angle_behind r t (s.0 ++ s.1 ∷ [])) held.term ≡ false = none s.0 s.1 h.0 held h.1 h.2 in
        let fits : FitsPlace held.demand (angle_behind r t (s.0 ++ s.1 ∷ [])) held.term = (needs_where_unfit h.0.term s.1 held.demand held.term held.term (angle_behind r t (s.0 ++ s.1 ∷ [])) h.2).0 not_asked in
        (asked_below r t i q held parent (operand_cursor r t (i ∷ q)) held.term shows is above (operand_shown r t (i ∷ q) held shows is)).1
        (subst (λ p. FitsPlace held.demand (angle_behind r t p) held.term) (sym s.2) fits)

    at_place_of : AskedNowhere r t → (q : List ℕ) (i : ℕ) (held : Part) → operand t (q ++ i ∷ []) ≡ Some held → FitsPlace held.demand (angle_behind r t (q ++ i ∷ [])) held.term
    at_place_of none [] i held is =
        let a : AskedAt r t (i ∷ []) held = asked_at r t i [] held shows is in
        (a.fits (operand_cursor r t (i ∷ [])) held.term a.shows).0 (none i [] held a.parent is a.is_parent)
    at_place_of none (j ∷ q) i held is =
        let a : AskedAt r t (j ∷ (q ++ i ∷ [])) held = asked_at r t j (q ++ i ∷ []) held shows is in
        (a.fits (operand_cursor r t (j ∷ (q ++ i ∷ []))) held.term a.shows).0 (none j (q ++ i ∷ []) held a.parent is a.is_parent)

    from : AskedNowhere r t → Reads 0 (tokens t) t
    from none =
        ((one_reading_where_none_asked (leaves_behind r.tree r.place) t stands).1
        (λ q i holder held at has. (needs_where_unfit holder.term i held.demand held.term held.term (angle_behind r t (q ++ i ∷ [])) has).1
        (at_place_of none q i held (operand-last t q i holder held at has)))).0

-- what fits in the whole tree fits in the term, where neither `<` nor `<<` follows
none_more : (ts following : List Token) → begins_with_angle following ≡ false → begins_with_angle (ts ++ following) ≡ begins_with_angle ts
none_more [] following h = h
none_more (t ∷ ts) following h = refl

pub fits_in_term : (r : Cursor) (t : Term) (q : List ℕ) (held : Part) → operand t q ≡ Some held → begins_with_angle (leaves_behind r.tree r.place) ≡ false → FitsPlace held.demand (angle_behind r t q) held.term ↔ Fits t q
fits_in_term r t q held is h =
    let same : angle_behind r t q ≡ begins_with_angle (tokens_behind q t) = none_more (tokens_behind q t) (leaves_behind r.tree r.place) h in (
      (λ f. subst (λ o. IfSome o (λ p. FitsPlace p.demand (begins_with_angle (tokens_behind q t)) p.term)) (sym is) (subst (λ b. FitsPlace held.demand b held.term) same f)),
      (λ f. subst (λ b. FitsPlace held.demand b held.term) (sym same) (subst (λ o. IfSome o (λ p. FitsPlace p.demand (begins_with_angle (tokens_behind q t)) p.term)) is f)),
    )

-- ---- as the answers have it

pub fits_so : (r : Cursor) (t s : Term) (i : ℕ) (q : List ℕ) (held : Part) (parent own place : Cursor) (b : Bool) → b ≡ asks own parent place → meaning (focus r) ≡ IsTerm t → operand t (i ∷ q) ≡ Some held
    → place ≡ operand_cursor r t (i ∷ q) → parent_of place ≡ Some parent → meaning (focus own) ≡ IsTerm s → b ≡ false ↔ FitsPlace held.demand (angle_behind r t (i ∷ q)) s
fits_so r t s i q held parent own place b e shows is at above self =
    let f = asked_below r t i q held parent own s shows is (ap parent_of (sym at) ∙ above) self in
    let g : b ≡ asks own parent (operand_cursor r t (i ∷ q)) = e ∙ ap (asks own parent) at in
    ((λ h. f.0 (sym g ∙ h)), (λ h. g ∙ f.1 h))

pub pairs_so : (r : Cursor) (t : Term) (i : ℕ) (q : List ℕ) (d : Demand) (e : Term) (parent own place : Cursor) (b : Bool) → b ≡ asks own parent place → meaning (focus r) ≡ IsTerm t → operand t (i ∷ q) ≡ some_part d (Paren e)
    → place ≡ operand_cursor r t (i ∷ q) → parent_of place ≡ Some parent → meaning (focus own) ≡ IsTerm e → Reads 0 (tokens t) t → MayGoBefore (leaves_behind r.tree r.place) t (i ∷ q)
    → (b ≡ false ↔ Reads 0 (tokens (without (i ∷ q) t)) (without (i ∷ q) t)) × (b ≡ false → (u : Term) → Reads 0 (tokens (without (i ∷ q) t)) u → u ≡ without (i ∷ q) t)
pairs_so r t i q d e parent own place b is_b shows is at above self reads stands =
    let f = pair_asked r t i q d e parent own shows is (ap parent_of (sym at) ∙ above) self reads stands in
    let g : b ≡ asks own parent (operand_cursor r t (i ∷ q)) = is_b ∙ ap (asks own parent) at in
    (((λ h. f.0 (sym g ∙ h)), (λ h. g ∙ f.1 h)), (λ h u other. only_reading (without (i ∷ q) t) u (f.0 (sym g ∙ h)) other))

pub tied_so : (c : Cursor) (o : Option Bool) → ReadsBack o (shown (focus c)) → IfSome o (λ b. (t : Term) → meaning (focus c) ≡ IsTerm t → MayStandBefore (leaves_behind c.tree c.place) t → b ≡ true ↔ AskedNowhere c t)
tied_so c None h = tt
tied_so c (Some b) h = λ t shows stands.
    let a : IsAnswer b t = subst (λ m. ReadsBack (Some b) (term_of m)) shows h in
    let f = asked_nowhere c t shows stands in
    ((λ y. f.0 (a.0.0 y)), (λ n. a.0.1 (f.1 n)))

-- ---- two laws more

pub one_term : (u v : Tree) (s t : Term) → meaning u ≡ IsTerm s → meaning v ≡ IsTerm t → Reads 0 (tokens s) s → Reads 0 (tokens t) t → leaves_of u ≡ leaves_of v → s ≡ t
one_term u v s t su sv rs rt same =
    let e : tokens s ≡ tokens t = sym (tokens-shown u s su) ∙ same ∙ tokens-shown v t sv in
    one_reading 0 0 (tokens s) s t rs (subst (λ ts. Reads 0 ts t) (sym e) rt)

asked_end : (r : Cursor) (t : Term) (q : List ℕ) (i : ℕ) (held : Part) (parent own : Cursor) (s : Term) → meaning (focus r) ≡ IsTerm t → operand t (q ++ i ∷ []) ≡ Some held → parent_of (operand_cursor r t (q ++ i ∷ [])) ≡ Some parent → meaning (focus own) ≡ IsTerm s
    → asks own parent (operand_cursor r t (q ++ i ∷ [])) ≡ false ↔ FitsPlace held.demand (angle_behind r t (q ++ i ∷ [])) s
asked_end r t [] i held parent own s shows is above self = asked_below r t i [] held parent own s shows is above self
asked_end r t (j ∷ q) i held parent own s shows is above self = asked_below r t j (q ++ i ∷ []) held parent own s shows is above self

pub precedences_ask : (r : Cursor) (t : Term) (q : List ℕ) (i : ℕ) (holder held : Part) (parent : Cursor) → meaning (focus r) ≡ IsTerm t → operand t q ≡ Some holder → part holder.term i ≡ Some held
    → parent_of (operand_cursor r t (q ++ i ∷ [])) ≡ Some parent
    → needs_parentheses_in (precedence held.term) (precedence holder.term) ≡ false
    → (held.demand ≡ Callee → is_field held.term ≡ false)
    → (ends_in_cast (tokens held.term) ≡ true → angle_behind r t (q ++ i ∷ []) ≡ false)
    → asks (operand_cursor r t (q ++ i ∷ [])) parent (operand_cursor r t (q ++ i ∷ [])) ≡ false
precedences_ask r t q i holder held parent shows is has above pre callee ends =
    let angle : Bool = angle_behind r t (q ++ i ∷ []) in
    let whole : operand t (q ++ i ∷ []) ≡ Some held = operand-last t q i holder held is has in
    let fits : FitsPlace held.demand angle held.term = (needs_where_unfit holder.term i held.demand held.term held.term angle has).0 (none_needed holder.term i held.demand held.term angle has pre callee ends) in
    (asked_end r t q i held parent (operand_cursor r t (q ++ i ∷ [])) held.term shows whole above (operand_shown r t (q ++ i ∷ []) held shows whole)).1 fits
