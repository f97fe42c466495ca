-- The operator theorem over trees, with the whole test of parentheses.
use Rattle.std.proofs.Common.{◌≡◌, ◌↔◌, ◌++◌, ℕ, List, [], ◌∷◌, Bool, true, false, Option, Some, None, IfSome, refl, sym, ap, subst, ◌∙◌}
use Rattle.std.specs.List.{filter}
use Rattle.syntax_kind.specs.declared.syntax_kind.token_kind.TokenKind.TheVariants as token
use Rattle.tree_model.specs.Cursor.{Cursor, focus, parent_of}
use Rattle.operator_terms.specs.Token.{Token, fixed}
use Rattle.operator_terms.specs.Term.{Term, Paren, tokens, is_field}
use Rattle.operator_terms.specs.Reading.{Reads}
use Rattle.operator_terms.specs.Places.{Demand, AtLeast, Callee, Part, some_part, part, operand, tokens_behind, ends_in_cast, FitsPlace, Fits, MayStandBefore}
use Rattle.operator_terms.specs.Pairs.{without}
use Rattle.operator_terms.specs.Precedence.{precedence, needs_parentheses_in}
use Rattle.operator_terms.proofs.Gone.{tokens_without}
use Rattle.operator_terms.proofs.Headlines.{operand-last}
use Rattle.operator_terms.proofs.MayGo.{pair_may_go_before}
use Rattle.operator_terms.proofs.Paired.{fits_before-fits}
use Rattle.operator_terms.proofs.Readings.{reads_exactly}
use Rattle.operator_trees.specs.Leaves.{leaves_behind, leaves_of}
use Rattle.operator_trees.specs.Shown.{Meaning, IsTerm, meaning, shown, term_of}
use Rattle.operator_trees.proofs.Inversion.{no}
use Rattle.operator_trees.proofs.Tokens.{tokens-shown}
use Rattle.operator_reading.specs.Reads.{ReadsBack, IsAnswer}
use Rattle.operator_pairs.specs.Pairs as pairs
use Rattle.operator_pairs.specs.Pairs.{operand_cursor, angle_behind, inside_fits, is_needless, may_go, nodes_below, part_fits, AskedNowhere, MayGoBefore}
use Rattle.operator_pairs.proofs.Asked.{AskedAt, asked_at, asked_below, operand_shown}
use Rattle.operator_pairs.proofs.Found.{needless_listed}
use Rattle.operator_pairs.proofs.Ties.{asked_nowhere, only_reading, precedences_ask}
use Rattle.ras_operators.specs.Levels.{as_precedence, precedence_of}
use Rattle.ras_prec.specs.Headline.{IsOneReadingOf, NeedsNone, NoOperandNeedsAny, InsideNeedsNone, ReadsWithout, HasPair, AreNeedless, NeedlessOf}
use Rattle.ras_prec.specs.Rules.{asks}
use Rattle.ras_prec.proofs.Agree.{operand_asked}
use Rattle.ras_prec.proofs.Precedences.{precedence_shown}

-- ---- at an operand

-- the whole test answers what that of operator trees does
alike : (r : Cursor) (t s : Term) (i : ℕ) (q : List ℕ) (held : Part) (own parent : Cursor) → meaning (focus r) ≡ IsTerm t → operand t (i ∷ q) ≡ Some held
    → parent_of (operand_cursor r t (i ∷ q)) ≡ Some parent → meaning (focus own) ≡ IsTerm s → asks own parent (operand_cursor r t (i ∷ q)) ≡ pairs.asks own parent (operand_cursor r t (i ∷ q))
alike r t s i q held own parent shows is above self =
    operand_asked r t s i q held own parent (operand_cursor r t (i ∷ q)) (asks own parent (operand_cursor r t (i ∷ q))) refl shows is refl above self

-- what shows a term needs no parentheses in an operand's place exactly where it fits there
pub fits_where_none : (r : Cursor) (t s : Term) (i : ℕ) (q : List ℕ) (held : Part) (own : Cursor) → meaning (focus r) ≡ IsTerm t → operand t (i ∷ q) ≡ Some held → meaning (focus own) ≡ IsTerm s
    → NeedsNone own (operand_cursor r t (i ∷ q)) ↔ FitsPlace held.demand (angle_behind r t (i ∷ q)) s
fits_where_none r t s i q held own shows is self = (to, from)
  where
    to : NeedsNone own (operand_cursor r t (i ∷ q)) → FitsPlace held.demand (angle_behind r t (i ∷ q)) s
    to n = (asked_below r t i q held n.0 own s shows is n.1 self).0 (sym (alike r t s i q held own n.0 shows is n.1 self) ∙ n.2)

    from : FitsPlace held.demand (angle_behind r t (i ∷ q)) s → NeedsNone own (operand_cursor r t (i ∷ q))
    from fits =
        let a : AskedAt r t (i ∷ q) held = asked_at r t i q held shows is in
        (a.parent, a.is_parent, alike r t s i q held own a.parent shows is a.is_parent self ∙ (asked_below r t i q held a.parent own s shows is a.is_parent self).1 fits)

none_where_asked_nowhere : (r : Cursor) (t : Term) → meaning (focus r) ≡ IsTerm t → AskedNowhere r t → NoOperandNeedsAny r t
none_where_asked_nowhere r t shows none i q held is =
    let own : Cursor = operand_cursor r t (i ∷ q) in
    let a : AskedAt r t (i ∷ q) held = asked_at r t i q held shows is in
    (a.parent, a.is_parent, alike r t held.term i q held own a.parent shows is a.is_parent a.shows ∙ none i q held a.parent is a.is_parent)

asked_nowhere_where_none : (r : Cursor) (t : Term) → meaning (focus r) ≡ IsTerm t → NoOperandNeedsAny r t → AskedNowhere r t
asked_nowhere_where_none r t shows none i q held parent is above =
    let own : Cursor = operand_cursor r t (i ∷ q) in
    let n = none i q held is in
    let both : Some n.0 ≡ Some parent = sym n.1 ∙ above in
    let same : n.0 ≡ parent = cc in
    subst (λ p. pairs.asks own p own ≡ false) same (sym (alike r t held.term i q held own n.0 shows is n.1 (operand_shown r t (i ∷ q) held shows is)) ∙ n.2)

-- ---- the theorem

pub reads_where_none : (r : Cursor) (t : Term) → meaning (focus r) ≡ IsTerm t → MayStandBefore (leaves_behind r.tree r.place) t → Reads 0 (tokens t) t ↔ NoOperandNeedsAny r t
reads_where_none r t shows stands =
    let f = asked_nowhere r t shows stands in
    ((λ h. none_where_asked_nowhere r t shows (f.0 h)), (λ none. f.1 (asked_nowhere_where_none r t shows none)))

pub one_reading_where_none : (r : Cursor) (t : Term) → meaning (focus r) ≡ IsTerm t → MayStandBefore (leaves_behind r.tree r.place) t → IsOneReadingOf (leaves_of (focus r)) t ↔ NoOperandNeedsAny r t
one_reading_where_none r t shows stands = (to, from)
  where
    to : IsOneReadingOf (leaves_of (focus r)) t → NoOperandNeedsAny r t
    to h = (reads_where_none r t shows stands).0 (subst (λ ts. Reads 0 ts t) (tokens-shown (focus r) t shows) h.0)

    from : NoOperandNeedsAny r t → IsOneReadingOf (leaves_of (focus r)) t
    from none =
        let reads : Reads 0 (tokens t) t = (reads_where_none r t shows stands).1 none in
        subst (λ ts. IsOneReadingOf ts t) (sym (tokens-shown (focus r) t shows)) (reads, λ u h. only_reading t u reads h)

inside_shows : (r : Cursor) (t : Term) (i : ℕ) (q : List ℕ) (d : Demand) (e : Term) → meaning (focus r) ≡ IsTerm t → operand t (i ∷ q) ≡ some_part d (Paren e)
    → meaning (focus (operand_cursor r t ((i ∷ q) ++ 0 ∷ []))) ≡ IsTerm e
inside_shows r t i q d e shows is =
    let held : Part = record { demand = AtLeast 0; term = e } in
    operand_shown r t ((i ∷ q) ++ 0 ∷ []) held shows (operand-last t (i ∷ q) 0 (record { demand = d; term = Paren e }) held is refl)

pub pair_goes_where_none : (r : Cursor) (t : Term) (i : ℕ) (q : List ℕ) (d : Demand) (e : Term) → meaning (focus r) ≡ IsTerm t → operand t (i ∷ q) ≡ some_part d (Paren e)
    → MayGoBefore (leaves_behind r.tree r.place) t (i ∷ q) → IsOneReadingOf (leaves_of (focus r)) t → InsideNeedsNone r t (i ∷ q) ↔ ReadsWithout t (i ∷ q)
pair_goes_where_none r t i q d e shows is stands one =
    let reads : Reads 0 (tokens t) t = subst (λ ts. Reads 0 ts t) (tokens-shown (focus r) t shows) one.0 in
    let f = fits_where_none r t e i q (record { demand = d; term = Paren e }) (operand_cursor r t ((i ∷ q) ++ 0 ∷ [])) shows is (inside_shows r t i q d e shows is) in
    let g = pair_may_go_before (leaves_behind r.tree r.place) t (i ∷ q) d e reads is stands.0 stands.1 in
    ((λ n. g.0 (f.0 n)), (λ h. f.1 (g.1 h)))

pub pair_tokens : (r : Cursor) (t : Term) (q : List ℕ) (d : Demand) (e : Term) → meaning (focus r) ≡ IsTerm t → operand t q ≡ some_part d (Paren e)
    → (before : List Token)
    × (leaves_of (focus r) ≡ before ++ (fixed token.L_PAREN ∷ (tokens e ++ (fixed token.R_PAREN ∷ tokens_behind q t))))
    × (tokens (without q t) ≡ before ++ (tokens e ++ tokens_behind q t))
pair_tokens r t q d e shows is = let gone = tokens_without t q d e is in (gone.0, tokens-shown (focus r) t shows ∙ gone.1, gone.2)

-- ---- what `reads_back` answers

pub fits_so : (c : Cursor) (o : Option Bool) → ReadsBack o (shown (focus c)) → IfSome o (λ b. (t : Term) → meaning (focus c) ≡ IsTerm t → b ≡ true ↔ ((q : List ℕ) → Fits t q))
fits_so c None h = tt
fits_so c (Some b) h = λ t shows.
    let a : IsAnswer b t = subst (λ m. ReadsBack (Some b) (term_of m)) shows h in
    let f = reads_exactly t in
    ((λ y. f.0 (a.0.0 y)), (λ fits. a.0.1 (f.1 fits)))

pub tied_so : (c : Cursor) (o : Option Bool) → ReadsBack o (shown (focus c))
    → IfSome o (λ b. (t : Term) → meaning (focus c) ≡ IsTerm t → MayStandBefore (leaves_behind c.tree c.place) t → b ≡ true ↔ NoOperandNeedsAny c t)
tied_so c None h = tt
tied_so c (Some b) h = λ t shows stands.
    let a : IsAnswer b t = subst (λ m. ReadsBack (Some b) (term_of m)) shows h in
    let f = reads_where_none c t shows stands in
    ((λ y. f.0 (a.0.0 y)), (λ none. a.0.1 (f.1 none)))

-- ---- what `needless_parens` answers

-- a pair is there, and what it holds fits
abbrev PairFits : Bool → Option Part → Type 0
PairFits angle o = (d : Demand) × (e : Term) × (o ≡ some_part d (Paren e)) × FitsPlace d angle e

pair_fits : (angle : Bool) (o : Option Part) → part_fits angle o ≡ true ↔ PairFits angle o
pair_fits angle o = (to o refl, from)
  where
    held_pair : (p : Part) (s : Term) → p.term ≡ s → inside_fits p.demand angle s ≡ true → PairFits angle (Some p)
    held_pair p (Paren e) same h = (p.demand, e, ap (λ s. some_part p.demand s) same, (fits_before-fits p.demand angle e).0 h)
    held_pair p _ same h = absurd (no h)

    to : (x : Option Part) → o ≡ x → part_fits angle o ≡ true → PairFits angle o
    to None same h = absurd (no (ap (part_fits angle) (sym same) ∙ h))
    to (Some p) same h = subst (PairFits angle) (sym same) (held_pair p p.term refl (ap (part_fits angle) (sym same) ∙ h))

    from : PairFits angle o → part_fits angle o ≡ true
    from x = ap (part_fits angle) x.2 ∙ (fits_before-fits x.0 angle x.1).1 x.3

pub are_needless : (r : Cursor) (t : Term) (found : List Cursor) → meaning (focus r) ≡ IsTerm t → Reads 0 (tokens t) t → found ≡ filter is_needless (nodes_below r) → AreNeedless r found t
are_needless r t found shows reads is = (reads, may_go following t, is ∙ needless_listed r t shows, asked, read)
  where
    following : List Token
    following = leaves_behind r.tree r.place

    asked : (i : ℕ) (q : List ℕ) → may_go following t (i ∷ q) ≡ true ↔ (HasPair t (i ∷ q) × InsideNeedsNone r t (i ∷ q))
    asked i q =
        let f = pair_fits (angle_behind r t (i ∷ q)) (operand t (i ∷ q)) in (
          (λ h.
              let x = f.0 h in
              ((x.0, x.1, x.2), (fits_where_none r t x.1 i q (record { demand = x.0; term = Paren x.1 }) (operand_cursor r t ((i ∷ q) ++ 0 ∷ [])) shows x.2 (inside_shows r t i q x.0 x.1 shows x.2)).1 x.3)),
          (λ y.
              let p = y.0 in
              f.1 (p.0, p.1, p.2, (fits_where_none r t p.1 i q (record { demand = p.0; term = Paren p.1 }) (operand_cursor r t ((i ∷ q) ++ 0 ∷ [])) shows p.2 (inside_shows r t i q p.0 p.1 shows p.2)).0 y.1)),
        )

    read : (i : ℕ) (q : List ℕ) → MayGoBefore (leaves_behind r.tree r.place) t (i ∷ q) → may_go following t (i ∷ q) ≡ true ↔ (HasPair t (i ∷ q) × ReadsWithout t (i ∷ q))
    read i q stands =
        let f = pair_fits (angle_behind r t (i ∷ q)) (operand t (i ∷ q)) in (
          (λ h. let x = f.0 h in ((x.0, x.1, x.2), (pair_may_go_before (leaves_behind r.tree r.place) t (i ∷ q) x.0 x.1 reads x.2 stands.0 stands.1).0 x.3)),
          (λ y. let p = y.0 in f.1 (p.0, p.1, p.2, (pair_may_go_before (leaves_behind r.tree r.place) t (i ∷ q) p.0 p.1 reads p.2 stands.0 stands.1).1 y.1)),
        )

pub reading_pairs : (c : Cursor) (found : List Cursor) → ReadsBack (Some true) (shown (focus c)) → found ≡ filter is_needless (nodes_below c) → NeedlessOf c (Some found) (shown (focus c))
reading_pairs c found h is = by (meaning (focus c)) refl h
  where
    by : (m : Meaning) → meaning (focus c) ≡ m → ReadsBack (Some true) (term_of m) → NeedlessOf c (Some found) (term_of m)
    by (IsTerm t) e h = are_needless c t found e (h.0.0 refl) is
    by _ e h = absurd h

pub unread_none : (c : Cursor) → ReadsBack (Some false) (shown (focus c)) → NeedlessOf c None (shown (focus c))
unread_none c h = by (shown (focus c)) h
  where
    by : (o : Option Term) → ReadsBack (Some false) o → NeedlessOf c None o
    by (Some t) h = λ reads. no (h.0.1 reads)
    by None h = absurd h

pub unshown_none : (c : Cursor) → ReadsBack None (shown (focus c)) → NeedlessOf c None (shown (focus c))
unshown_none c h = by (shown (focus c)) h
  where
    by : (o : Option Term) → ReadsBack None o → NeedlessOf c None o
    by (Some t) h = absurd h
    by None h = tt

-- ---- precedences

none_at_end : (r : Cursor) (t : Term) (q : List ℕ) (i : ℕ) (held : Part) → meaning (focus r) ≡ IsTerm t → operand t (q ++ i ∷ []) ≡ Some held
    → ((parent : Cursor) → parent_of (operand_cursor r t (q ++ i ∷ [])) ≡ Some parent → pairs.asks (operand_cursor r t (q ++ i ∷ [])) parent (operand_cursor r t (q ++ i ∷ [])) ≡ false)
    → NeedsNone (operand_cursor r t (q ++ i ∷ [])) (operand_cursor r t (q ++ i ∷ []))
none_at_end r t [] i held shows is none =
    let a : AskedAt r t (i ∷ []) held = asked_at r t i [] held shows is in
    (a.parent, a.is_parent, alike r t held.term i [] held (operand_cursor r t (i ∷ [])) a.parent shows is a.is_parent a.shows ∙ none a.parent a.is_parent)
none_at_end r t (j ∷ q) i held shows is none =
    let a : AskedAt r t (j ∷ (q ++ i ∷ [])) held = asked_at r t j (q ++ i ∷ []) held shows is in
    (a.parent, a.is_parent, alike r t held.term j (q ++ i ∷ []) held (operand_cursor r t (j ∷ (q ++ i ∷ []))) a.parent shows is a.is_parent a.shows ∙ none a.parent a.is_parent)

pub none_by_precedences : (r : Cursor) (t : Term) (q : List ℕ) (i : ℕ) (holder held : Part) → meaning (focus r) ≡ IsTerm t → operand t q ≡ Some holder → part holder.term i ≡ Some held
    → needs_parentheses_in (as_precedence (precedence_of (operand_cursor r t (q ++ i ∷ [])))) (as_precedence (precedence_of (operand_cursor r t q))) ≡ false
    → (held.demand ≡ Callee → is_field held.term ≡ false)
    → (ends_in_cast (tokens held.term) ≡ true → angle_behind r t (q ++ i ∷ []) ≡ false)
    → NeedsNone (operand_cursor r t (q ++ i ∷ [])) (operand_cursor r t (q ++ i ∷ []))
none_by_precedences r t q i holder held shows is has pre callee ends =
    let whole : operand t (q ++ i ∷ []) ≡ Some held = operand-last t q i holder held is has in
    let of_held : as_precedence (precedence_of (operand_cursor r t (q ++ i ∷ []))) ≡ precedence held.term = precedence_shown (operand_cursor r t (q ++ i ∷ [])) held.term (operand_shown r t (q ++ i ∷ []) held shows whole) in
    let of_holder : as_precedence (precedence_of (operand_cursor r t q)) ≡ precedence holder.term = precedence_shown (operand_cursor r t q) holder.term (operand_shown r t q holder shows is) in
    let told : needs_parentheses_in (precedence held.term) (precedence holder.term) ≡ false =
    ap (λ p. needs_parentheses_in p (precedence holder.term)) (sym of_held) ∙ ap (needs_parentheses_in (as_precedence (precedence_of (operand_cursor r t (q ++ i ∷ []))))) (sym of_holder) ∙ pre in
    none_at_end r t q i held shows whole (λ parent above. precedences_ask r t q i holder held parent shows is has above told callee ends)
