-- The tables of worked terms, each checked by running one Bool test over it.
use Rattle.std.proofs.Common.{◌≡◌, ◌≤◌, ℕ, List, [], ◌∷◌, ◌++◌, Bool, true, false, not, ◌&&◌, Option, Some, None, refl, ap, sym, subst, arith}
use Rattle.std.specs.Prelude.{codes}
use Rattle.operator_terms.specs.Term.{Term, Method, Last, tokens}
use Rattle.operator_terms.specs.Reading.{Reads}
use Rattle.operator_terms.specs.AllFit.{all_fit}
use Rattle.operator_terms.specs.Pairs.{without}
use Rattle.operator_terms.specs.Powers.{needs_pair_at}
use Rattle.operator_terms.specs.Precedence.{needs_parentheses_in}
use Rattle.operator_terms.specs.Headline.{angle_behind}
use Rattle.operator_terms.specs.Notation.{a, b, c, x, less, dot_f, calling}
use Rattle.operator_terms.specs.WorkedTerms.{EachRow, Row, IsRight, grouping, ranges, prefixes, postfixes, casts}
use Rattle.operator_terms.specs.WorkedPlaces.{Place, IsRightAt, strong_places, sides, IsRightIn, precedences}
use Rattle.operator_terms.specs.WorkedPairs.{Pair, asked, IsRightPair, pairs, IsRightChange, changes}
use Rattle.operator_terms.proofs.Bools.{both-true, not-true}
use Rattle.operator_terms.proofs.Deriving.{Derives-parts}
use Rattle.operator_terms.proofs.Readings.{reads-derives, called-field-tokens}
use Rattle.operator_terms.proofs.AllFit.{all_fit-reads}

abbrev all_rows : {R : Type 0} → (R → Bool) → List R → Bool
all_rows test [] = true
all_rows test (r ∷ rs) = test r && all_rows test rs

each_row : {R : Type 0} (P : R → Type 0) (test : R → Bool) → ((r : R) → test r ≡ true → P r) → (rs : List R) → all_rows test rs ≡ true → EachRow P rs
each_row P test sound [] h = tt
each_row P test sound (r ∷ rs) h = let both = both-true (test r) (all_rows test rs) h in (sound r both.0, each_row P test sound rs both.1)

abbrev same : Bool → Bool → Bool
same true b = b
same false b = not b

same-true : (p q : Bool) → same p q ≡ true → p ≡ q
same-true true q h = sym h
same-true false q h = sym (not-true q h)

-- ---- terms

abbrev row_test : Row → Bool
row_test r = same (all_fit r.term) r.fits

rows : (rs : List Row) → all_rows row_test rs ≡ true → EachRow IsRight rs
rows rs h = each_row IsRight row_test (λ r it. same-true (all_fit r.term) r.fits it) rs h

pub grouping-right : EachRow IsRight grouping
unfolding tokens
grouping-right = rows grouping refl

pub ranges-right : EachRow IsRight ranges
unfolding tokens
ranges-right = rows ranges refl

pub prefixes-right : EachRow IsRight prefixes
unfolding tokens
prefixes-right = rows prefixes refl

pub postfixes-right : EachRow IsRight postfixes
unfolding tokens
postfixes-right = rows postfixes refl

pub casts-right : EachRow IsRight casts
unfolding tokens
casts-right = rows casts refl

-- ---- places

abbrev asks : Place → Term → Bool
asks p e = needs_pair_at p.holder p.number (angle_behind [] p.holder [] p.number) e

abbrev place_test : Place → Bool
place_test p = all_rows (λ e. not (asks p e)) p.bare && all_rows (λ e. asks p e) p.wrapped

places : (ps : List Place) → all_rows place_test ps ≡ true → EachRow IsRightAt ps
places ps h =
    each_row IsRightAt place_test
    (λ p it. let both = both-true (all_rows (λ e. not (asks p e)) p.bare) (all_rows (λ e. asks p e) p.wrapped) it in (
      each_row (λ e. asks p e ≡ false) (λ e. not (asks p e)) (λ e no. not-true (asks p e) no) p.bare both.0,
      each_row (λ e. asks p e ≡ true) (λ e. asks p e) (λ e yes. yes) p.wrapped both.1,
    ))
    ps h

pub strong_places-right : EachRow IsRightAt strong_places
unfolding tokens
strong_places-right = places strong_places refl

pub sides-right : EachRow IsRightAt sides
unfolding tokens
sides-right = places sides refl

pub precedences-right : EachRow IsRightIn precedences
precedences-right = each_row IsRightIn (λ p. same (needs_parentheses_in p.self p.other) p.needs) (λ p it. same-true (needs_parentheses_in p.self p.other) p.needs it) precedences refl

-- ---- pairs

abbrev answers : Option Bool → Bool → Bool
answers None b = false
answers (Some p) b = same p b

answers-true : (o : Option Bool) (b : Bool) → answers o b ≡ true → o ≡ Some b
answers-true None b h = absurd (cc)
answers-true (Some p) b h = ap Some (same-true p b h)

abbrev pair_test : Pair → Bool
pair_test p = all_fit p.term && (answers (asked p) (not p.may_go) && same (all_fit (without (p.above ++ (p.number ∷ [])) p.term)) p.may_go)

pub pairs-right : EachRow IsRightPair pairs
unfolding tokens
pairs-right =
    each_row IsRightPair pair_test
    (λ p it.
    let first = both-true (all_fit p.term) (answers (asked p) (not p.may_go) && same (all_fit (without (p.above ++ (p.number ∷ [])) p.term)) p.may_go) it in
    let others = both-true (answers (asked p) (not p.may_go)) (same (all_fit (without (p.above ++ (p.number ∷ [])) p.term)) p.may_go) first.1 in
    (first.0, answers-true (asked p) (not p.may_go) others.0, same-true (all_fit (without (p.above ++ (p.number ∷ [])) p.term)) p.may_go others.1))
    pairs refl

pub changes-right : EachRow IsRightChange changes
unfolding tokens
changes-right = (refl, (refl, (refl, (refl, (refl, (refl, (refl, (refl, (refl, (refl, (refl, (refl, tt))))))))))))

-- ---- as readings

pub no_chain : (k : ℕ) → Reads k (tokens (less (less a b) c)) (less (less a b) c) → ⊥
no_chain k h =
    let parts = Derives-parts (less (less a b) c) k (tokens (less (less a b) c)) (reads-derives k (tokens (less (less a b) c)) (less (less a b) c) h) in
    let low : 5 ≤ 4 = parts.0 in absurd (omega arith)

method_fits : all_fit (Method a (codes "f") (Last x)) ≡ true
unfolding tokens
method_fits = refl

pub method_read : Reads 0 (tokens (calling (dot_f a) x)) (Method a (codes "f") (Last x))
method_read =
    subst (λ ts. Reads 0 ts (Method a (codes "f") (Last x))) (sym (called-field-tokens a (codes "f") (Last x)))
    ((all_fit-reads (Method a (codes "f") (Last x))).0 method_fits)
