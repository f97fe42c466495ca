-- Terms without casts. Where no token is `as`, the last two can't be `as` and a name, so such a
-- term may precede any tokens; and taking a pair out brings no token in.
use Rattle.std.proofs.Common.{◌≡◌, ℕ, List, [], ◌∷◌, ◌++◌, Bool, true, false, ◌&&◌, ◌||◌, refl, sym, ap, ap₂, ◌∙◌}
use Rattle.syntax_kind.specs.declared.syntax_kind.token_kind.TokenKind.TheVariants as token
use Rattle.operator_terms.specs.Token.{Token, fixed}
use Rattle.operator_terms.specs.Term.{Term, Paren, tokens}
use Rattle.operator_terms.specs.Reading.{is_as}
use Rattle.operator_terms.specs.Places.{tokens_behind, Demand, some_part, operand, is_one_name, ends_in_cast, MayStandBefore}
use Rattle.operator_terms.specs.Pairs.{without}
use Rattle.operator_terms.specs.Headline.{has_as}
use Rattle.operator_terms.proofs.Bools.{or-false}
use Rattle.operator_terms.proofs.Gone.{tokens_without}

no_end : (ts : List Token) → has_as ts ≡ false → ends_in_cast ts ≡ false
no_end [] h = refl
no_end (t ∷ ts) h =
    let none = or-false (is_as t.kind) (has_as ts) h in
    ap (λ b. (b && is_one_name ts) || ends_in_cast ts) none.0 ∙ no_end ts none.1

pub cast_free_stands : (t : Term) (following : List Token) → has_as (tokens t) ≡ false → MayStandBefore following t
cast_free_stands t following h ends = absurd (let no : true ≡ false = sym ends ∙ no_end (tokens t) h in cc)

has_as-append : (xs ys : List Token) → has_as (xs ++ ys) ≡ has_as xs || has_as ys
has_as-append [] ys = refl
has_as-append (x ∷ xs) ys = ap (λ b. is_as x.kind || b) (has_as-append xs ys) ∙ regroup (is_as x.kind) (has_as xs) (has_as ys)
  where
    regroup : (a b c : Bool) → a || (b || c) ≡ (a || b) || c
    regroup true b c = refl
    regroup false b c = refl

split : (xs ys : List Token) → has_as (xs ++ ys) ≡ false → (has_as xs ≡ false) × (has_as ys ≡ false)
split xs ys h = or-false (has_as xs) (has_as ys) (sym (has_as-append xs ys) ∙ h)

join : (xs ys : List Token) → has_as xs ≡ false → has_as ys ≡ false → has_as (xs ++ ys) ≡ false
join xs ys h k = has_as-append xs ys ∙ ap₂ ◌||◌ h k

pub cast_free_without : (t : Term) (q : List ℕ) (d : Demand) (e : Term) → operand t q ≡ some_part d (Paren e) → has_as (tokens t) ≡ false → has_as (tokens (without q t)) ≡ false
cast_free_without t q d e at h =
    let gone = tokens_without t q d e at in
    let before = gone.0 in
    let after = tokens_behind q t in
    let whole : has_as (before ++ (fixed token.L_PAREN ∷ (tokens e ++ (fixed token.R_PAREN ∷ after)))) ≡ false = ap has_as (sym gone.1) ∙ h in
    let front = split before (fixed token.L_PAREN ∷ (tokens e ++ (fixed token.R_PAREN ∷ after))) whole in
    let back = split (tokens e) (fixed token.R_PAREN ∷ after) front.1 in
    ap has_as gone.2 ∙ join before (tokens e ++ after) front.0 (join (tokens e) after back.0 back.1)
