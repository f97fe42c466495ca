-- The operator theorem, over terms.
use Rattle.std.specs.Prelude.{◌≡◌, ◌↔◌, ℕ, List, [], ◌∷◌, ◌++◌, Bool, false, ◌||◌, Some}
use Rattle.operator_terms.specs.Token.{Token}
use Rattle.operator_terms.specs.Term.{Term, Paren, tokens}
use Rattle.operator_terms.specs.Reading.{is_as, begins_with_angle, Reads}
use Rattle.operator_terms.specs.Places.{Demand, Part, some_part, part, operand, tokens_behind, MayStandBefore}
use Rattle.operator_terms.specs.Pairs.{without}
use Rattle.operator_terms.specs.Powers.{needs_pair_at}

-- the tokens of the term read as the term, and as nothing else
abbrev pub IsOneReading : Term → Type 0
IsOneReading t = Reads 0 (tokens t) t × ((u : Term) → Reads 0 (tokens t) u → u ≡ t)

-- `<` or `<<` is the first token after part number i of the operand at q. `following` are the
-- tokens after the whole term.
abbrev pub angle_behind : List Token → Term → List ℕ → ℕ → Bool
angle_behind following t q i = begins_with_angle (tokens_behind (q ++ (i ∷ [])) t ++ following)

-- The test requires a pair nowhere: for each operand `holder` of the term, and each part `held` of
-- it, it is false for `held` in its own place.
abbrev pub AsksNowhere : List Token → Term → Type 0
AsksNowhere following t =
    (q : List ℕ) (i : ℕ) (holder held : Part) → operand t q ≡ Some holder → part holder.term i ≡ Some held
    → needs_pair_at holder.term i (angle_behind following t q i) held.term ≡ false

-- For each pair below the root, the test is false for the contents of the pair, in the pair's
-- place, exactly if the tokens of the term without the pair read as the term without it.
abbrev pub FindsNeedless : List Token → Term → Type 0
FindsNeedless following t =
    (q : List ℕ) (i : ℕ) (holder : Part) (d : Demand) (e : Term) → operand t q ≡ Some holder → part holder.term i ≡ some_part d (Paren e)
    → MayStandBefore following (without (q ++ (i ∷ [])) t)
    → needs_pair_at holder.term i (angle_behind following t q i) e ≡ false
    ↔ Reads 0 (tokens (without (q ++ (i ∷ [])) t)) (without (q ++ (i ∷ [])) t)

-- some token is `as`: the term has a cast
abbrev pub has_as : List Token → Bool
has_as [] = false
has_as (t ∷ ts) = is_as t.kind || has_as ts
