-- Refusals of one rule, told with their places.
use Rattle.std.proofs.Common.{◌≡◌, ℕ, suc, ◌<◌, ◌≤◌, ◌^◌, Bool, true, false, List, [], ◌∷◌, ◌++◌, length, subst, sym, ap, ◌∙◌, append_assoc, append-nil, if◌then◌else◌, arith}
use Rattle.rust_report.specs.declared.place.Spot.{Spot}
use Rattle.rust_report.specs.Spots.{IsSpot, NoSpot}
use Rattle.rust_rewrite.specs.declared.error.RuleError.{RuleError}
use Rattle.rust_rewrite.specs.Rules.{IsPatternFault, IsRuleFault}
use Rattle.rust_search.specs.declared.rules.Note.{Note}
use Rattle.rust_search.specs.declared.rules.RulesError.{RulesError}
use Rattle.rust_search.specs.declared.rules.RulesError.TheVariants as error
use Rattle.rust_search.specs.Rules.{IsPlaceOf, IsToldOf, IsPatternRefused, IsRuleRefused, IsLineRefused, is_for, numbers_for}

pub pattern_told : (s : List ℕ) (e : RuleError) (r : RulesError) → IsToldOf s e r → e.offset ≤ length s → IsPatternFault s e.fault → IsPatternRefused s r
pattern_told s e (error.Rule at f) t w h = record { offset = e.offset; within = w; place = t.0; fault = subst (IsPatternFault s) (sym t.1) h }
pattern_told s e (error.Numbered n at f) t w h = absurd t
pattern_told s e (error.InFile p n at f) t w h = absurd t
pattern_told s e (error.Toml m) t w h = absurd t
pattern_told s e (error.Wrong at n k x) t w h = absurd t
pattern_told s e (error.NoTable at x) t w h = absurd t
pattern_told s e error.Empty t w h = absurd t
pattern_told s e (error.NoTemplate at n x) t w h = absurd t
pattern_told s e error.Memory t w h = tt

pub rule_told : (s : List ℕ) (e : RuleError) (r : RulesError) → IsToldOf s e r → e.offset ≤ length s → IsRuleFault s e.fault → IsRuleRefused s r
rule_told s e (error.Rule at f) t w h = record { offset = e.offset; within = w; place = t.0; fault = subst (IsRuleFault s) (sym t.1) h }
rule_told s e (error.Numbered n at f) t w h = absurd t
rule_told s e (error.InFile p n at f) t w h = absurd t
rule_told s e (error.Toml m) t w h = absurd t
rule_told s e (error.Wrong at n k x) t w h = absurd t
rule_told s e (error.NoTable at x) t w h = absurd t
rule_told s e error.Empty t w h = absurd t
rule_told s e (error.NoTemplate at n x) t w h = absurd t
rule_told s e error.Memory t w h = tt

pub line_told : (s : List ℕ) (e : RuleError) (r : RulesError) → IsToldOf s e r → e.offset ≤ length s → IsLineRefused s r
line_told s e (error.Rule at f) t w = record { offset = e.offset; within = w; place = t.0; fault = tt }
line_told s e (error.Numbered n at f) t w = absurd t
line_told s e (error.InFile p n at f) t w = absurd t
line_told s e (error.Toml m) t w = absurd t
line_told s e (error.Wrong at n k x) t w = absurd t
line_told s e (error.NoTable at x) t w = absurd t
line_told s e error.Empty t w = absurd t
line_told s e (error.NoTemplate at n x) t w = absurd t
line_told s e error.Memory t w = tt

-- memory ran out
pub pattern_lost : (s : List ℕ) (r : RulesError) → r ≡ error.Memory → IsPatternRefused s r
pattern_lost s r e = subst (IsPatternRefused s) (sym e) tt

pub rule_lost : (s : List ℕ) (r : RulesError) → r ≡ error.Memory → IsRuleRefused s r
rule_lost s r e = subst (IsRuleRefused s) (sym e) tt

-- ---- places

pub spot_there : (s t : List ℕ) (o n : ℕ) (at : Spot) → t ≡ s → n ≡ o → IsSpot t n at → IsPlaceOf s o at
spot_there s t o n at e f h = record { is = λ a b c. subst (λ u. IsSpot u o at) e (subst (λ m. IsSpot t m at) f h) }

pub no_spot : (s t : List ℕ) (o n : ℕ) (at : Spot) → t ≡ s → n ≡ o → NoSpot t n → IsPlaceOf s o at
no_spot s t o n at e f h = record { is = λ a b c. absurd (subst (λ u. NoSpot u o) e (subst (λ m. NoSpot t m) f h) b c) }

pub too_long : (s : List ℕ) (o : ℕ) (at : Spot) → 2 ^ 32 ≤ length s → IsPlaceOf s o at
too_long s o at h = record { is = λ a b c. absurd (omega (arith, h, a)) }

pub past_end : (s : List ℕ) (o : ℕ) (at : Spot) → length s < o → IsPlaceOf s o at
past_end s o at h = record { is = λ a b c. absurd (omega (arith, h, b)) }

-- ---- the rules for a file

-- one rule more
pub one_number : (path : List ℕ) (left rest : List Note) (r : Note) (n next : ℕ) (old new whole : List ℕ)
    → left ≡ r ∷ rest → suc n ≡ next → new ≡ old ++ (if is_for r path then n ∷ [] else [])
    → old ++ numbers_for n path left ≡ whole → new ++ numbers_for next path rest ≡ whole
one_number path left rest r n next old new whole e up is h =
    ap (λ m. new ++ numbers_for m path rest) (sym up)
    ∙ ap (λ ns. ns ++ numbers_for (suc n) path rest) is
    ∙ by (is_for r path)
    ∙ ap (λ l. old ++ numbers_for n path l) (sym e)
    ∙ h
  where
    by : (b : Bool) → (old ++ (if b then n ∷ [] else [])) ++ numbers_for (suc n) path rest
        ≡ old ++ (if b then n ∷ numbers_for (suc n) path rest else numbers_for (suc n) path rest)
    by true = append_assoc old (n ∷ []) (numbers_for (suc n) path rest)
    by false = ap (λ ns. ns ++ numbers_for (suc n) path rest) (append-nil old)
