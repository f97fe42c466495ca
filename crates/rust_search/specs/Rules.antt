-- Sets of rules, and why a text has none.
use Rattle.std.specs.Prelude.{◌≡◌, ℕ, suc, ◌+◌, ◌<◌, ◌≤◌, ◌^◌, ⊤, List, [], ◌∷◌, length, if◌then◌else◌, Option, Some, None, string_bytes, Bool, true, false}
use Rattle.std.specs.Str.{IsCharBoundary}
use Rattle.rust_report.specs.declared.place.Spot.{Spot}
use Rattle.rust_report.specs.Spots.{IsSpot}
use Rattle.tree_match.specs.declared.rule.Rule.{Rule}
use Rattle.rust_rewrite.specs.declared.error.RuleError.{RuleError}
use Rattle.rust_rewrite.specs.declared.error.RuleFault.{RuleFault}
use Rattle.rust_rewrite.specs.Rules.{IsPatternFault, IsRuleFault, is_bare}
use Rattle.gitignore.specs.declared.line.Rule.{Rule as Glob}
use Rattle.gitignore.specs.Globs.{chooses}
use Rattle.rule_plan.specs.declared.severity.Severity.{Severity}
use Rattle.rule_plan.specs.Severities.{severity_named}
use Rattle.rust_search.specs.declared.rules.Note.{Note}
use Rattle.rust_search.specs.declared.rules.RulesError.{RulesError}
use Rattle.rust_search.specs.declared.rules.RulesError.TheVariants as error

-- ---- why a text is no rule, and where

-- the line and the column of the character at an offset, or of the end; of a text of at least 4 GiB
-- nothing is said
pub record IsPlaceOf (s : List ℕ) (o : ℕ) (at : Spot) : Type 0 where
  pub is : length s < 2 ^ 32 → o ≤ length s → IsCharBoundary s o → IsSpot s o at

-- a refusal of a text is told with its line and column; or memory ran out
abbrev pub IsToldOf : List ℕ → RuleError → RulesError → Type 0
IsToldOf s e (error.Rule at f) = IsPlaceOf s e.offset at × (f ≡ e.fault)
IsToldOf s e error.Memory = ⊤
IsToldOf s e _ = ⊥

-- the same of a rule of a file, with its number
abbrev pub IsNumberedOf : ℕ → List ℕ → RuleError → RulesError → Type 0
IsNumberedOf n s e (error.Numbered m at f) = (m ≡ n) × IsPlaceOf s e.offset at × (f ≡ e.fault)
IsNumberedOf n s e error.Memory = ⊤
IsNumberedOf n s e _ = ⊥

-- a place of a text and a fault of it
pub record IsFaultAt (s : List ℕ) (IsFault : RuleFault → Type 0) (at : Spot) (f : RuleFault) : Type 0 where
  pub offset : ℕ
  pub within : offset ≤ length s
  pub place : IsPlaceOf s offset at
  pub fault : IsFault f

-- why a text is no pattern; no pattern with a template; and why one of its lines is no rule
abbrev pub IsPatternRefused : List ℕ → RulesError → Type 0
IsPatternRefused s (error.Rule at f) = IsFaultAt s (IsPatternFault s) at f
IsPatternRefused s error.Memory = ⊤
IsPatternRefused s _ = ⊥

abbrev pub IsRuleRefused : List ℕ → RulesError → Type 0
IsRuleRefused s (error.Rule at f) = IsFaultAt s (IsRuleFault s) at f
IsRuleRefused s error.Memory = ⊤
IsRuleRefused s _ = ⊥

abbrev pub IsLineRefused : List ℕ → RulesError → Type 0
IsLineRefused s (error.Rule at f) = IsFaultAt s (λ _. ⊤) at f
IsLineRefused s error.Memory = ⊤
IsLineRefused s _ = ⊥

-- ---- sets of rules

-- the number of the first rule that has no template
abbrev pub first_bare : ℕ → List Rule → Option ℕ
first_bare n [] = None
first_bare n (r ∷ rs) = if is_bare r then Some n else first_bare (suc n) rs

-- the number is told from 1; or memory ran out
abbrev pub IsBareTold : Option ℕ → RulesError → Type 0
IsBareTold (Some n) (error.NoTemplate at m expected) = m ≡ n + 1
IsBareTold (Some n) error.Memory = ⊤
IsBareTold _ _ = ⊥

-- the name of a rule and its message; both are empty if nothing is said of it
abbrev pub note_at : Option Note → List ℕ × List ℕ
note_at None = ([], [])
note_at (Some n) = (string_bytes n.name, string_bytes n.message)

-- how severe a match of a rule is, if that is said
abbrev pub severity_at : Option Note → Option Severity
severity_at None = None
severity_at (Some n) = n.severity

-- a severity is that of its name
abbrev pub IsSeverityBy : List ℕ → Severity → Type 0
IsSeverityBy name s = severity_named name ≡ Some s

-- ---- the files that a rule is for

abbrev pub is_empty : List Glob → Bool
is_empty [] = true
is_empty (g ∷ gs) = false

-- a rule is for all files: it has no globs
abbrev pub is_for_all : Note → Bool
is_for_all n = is_empty n.files.items

-- a rule is for the file with a path: its globs choose it
abbrev pub is_for : Note → List ℕ → Bool
is_for n path = chooses n.files.items path

-- the numbers of the rules that are for a file; the first has this number
abbrev pub numbers_for : ℕ → List ℕ → List Note → List ℕ
numbers_for n path [] = []
numbers_for n path (r ∷ rs) = if is_for r path then n ∷ numbers_for (suc n) path rs else numbers_for (suc n) path rs
