-- Rules by their texts.
use Rattle.std.specs.Prelude.{◌≡◌, ◌↔◌, ◌==◌, ℕ, Bool, true, false, not, ◌&&◌, List, [], ◌∷◌, ◌++◌, length, count_by, slice_index}
use Rattle.std.specs.Str.{trim_start}
use Rattle.std.specs.Str.Iter.{HasSubslice}
use Rattle.rust_report.specs.Changes.{lines_of}
use Rattle.tree_match.specs.declared.rule.Rule.{Rule}
use Rattle.rust_rewrite.specs.declared.error.RuleFault.{RuleFault}
use Rattle.rust_rewrite.specs.declared.error.RuleFault.TheVariants as fault

-- `==>>`
abbrev pub arrow : List ℕ
arrow = 61 ∷ (61 ∷ (62 ∷ (62 ∷ [])))

-- a text has an arrow; it has two, one behind the other; it has exactly one
abbrev pub HasArrow : List ℕ → Type 0
HasArrow s = HasSubslice s arrow

abbrev pub HasTwo : List ℕ → Type 0
HasTwo s = (a : List ℕ) × (b : List ℕ) × (s ≡ a ++ (arrow ++ b)) × HasArrow b

pub record HasOne (s : List ℕ) : Type 0 where
  pub one : HasArrow s
  pub no_more : HasTwo s → ⊥

-- a text is what is before its first arrow, the arrow, and what is behind
pub record IsFirstSplit (s before behind : List ℕ) : Type 0 where
  pub parts : s ≡ before ++ (arrow ++ behind)
  pub two : HasTwo s ↔ HasArrow behind

-- a fault that is not one of arrows
abbrev pub is_other : RuleFault → Bool
is_other fault.NoArrow = false
is_other fault.FurtherArrow = false
is_other _ = true

-- why a text is no rule with a template: no arrow; two; or, with one, anything else
abbrev pub IsRuleFault : List ℕ → RuleFault → Type 0
IsRuleFault s fault.NoArrow = HasArrow s → ⊥
IsRuleFault s fault.FurtherArrow = HasTwo s
IsRuleFault s _ = HasOne s

-- why a text is no pattern: an arrow; or, without one, anything else
abbrev pub IsPatternFault : List ℕ → RuleFault → Type 0
IsPatternFault s fault.NoArrow = ⊥
IsPatternFault s fault.FurtherArrow = HasArrow s
IsPatternFault s _ = HasArrow s → ⊥

-- ---- rules one a line

-- a line has a rule: white space aside, it is not empty and does not begin with `#`
abbrev pub has_rule : List ℕ → Bool
has_rule line = not (length (trim_start line) == 0) && not (slice_index (trim_start line) 0 == 35)

-- how many lines have a rule
abbrev pub rule_lines : List ℕ → ℕ
rule_lines s = count_by has_rule (lines_of s)

-- a rule has no template
abbrev pub is_bare : Rule → Bool
is_bare r = length r.pieces.items == 0
