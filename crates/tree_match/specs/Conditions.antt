-- Conditions on what stands for a placeholder.
use Rattle.std.specs.Prelude.{ℕ, Bool, true, not, ◌&&◌, if◌then◌else◌, List, [], ◌∷◌, Option, Some, None, length, nat_le, is_some}
use Rattle.regex.specs.Patterns.{Re, find_str}
use Rattle.regex.specs.Strings.{regex_pattern}
use Rattle.syntax_kind.specs.Kinds.{is_same_kind}
use Rattle.tree_model.specs.Tree.{kind_of, text}
use Rattle.lossless_tree.specs.Trees.{Siblings, first_of}
use Rattle.tree_match.specs.declared.bare.Comments.TheVariants.{Passed}
use Rattle.tree_match.specs.declared.condition.Test.{Test}
use Rattle.tree_match.specs.declared.condition.Test.TheVariants as test
use Rattle.tree_match.specs.declared.condition.Condition.{Condition}
use Rattle.tree_match.specs.declared.condition.Hole.{Hole}
use Rattle.tree_match.specs.Bare.{bare}

-- a regular expression is found in a text, which has at most 1000 bytes
abbrev pub has_text : Re → List ℕ → Bool
has_text re t = nat_le (length t) 1000 && is_some (find_str re t 0)

-- the first of some siblings passes a test
abbrev pub passes : Test → Siblings → Bool
passes (test.Kind k) s = is_same_kind (kind_of (first_of s.trees)) k
passes (test.Text r) s = has_text (regex_pattern r) (text (first_of s.trees))

abbrev pub holds : Condition → Siblings → Bool
holds c s = if c.is_not then not (passes c.test s) else passes c.test s

abbrev pub all_hold : List Condition → Siblings → Bool
all_hold [] s = true
all_hold (c ∷ cs) s = holds c s && all_hold cs s

-- a placeholder may stand for the first of some siblings: its conditions hold for it without the
-- pairs round it
abbrev pub admits : Option Hole → Siblings → Bool
admits None s = true
admits (Some h) s = all_hold h.conditions.items (bare Passed s)
