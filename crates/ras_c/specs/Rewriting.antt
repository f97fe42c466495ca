-- Search and replace by rules: the matches as rows, and the text with the matches replaced.
use Rattle.std.specs.Prelude.{◌≡◌, ℕ, ◌<◌, ◌≤◌, Bool, true, false, List, length, map, Some}
use Rattle.std.specs.List.{list_any}
use Rattle.tree_model.specs.Cursor.{Cursor}
use Rattle.tree_model.specs.Edit.{root_of}
use Rattle.text_edit.specs.Replacements.{Replacement}
use Rattle.ras_front_end.specs.declared.edition.Edition.{Edition}
use Rattle.ras_front_end.specs.Parsed.{Parsed}
use Rattle.rust_front.specs.Front.{rust_front}
use Rattle.tree_match.specs.declared.rule.Rule.{Rule}
use Rattle.tree_match.specs.Finds.{Occurrence, found_in}
use Rattle.rust_rewrite.specs.declared.refusal.RewriteError.{RewriteError}
use Rattle.rust_rewrite.specs.declared.refusal.RewriteError.TheVariants.{ReadsOtherwise, LosesComment, TooLong, Memory}
use Rattle.rust_rewrite.specs.Rules.{HasArrow, HasOne, rule_lines, is_bare}
use Rattle.rust_rewrite.specs.Rewrites.{IsRewrite, WithoutNeedless, loses_comment}
use Rattle.ras_c.specs.declared.rewriting.MatchRow.{MatchRow}
use Rattle.ras_c.specs.declared.rewriting.RuleFault.{RuleFault}
use Rattle.ras_c.specs.Border.{edition_of, over}
use Rattle.ras_c.specs.Read.{IsReading}

abbrev pub match_row : Occurrence → MatchRow
match_row m = record { rule = m.rule; start = m.range.start; end = m.range.end }

-- rules that a text has: one a line; or one rule with a template, or one pattern
abbrev pub AreRulesOf : (has_template lines : Bool) → List ℕ → List Rule → Type 0
AreRulesOf true true s rules = length rules ≡ rule_lines s
AreRulesOf true false s rules = (length rules ≡ 1) × HasOne s
AreRulesOf false true s rules = length rules ≡ rule_lines s
AreRulesOf false false s rules = (length rules ≡ 1) × (HasArrow s → ⊥)

abbrev pub ArePatterns : (lines : Bool) → List ℕ → List Rule → Type 0
ArePatterns = AreRulesOf false

abbrev pub AreRules : (lines : Bool) → List ℕ → List Rule → Type 0
AreRules = AreRulesOf true

-- P of the parse of a text as a file; of such rules
abbrev pub InFile : ℕ → List ℕ → (Parsed → Type 0) → Type 0
InFile year text P = (p : Parsed) × IsReading year text p × P p

abbrev pub ByRules : (List Rule → Type 0) → (List Rule → Type 0) → Type 0
ByRules Are P = (rules : List Rule) × Are rules × P rules

-- P of the rows of the matches in the text
abbrev pub matches_of : List Rule → Parsed → List MatchRow
matches_of rules p = map match_row (found_in rules (root_of p.tree))

abbrev pub Finds : (lines : Bool) → List ℕ → ℕ → List ℕ → (List MatchRow → Type 0) → Type 0
Finds lines s year text P = ByRules (ArePatterns lines s) (λ rules. InFile year text (λ p. P (matches_of rules p)))

-- the number of matches, and the new text
pub record IsNewText (edition : Edition) (rules : List Rule) (p : Parsed) (count : ℕ) (new : List ℕ) : Type 0 where
  pub edit : List Replacement
  pub rewrite : IsRewrite rust_front edition rules p (found_in rules (root_of p.tree)) edit new
  pub needless : WithoutNeedless rust_front edition new
  pub kept : loses_comment rules (root_of p.tree) ≡ false
  pub counted : count ≡ length (found_in rules (root_of p.tree))

-- P of these
pub record HasNew (year : ℕ) (rules : List Rule) (p : Parsed) (P : ℕ → List ℕ → Type 0) : Type 0 where
  pub edition : Edition
  pub edition_is : edition_of year ≡ Some edition
  pub count : ℕ
  pub new : List ℕ
  pub is_new : IsNewText edition rules p count new
  pub holds : P count new

-- one of some rules has no template
abbrev pub has_bare : List Rule → Bool
has_bare rules = list_any is_bare rules

-- rules that all have a template
abbrev pub AreFull : (lines : Bool) → List ℕ → List Rule → Type 0
AreFull lines s rules = AreRules lines s rules × (has_bare rules ≡ false)

-- P of the number of matches and of the new text, by the rules and a parse of the text
pub record Becomes (lines : Bool) (s : List ℕ) (year : ℕ) (text : List ℕ) (P : ℕ → List ℕ → Type 0) : Type 0 where
  pub rules : List Rule
  pub are_rules : AreFull lines s rules
  pub new : InFile year text (λ p. HasNew year rules p P)

abbrev pub LacksTemplate : (lines : Bool) → List ℕ → Type 0
LacksTemplate lines s = ByRules (AreRules lines s) (λ rules. has_bare rules ≡ true)

-- whether a comment would be lost
abbrev pub Loses : (lines : Bool) → List ℕ → ℕ → List ℕ → Bool → Type 0
Loses lines s year text lost = ByRules (AreRules lines s) (λ rules. InFile year text (λ p. loses_comment rules (root_of p.tree) ≡ lost))

-- the status of a refusal, and what it says
abbrev pub status_of : RewriteError → ℕ
status_of ReadsOtherwise = 16
status_of LosesComment = 15
status_of TooLong = 2
status_of Memory = 3

pub record IsRefusedAs (rules : List Rule) (root : Cursor) (status : ℕ) : Type 0 where
  pub lost : status ≡ 15 → loses_comment rules root ≡ true
  pub otherwise : status ≡ 16 → loses_comment rules root ≡ false

-- what is wrong with rules: where in their text, and a message, which is at the front of a buffer
-- if it has room
pub record IsSaid (rules : List ℕ) (before after : List ℕ) (fault : RuleFault) : Type 0 where
  pub within : fault.offset ≤ length rules
  pub message : List ℕ
  pub counted : fault.message ≡ length message
  pub written : length message ≤ length before → after ≡ over message before
  pub kept : length before < length message → after ≡ before
