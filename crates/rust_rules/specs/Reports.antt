-- What is found in a text by a set of rules, and what it becomes.
use Rattle.std.specs.Prelude.{◌≡◌, ℕ, [], List, length, map, Option, Some, None, string_bytes}
use Rattle.tree_model.specs.Edit.{root_of}
use Rattle.ras_front_end.specs.Parsed.{Parsed}
use Rattle.rust_front.specs.Front.{rust_front}
use Rattle.tree_match.specs.declared.rule.Rule.{Rule}
use Rattle.tree_match.specs.Finds.{Occurrence, occurrence_of, found_in}
use Rattle.rust_rewrite.specs.declared.applied.Rewritten.{Rewritten}
use Rattle.rust_rewrite.specs.Rewrites.{IsRewrite, WithoutNeedless}
use Rattle.rust_print.specs.declared.source.Reading.{Reading}
use Rattle.rust_print.specs.Readings.{IsReadAs}

-- the matches of the rules in the tree of a text
pub record AreFound (r : Reading) (rules : List Rule) (s : List ℕ) (found : List Occurrence) : Type 0 where
  pub parse : Parsed
  pub is_read : IsReadAs r s parse
  pub all : found ≡ found_in rules (root_of parse.tree)

-- so many matches
pub record IsNumberOfMatches (r : Reading) (rules : List Rule) (s : List ℕ) (n : ℕ) : Type 0 where
  pub parse : Parsed
  pub is_read : IsReadAs r s parse
  pub number : n ≡ length (found_in rules (root_of parse.tree))

-- the text with its matches replaced
pub record IsRewritten (r : Reading) (rules : List Rule) (s : List ℕ) (done : Rewritten) : Type 0 where
  pub parse : Parsed
  pub is_read : IsReadAs r s parse
  pub rewrite : IsRewrite rust_front r.edition rules parse (map occurrence_of done.matches.items) done.edit (string_bytes done.text)
  pub needless : WithoutNeedless rust_front r.edition (string_bytes done.text)

-- nothing matches; or the text with its matches replaced
abbrev pub IsAnswer : Reading → List Rule → List ℕ → Option Rewritten → Type 0
IsAnswer r rules s None = AreFound r rules s []
IsAnswer r rules s (Some done) = IsRewritten r rules s done
