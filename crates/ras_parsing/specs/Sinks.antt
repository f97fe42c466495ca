-- A tree that is made as the steps of a parse come.
use Rattle.std.specs.Prelude.{◌≡◌, ◌<◌, ◌^◌, ℕ, Bool, true, false, List, filter_map}
use Rattle.syntax_kind.specs.declared.syntax_kind.SyntaxKind.{SyntaxKind}
use Rattle.tree_rows.specs.Making.{Making, run, nothing_made}
use Rattle.tree_rows.specs.Run.{text_len}
use Rattle.ras_front_end.specs.ErrorModel.{ErrorModel}
use Rattle.ras_front_end.specs.Reading.{FrontStep, begins, takes, front_event, step_faults}

-- the rows are those of the steps, where their tokens have fewer than 2^32 bytes, and the errors
-- are those among the steps
pub record AreOf (m : Making) (errors : List ErrorModel) (steps : List FrontStep) : Type 0 where
  pub rows : text_len (filter_map front_event steps) < 2 ^ 32 → run (filter_map front_event steps) nothing_made ≡ m
  pub errors_are : errors ≡ step_faults steps

-- a token of n bytes, or a node that begins
abbrev pub started : SyntaxKind → Bool → ℕ → FrontStep
started k true n = takes k n
started k false n = begins k
