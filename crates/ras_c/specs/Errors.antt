-- The errors of a parse in the buffers of the caller, without rows, and their numbers.
use Rattle.std.specs.Prelude.{◌≡◌, ℕ, List, length, map}
use Rattle.ras_front_end.specs.ErrorModel.{ErrorModel}
use Rattle.ras_c.specs.declared.read.Counts.{Counts}
use Rattle.ras_c.specs.Border.{over}
use Rattle.ras_c.specs.Read.{error_row, messages_of}
use Rattle.ras_c.specs.Violations.{ErrorBuffers, error_buffers, AreFew, FitIn}

-- how many errors there are, how many of them are violations, which come last, and bytes of their
-- messages
abbrev pub numbers_of : List ErrorModel → ℕ → Counts
numbers_of faults violations = record {
  rows = 0;
  errors = length faults;
  violations = violations;
  messages = length (messages_of faults);
}

-- they are at the fronts of the buffers; or one lacks room for them, and they are counted alone
pub record AreWritten (faults : List ErrorModel) (violations : ℕ) (before after : ErrorBuffers) : Type 0 where
  pub few : AreFew faults
  pub room : FitIn faults before
  pub written : after ≡ error_buffers (over (map error_row faults) before.errors)
      (over (messages_of faults) before.messages) (numbers_of faults violations)

pub record AreNumbered (faults : List ErrorModel) (violations : ℕ) (before after : ErrorBuffers) : Type 0 where
  pub few : AreFew faults
  pub short : FitIn faults before → ⊥
  pub written : after ≡ error_buffers before.errors before.messages (numbers_of faults violations)
