-- Errors as steps.
use Rattle.std.specs.Prelude.{ℕ, List}
use Rattle.ras_front_end.specs.Reading.{FrontStep, reports}

-- the step that reports an error, by its message and position
abbrev pub report_by : {A : Type 0} → (A → List ℕ × ℕ) → A → FrontStep
report_by say f = reports (say f).0 (say f).1
