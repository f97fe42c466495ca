use Rattle.std.proofs.Common.{◌≡◌, ℕ, List, Option, Some, None, ap, ◌≤◌, length, refl}
use Rattle.std.specs.Prelude.{MatchOption}
use Rattle.line_index.specs.declared.line_col.LineCol.{LineCol}
use Rattle.line_index.specs.Lines.{line_col_at, IsOffset, NoOffset}
use Rattle.line_index.proofs.LineLemmas.{one_place}
use Rattle.line_index.proofs.laws.offset_undoes_line_col.Goals as goal

undone : (s : List ℕ) (o : ℕ) (answer : Option ℕ) → o ≤ length s → MatchOption answer (NoOffset s (line_col_at s o)) (IsOffset s (line_col_at s o)) → answer ≡ Some o
undone s o None fits none = absurd (none o (fits, refl))
undone s o (Some p) fits found = ap Some (one_place s p o found.0 fits (ap (λ (x : LineCol). x.line) found.1) (ap (λ (x : LineCol). x.col) found.1))

pub returns : goal.returns
returns c s o answer fits h = undone s o answer fits h
