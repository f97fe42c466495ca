use Rattle.std.proofs.Common.{◌≡◌, take, map}
use Rattle.ras_c.specs.Read.{error_row}
use Rattle.ras_c.proofs.read.error_rows.Given as goal

abbrev pub invariant-loop-error : goal.invariant-loop-error
invariant-loop-error l = l.rows.items ≡ map error_row (take l.error-index l.errors)
