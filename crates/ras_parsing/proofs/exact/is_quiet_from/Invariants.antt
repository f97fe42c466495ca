use Rattle.std.proofs.Common.{◌≡◌, drop}
use Rattle.ras_parsing.specs.Document.{is_quiet_from}
use Rattle.ras_parsing.proofs.exact.is_quiet_from.Given as goal

abbrev pub invariant-loop-error : goal.invariant-loop-error
invariant-loop-error l = is_quiet_from l.at (drop l.error-index l.errors) ≡ is_quiet_from l.at l.errors
