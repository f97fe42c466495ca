use Rattle.std.proofs.Common.{◌≡◌, drop}
use Rattle.std.specs.List.{list_any}
use Rattle.ras_parsing.specs.Draft.{is_past}
use Rattle.ras_parsing.proofs.builder.has_error_past.Given as goal

abbrev pub invariant-loop-error : goal.invariant-loop-error
invariant-loop-error l = list_any (is_past l.len) (drop l.error-index l.errors) ≡ list_any (is_past l.fn.len) l.fn.errors
