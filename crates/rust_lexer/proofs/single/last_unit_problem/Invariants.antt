use Rattle.std.proofs.Common.{◌≡◌, length, None}
use Rattle.std.specs.Str.{chars}
use Rattle.literal_escape.specs.Reading.{to_come, reports_in}
use Rattle.rust_lexer.specs.Single.{last_from}
use Rattle.rust_lexer.proofs.single.last_unit_problem.Given as goal

abbrev pub invariant-loop-unit : goal.invariant-loop-unit
invariant-loop-unit l = last_from l.mode l.last (to_come l.units) ≡ last_from l.mode None (reports_in l.mode (chars l.fn.content))

abbrev pub decreases-loop-unit : goal.decreases-loop-unit
decreases-loop-unit l = length (to_come l.units)
