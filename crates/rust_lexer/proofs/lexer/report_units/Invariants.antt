use Rattle.std.proofs.Common.{◌≡◌, length}
use Rattle.std.specs.Str.{chars}
use Rattle.literal_escape.specs.Reading.{to_come, reports_in}
use Rattle.rust_lexer.specs.Contents.{report_problems}
use Rattle.rust_lexer.specs.Lexing.{faults_at}
use Rattle.rust_lexer.proofs.lexer.report_units.Given as goal

abbrev pub invariant-loop-unit : goal.invariant-loop-unit
invariant-loop-unit l = faults_at l.range (report_problems l.mode (to_come l.units)) l.errors.items ≡ faults_at l.range (report_problems l.mode (reports_in l.mode (chars l.fn.content))) l.fn.errors.items

abbrev pub decreases-loop-unit : goal.decreases-loop-unit
decreases-loop-unit l = length (to_come l.units)
