use Rattle.std.specs.Str.{chars}
use Rattle.literal_escape.proofs.Cutting.{starts}
use Rattle.literal_escape.proofs.Within.{reports_within}
use Rattle.literal_escape.proofs.units.Units.new.Goals as goal

pub returns-clause-reports : goal.returns-clause-reports
returns-clause-reports c = starts c.args.mode (chars c.args.content.now)

pub returns-clause-within : goal.returns-clause-within
returns-clause-within c = reports_within c.args.mode c.args.content.now c.utf8.content
