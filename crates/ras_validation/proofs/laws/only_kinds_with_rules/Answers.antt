use Rattle.ras_validation.proofs.Walks.{no_rules_at}
use Rattle.ras_validation.proofs.laws.only_kinds_with_rules.Goals as goal

pub returns : goal.returns
returns c = no_rules_at
