use Rattle.syntax_kind.specs.KindLaws.{kind_raw-injective}
use Rattle.syntax_kind.proofs.laws.kind_numbers_differ.Goals as goal

pub returns : goal.returns
returns c = kind_raw-injective
