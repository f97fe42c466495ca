use Rattle.syntax_kind.proofs.KindLaws.{kind_name-injective}
use Rattle.syntax_kind.proofs.laws.kind_names_differ.Goals as goal

pub returns : goal.returns
returns c = kind_name-injective
