use Rattle.syntax_indent.proofs.BlankLemmas.{only_blanks_go}
use Rattle.syntax_indent.proofs.laws.only_blanks_go.Goals as goal

pub returns : goal.returns
returns c = only_blanks_go
