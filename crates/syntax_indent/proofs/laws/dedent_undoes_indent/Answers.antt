use Rattle.syntax_indent.proofs.BlankLemmas.{dedent_undoes_indent}
use Rattle.syntax_indent.proofs.laws.dedent_undoes_indent.Goals as goal

pub returns : goal.returns
returns c = dedent_undoes_indent
