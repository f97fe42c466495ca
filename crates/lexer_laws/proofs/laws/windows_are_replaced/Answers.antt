use Rattle.lexer_laws.proofs.Windows.{windows_replaced}
use Rattle.lexer_laws.proofs.laws.windows_are_replaced.Goals as goal

pub returns : goal.returns
returns c e a w q r ts us h = windows_replaced e a w q r ts us h
