use Rattle.lexer_laws.proofs.Exchanging.{errors_exchanged}
use Rattle.lexer_laws.proofs.laws.errors_are_replaced.Goals as goal

pub returns : goal.returns
returns c e a part piece r ts ps us h = errors_exchanged e a part piece r ts ps us h
