use Rattle.lexer_laws.proofs.Messages.{quiet_replaced}
use Rattle.lexer_laws.proofs.laws.quiet_errors_are_replaced.Goals as goal

pub returns : goal.returns
returns c e a part piece r ts ps us h early quiet = quiet_replaced e a part piece r ts ps us h early quiet
