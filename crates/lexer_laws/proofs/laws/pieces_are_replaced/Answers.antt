use Rattle.lexer_laws.proofs.Finding.{pieces_replaced}
use Rattle.lexer_laws.proofs.laws.pieces_are_replaced.Goals as goal

pub returns : goal.returns
returns c e a part piece r ts ps us h = pieces_replaced e a part piece r ts ps us h
