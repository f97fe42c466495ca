use Rattle.lexer_laws.proofs.Cleaning as lemmas
use Rattle.lexer_laws.proofs.laws.errors_stay_none.Goals as goal

pub returns : goal.returns
returns c e a part piece r ts ps us h old new = lemmas.errors_stay_none e a part piece r ts ps us h old new
