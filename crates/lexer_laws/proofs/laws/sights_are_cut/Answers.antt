use Rattle.lexer_laws.proofs.Sighting.{sights_cut}
use Rattle.lexer_laws.proofs.laws.sights_are_cut.Goals as goal

pub returns : goal.returns
returns c e a piece r ts ps us l m p = sights_cut e a piece r ts ps us l m p
