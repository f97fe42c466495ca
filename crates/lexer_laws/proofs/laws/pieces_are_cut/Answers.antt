use Rattle.lexer_laws.proofs.Finding.{braced_cut}
use Rattle.lexer_laws.proofs.laws.pieces_are_cut.Goals as goal

pub returns : goal.returns
returns c e piece r u v l b = braced_cut e piece r u v l b
