use Rattle.lexer_laws.proofs.Firsts as lemmas
use Rattle.lexer_laws.proofs.laws.first_tokens_end.Goals as goal

pub returns : goal.returns
returns c e b s h l = lemmas.first_tokens_end e b s h l
