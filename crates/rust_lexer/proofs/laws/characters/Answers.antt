use Rattle.rust_lexer.proofs.QuoteFronts as lemmas
use Rattle.rust_lexer.proofs.laws.characters.Goals as goal

pub returns-clause-read : goal.returns-clause-read
returns-clause-read c s h = lemmas.characters_read s h

pub returns-clause-contents : goal.returns-clause-contents
returns-clause-contents c content r h = lemmas.contents_read content r h
