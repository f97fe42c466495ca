use Rattle.rust_lexer.proofs.Fronts.{strings_read, contents_read}
use Rattle.rust_lexer.proofs.laws.strings.Goals as goal

pub returns-clause-read : goal.returns-clause-read
returns-clause-read c s h = strings_read s h

pub returns-clause-contents : goal.returns-clause-contents
returns-clause-contents c content r h = contents_read content r h
