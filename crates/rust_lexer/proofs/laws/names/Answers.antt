use Rattle.rust_lexer.proofs.NameFronts.{longest_characters, names_read}
use Rattle.rust_lexer.proofs.laws.names.Goals as goal

pub returns-clause-characters : goal.returns-clause-characters
returns-clause-characters c w s = longest_characters w s

pub returns-clause-read : goal.returns-clause-read
returns-clause-read c s = names_read s
