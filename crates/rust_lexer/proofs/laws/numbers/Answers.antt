use Rattle.rust_lexer.proofs.NumberFronts.{numbers_read}
use Rattle.rust_lexer.proofs.laws.numbers.Goals as goal

pub returns : goal.returns
returns c d s h = numbers_read d s h
