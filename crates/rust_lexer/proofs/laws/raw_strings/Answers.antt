use Rattle.rust_lexer.proofs.RawFronts.{raws_read}
use Rattle.rust_lexer.proofs.laws.raw_strings.Goals as goal

pub returns : goal.returns
returns c h s k = raws_read h s k
