use Rattle.rust_lexer.proofs.Fronts.{longest}
use Rattle.rust_lexer.proofs.laws.longest_fronts.Goals as goal

pub returns : goal.returns
returns c k s = longest k s
