use Rattle.rust_rewrite.proofs.ArrowLemmas.{arrow_found}
use Rattle.rust_rewrite.proofs.parse.arrow_at.Goals as goal

pub returns : goal.returns
returns c = arrow_found c.args.text.now c.find.result c.find.ensures.cases
