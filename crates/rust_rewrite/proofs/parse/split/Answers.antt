use Rattle.rust_rewrite.proofs.ArrowLemmas.{arrow_split}
use Rattle.rust_rewrite.proofs.parse.split.Goals as goal

pub returns : goal.returns
returns c = arrow_split c.args.text.now c.split_once.result c.split_once.ensures.cases
