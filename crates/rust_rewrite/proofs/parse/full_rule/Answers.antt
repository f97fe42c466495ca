use Rattle.rust_rewrite.proofs.ArrowLemmas.{one_told}
use Rattle.rust_rewrite.proofs.parse.full_rule.Goals as goal

pub returns-in-None : goal.returns-in-None
returns-in-None g c =
    one_told c.args.text.now c.in-Some.pattern.now c.in-Some.template.now c.two_sides.result c.in-Some.ensures c.in-None.ensures c.two_sides.ensures
