use Rattle.std.proofs.Common.{◌+◌, length, ap, ◌∙◌, arith}
use Rattle.tree_model.specs.Tree.{forest_text}
use Rattle.tree_match.proofs.RunLemmas.{text_left}
use Rattle.tree_match.proofs.run.Run.range.Goals as goal

pub loop-rest-preserved : goal.loop-rest-preserved
loop-rest-preserved c = (
  ap (λ s. s.start + length (forest_text s.trees)) c.rest-rest.ensures ∙ text_left c.loop-rest.rest ∙ c.loop-rest.invariant.0,
  omega (arith, ap (λ s. s.start) c.rest-rest.ensures, c.loop-rest.invariant.1),
)
