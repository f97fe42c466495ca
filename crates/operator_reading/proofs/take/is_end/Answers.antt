use Rattle.std.proofs.Common.{ap, ◌∙◌}
use Rattle.lossless_tree.specs.Trees.{is_done}
use Rattle.operator_reading.proofs.TakeLemmas.{end-is, past-skipped}
use Rattle.operator_reading.proofs.take.is_end.Goals as goal

pub returns : goal.returns
returns c = c.is_done.ensures ∙ ap (λ s. is_done s.trees) c.without_trivia.ensures ∙ ap is_done (past-skipped c.args.trees.now.trees c.args.trees.now.start) ∙ end-is c.args.trees.now.trees
