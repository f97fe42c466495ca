use Rattle.std.proofs.Common.{not, ap, ◌∙◌}
use Rattle.ras_prec_walks.specs.declared.along.Meant.TheVariants.{Second}
use Rattle.ras_prec_walks.specs.declared.along.Toward.TheVariants.{Any}
use Rattle.ras_prec_walks.specs.Turns.{reaches}
use Rattle.ras_prec_walks.proofs.Operands.{second_meant}
use Rattle.ras_prec_walks.proofs.inside.lacks_side.Goals as goal

pub returns : goal.returns
returns c = ap not (c.reaches.ensures ∙ ap (λ s. reaches Any Second s.trees) c.trees.ensures ∙ second_meant c.args.node.now)
