use Rattle.std.proofs.Common.{◌∙◌, ap, false}
use Rattle.std.specs.List.{filter}
use Rattle.tree_model.specs.Cursor.{children_of, at_node}
use Rattle.ras_prec_walks.specs.Parts.{second_of}
use Rattle.ras_prec_walks.proofs.Steps.{second_listed}
use Rattle.ras_prec_walks.proofs.parts.second_expr.Goals as goal

pub returns : goal.returns
returns c = c.second_of.ensures ∙ ap (second_of false) c.children.ensures ∙ second_listed (filter at_node (children_of c.args.node.now))
