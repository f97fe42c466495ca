use Rattle.std.proofs.Common.{◌∙◌, sym}
use Rattle.std.specs.List.{filter}
use Rattle.tree_model.specs.Cursor.{at_node}
use Rattle.ras_node.proofs.FirstCast.{cast_of_first}
use Rattle.ras_node.proofs.support.first.Goals as goal

pub returns : goal.returns
returns g c = cast_of_first g.N.AstNode.casts g.N.AstNode.node (filter at_node c.args.left) c.in_ok-first_node.field-0 c.cast.result (sym c.first_node.ensures ∙ c.in_ok-first_node.was) c.cast.ensures.exact c.cast.ensures.same
