use Rattle.std.proofs.Common.{◌∙◌, sym}
use Rattle.std.specs.List.{filter}
use Rattle.tree_model.specs.Cursor.{at_node}
use Rattle.ras_node.specs.Searches.{before}
use Rattle.ras_node.proofs.FirstCast.{cast_of_first}
use Rattle.ras_node.proofs.support.first_before.Goals as goal

pub returns : goal.returns
returns g c = cast_of_first g.N.AstNode.casts g.N.AstNode.node (filter at_node (before g.T.KindSet.kinds c.args.left)) c.in_ok-first_node_before.field-0 c.cast.result (sym c.first_node_before.ensures ∙ c.in_ok-first_node_before.was) c.cast.ensures.exact c.cast.ensures.same
