use Rattle.std.proofs.Common.{◌∙◌, sym}
use Rattle.std.specs.List.{filter}
use Rattle.tree_model.specs.Cursor.{children_of, at_node}
use Rattle.ras_node.proofs.FirstCast.{cast_of_first}
use Rattle.ras_node.proofs.support.child.Goals as goal

pub returns : goal.returns
returns g c =
    cast_of_first g.N.AstNode.casts g.N.AstNode.node (filter at_node (children_of c.args.parent.now)) c.in_ok-child_among.field-0 c.cast.result
    (sym c.child_among.ensures ∙ c.in_ok-child_among.was) c.cast.ensures.exact c.cast.ensures.same
