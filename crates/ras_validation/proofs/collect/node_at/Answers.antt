use Rattle.std.proofs.Common.{◌∙◌, ap}
use Rattle.tree_model.specs.Cursor.{cursor_at}
use Rattle.lossless_tree.specs.Element.{node_part}
use Rattle.ras_validation.proofs.RowLemmas.{node_there}
use Rattle.ras_validation.proofs.collect.node_at.Goals as goal

pub returns : goal.returns
returns c = c.into_node.ensures ∙ ap node_part c.in_ok-element_at_row.ensures.some ∙ node_there (cursor_at c.args.root.now.tree c.args.row) c.requires.is_node
