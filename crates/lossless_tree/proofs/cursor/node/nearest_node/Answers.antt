use Rattle.std.proofs.Common.{◌∙◌, ap}
use Rattle.std.specs.List.{filter}
use Rattle.tree_model.specs.Cursor.{at_node}
use Rattle.tree_rows.specs.Walks.{siblings_from}
use Rattle.lossless_tree.proofs.NodeLists.{first_kept}
use Rattle.lossless_tree.proofs.cursor.node.nearest_node.Goals as goal

pub returns : goal.returns
returns c =
    first_kept at_node (siblings_from c.args.direction c.args.table.now.value c.args.from) _ _ c.next.result
    (c.new-siblings.ensures ∙ ap (filter at_node) (c.new-elements.ensures ∙ ap (λ t. siblings_from c.args.direction t c.args.from) c.share.ensures.value)) c.next.ensures.steps
