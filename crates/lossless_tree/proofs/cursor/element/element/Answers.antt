use Rattle.std.proofs.Common.{◌∙◌, ap}
use Rattle.tree_model.specs.Tree.{is_token}
use Rattle.tree_model.specs.Rows.{tree_at}
use Rattle.tree_model.specs.Cursor.{cursor_at}
use Rattle.lossless_tree.specs.declared.cursor.element.NodeOrToken.TheVariants.{Node, Token}
use Rattle.tree_rows.proofs.StepLemmas.{token_stands, node_stands}
use Rattle.lossless_tree.proofs.ElementLemmas.{element_of_token, element_of_node}
use Rattle.lossless_tree.proofs.cursor.element.element.Goals as goal

pub at-requires-clause-is_token : goal.at-requires-clause-is_token
at-requires-clause-is_token c =
    rw c.share.ensures.value (token_stands (tree_at c.args.table.now.value c.args.row) c.is_token_at.result (c.is_token_at.ensures ∙ ap (λ t. is_token (tree_at t c.args.row)) c.deref.ensures) c.if-is_token_at.true)

pub at-requires-else-is_token_at-clause-is_node : goal.at-requires-else-is_token_at-clause-is_node
at-requires-else-is_token_at-clause-is_node c =
    rw c.share-else-is_token_at.ensures.value (node_stands (tree_at c.args.table.now.value c.args.row) c.is_token_at.result (c.is_token_at.ensures ∙ ap (λ t. is_token (tree_at t c.args.row)) c.deref.ensures) c.if-is_token_at.false)

pub returns-then-is_token_at : goal.returns-then-is_token_at
returns-then-is_token_at c =
    ap Token (c.at.ensures ∙ ap (λ t. cursor_at t c.args.row) c.share.ensures.value)
    ∙ element_of_token (cursor_at c.args.table.now.value c.args.row) (token_stands (tree_at c.args.table.now.value c.args.row) c.is_token_at.result (c.is_token_at.ensures ∙ ap (λ t. is_token (tree_at t c.args.row)) c.deref.ensures) c.if-is_token_at.true)

pub returns-else-is_token_at : goal.returns-else-is_token_at
returns-else-is_token_at c =
    ap Node (c.at-else-is_token_at.ensures ∙ ap (λ t. cursor_at t c.args.row) c.share-else-is_token_at.ensures.value)
    ∙ element_of_node (cursor_at c.args.table.now.value c.args.row) (node_stands (tree_at c.args.table.now.value c.args.row) c.is_token_at.result (c.is_token_at.ensures ∙ ap (λ t. is_token (tree_at t c.args.row)) c.deref.ensures) c.if-is_token_at.false)
