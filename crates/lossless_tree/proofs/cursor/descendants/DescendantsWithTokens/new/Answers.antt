use Rattle.std.proofs.Common.{◌+◌, ◌∙◌, ap}
use Rattle.tree_model.specs.Tree.{size}
use Rattle.tree_model.specs.Rows.{tree_at}
use Rattle.tree_model.proofs.WalkLemmas.{descendants-numbered}
use Rattle.tree_rows.proofs.StepLemmas.{end_is_behind}
use Rattle.tree_rows.proofs.WalkLemmas.{row_ends_within}
use Rattle.lossless_tree.proofs.cursor.descendants.DescendantsWithTokens.new.Goals as goal

pub invariant_of-result : goal.invariant_of-result
invariant_of-result c =
    row_ends_within c.args.table.value c.args.row c.row_behind-end.result c.requires
    (end_is_behind c.args.table.value c.args.row c.row_behind-end.result c.requires (c.row_behind-end.ensures ∙ ap (λ t. c.args.row + size (tree_at t c.args.row)) c.deref.ensures))

pub returns : goal.returns
returns c = descendants-numbered c.args.table.value c.args.row c.row_behind-end.result c.requires (c.row_behind-end.ensures ∙ ap (λ t. c.args.row + size (tree_at t c.args.row)) c.deref.ensures)
