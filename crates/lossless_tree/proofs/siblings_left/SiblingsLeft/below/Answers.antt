use Rattle.std.proofs.Common.{◌∙◌}
use Rattle.tree_model.proofs.At.{cong₂}
use Rattle.tree_rows.proofs.StepLemmas.{end_is_behind}
use Rattle.lossless_tree.proofs.TreesLemmas.{Below, trees_below}
use Rattle.lossless_tree.proofs.siblings_left.SiblingsLeft.below.Goals as goal
use Rattle.lossless_tree.proofs.siblings_left.SiblingsLeft.below.Goals.{After-new}

children : (c : After-new) → Below c.args.table.now c.args.row c.rows_below-first.result.1 c.new.result
children c =
    trees_below c.args.table.now c.args.row c.rows_below-first.result.1 c.new.result c.requires
    (end_is_behind c.args.table.now c.args.row c.rows_below-first.result.1 c.requires c.rows_below-first.ensures.behind) (c.new.ensures ∙ c.start_at.ensures)

pub invariant_of-result : goal.invariant_of-result
invariant_of-result c = rw c.rows_below-first.ensures.first (children (goal.at.invariant_of-result c).After-new).is_trees

pub returns : goal.returns
returns c =
    let at = (goal.at.returns c).After-new in
    rw c.rows_below-first.ensures.first (cong₂ (λ f b. record { trees = f; start = b }) (children at).is (at.new.ensures ∙ at.start_at.ensures))
