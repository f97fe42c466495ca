use Rattle.std.proofs.Common.{◌++◌, ◌∙◌, ap, subst}
use Rattle.tree_model.specs.Events.{BuildsNode}
use Rattle.ras_c.specs.ChangeRows.{events_with}
use Rattle.ras_c.proofs.ChangeRowsLemmas.{node_text}
use Rattle.ras_c.proofs.change_rows.node_with.Goals as goal

pub returns-in-Ok-finish-clause-node : goal.returns-in-Ok-finish-clause-node
returns-in-Ok-finish-clause-node c =
    let events = c.in-Ok.ensures ∙ ap (λ es. es ++ events_with c.args.text.now) c.new-builder.ensures in
    node_text c.args.text.now c.in-Ok-finish.node (subst (λ es. BuildsNode es c.in-Ok-finish.node.tree) events c.in-Ok-finish.ensures.ok.0) c.in-Ok-finish.ensures.ok.1
