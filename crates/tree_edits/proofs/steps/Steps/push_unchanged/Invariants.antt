use Rattle.tree_edits.proofs.steps.Steps.push_unchanged.Given as goal

abbrev pub ghost-push_rows : goal.ghost-push_rows
ghost-push_rows g a = g.at
