use Rattle.tree_edits.proofs.finish.push_unchanged.Given as goal

abbrev pub ghost-push_unchanged : goal.ghost-push_unchanged
ghost-push_unchanged g a = g.at
