use Rattle.std.proofs.Common.{◌≡◌, ◌<◌, ◌≤◌, ℕ}
use Rattle.tree_edit_model.specs.Changes.{no_change}
use Rattle.tree_edits.specs.Session.{change_of}
use Rattle.tree_edits.proofs.changes.Changes.has_change_inside.Given as goal

abbrev pub invariant-loop-inner : goal.invariant-loop-inner
invariant-loop-inner l = (k : ℕ) → l.first ≤ k → k < l.inner → change_of l.self k ≡ no_change
