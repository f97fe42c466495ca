use Rattle.std.proofs.Common.{◌≡◌, ◌++◌, drop}
use Rattle.tree_model.specs.Events.{events_of}
use Rattle.tree_edit_model.specs.Changes.{forest_from}
use Rattle.tree_edits.proofs.element.push_all.Given as goal

abbrev pub invariant-loop-element : goal.invariant-loop-element
invariant-loop-element l = l.out ++ events_of (forest_from (drop l.element-index l.elements)) ≡ l.fn.out ++ events_of (forest_from l.elements)
