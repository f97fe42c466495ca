use Rattle.std.proofs.Common.{◌≡◌, ◌++◌, drop, string_bytes}
use Rattle.tree_model.specs.Tree.{forest_text}
use Rattle.tree_edit_model.specs.Changes.{forest_from}
use Rattle.tree_edits.proofs.edits.text_of.Given as goal

abbrev pub invariant-loop-element : goal.invariant-loop-element
invariant-loop-element l = string_bytes l.text ++ forest_text (forest_from (drop l.element-index l.elements)) ≡ forest_text (forest_from l.elements)
