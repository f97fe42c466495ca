-- A change with elements added.
use Rattle.std.specs.Prelude.{List, ◌++◌, true}
use Rattle.tree_model.specs.Tree.{Tree}
use Rattle.tree_edit_model.specs.Changes.{Change}
use Rattle.tree_edits.specs.declared.change.Slot.{Slot}
use Rattle.tree_edits.specs.declared.change.Slot.TheVariants.{Before, Instead, First, Last, After}

-- after those that are in the same slot
abbrev pub with_elements : Change → Slot → List Tree → Change
with_elements c Before ts = record c { before = c.before ++ ts }
with_elements c Instead ts = record c { replaced = true; instead = c.instead ++ ts }
with_elements c First ts = record c { first = c.first ++ ts }
with_elements c Last ts = record c { last = c.last ++ ts }
with_elements c After ts = record c { after = c.after ++ ts }
