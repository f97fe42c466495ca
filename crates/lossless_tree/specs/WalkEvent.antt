-- A walk event, as a cursor that is entered or left.
use Rattle.std.specs.Prelude.{Bool, true, false, Option, option_map}
use Rattle.lossless_tree.specs.declared.cursor.preorder.WalkEvent.{WalkEvent}
use Rattle.lossless_tree.specs.declared.cursor.preorder.WalkEvent.TheVariants.{Enter, Leave}
use Rattle.lossless_tree.specs.declared.cursor.element.NodeOrToken.{NodeOrToken}
use Rattle.tree_model.specs.Cursor.{Cursor}
use Rattle.lossless_tree.specs.Element.{element_of, node_part}

abbrev walk_event_by : Bool → Cursor → WalkEvent (NodeOrToken Cursor Cursor)
walk_event_by true c = Enter (element_of c)
walk_event_by false c = Leave (element_of c)

abbrev pub walk_event : Bool × Cursor → WalkEvent (NodeOrToken Cursor Cursor)
walk_event w = walk_event_by w.0 w.1

-- the same among nodes alone
abbrev node_event_by : Bool → Cursor → WalkEvent Cursor
node_event_by true c = Enter c
node_event_by false c = Leave c

abbrev pub node_event : Bool × Cursor → WalkEvent Cursor
node_event w = node_event_by w.0 w.1

-- the event at its node, if it is at one
abbrev pub event_of_node : WalkEvent (NodeOrToken Cursor Cursor) → Option (WalkEvent Cursor)
event_of_node (Enter x) = option_map Enter (node_part x)
event_of_node (Leave x) = option_map Leave (node_part x)
