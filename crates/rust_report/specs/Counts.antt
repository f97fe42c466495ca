-- How many nodes and tokens a tree has.
use Rattle.std.specs.Prelude.{ℕ, ◌-◌, ◌^◌, ◌==◌, if◌then◌else◌, min, Bool, true, false, not, List, length, map}
use Rattle.std.specs.List.{filter}
use Rattle.lossless_tree.specs.declared.cursor.element.NodeOrToken.{NodeOrToken}
use Rattle.lossless_tree.specs.declared.cursor.element.NodeOrToken.TheVariants.{Node, Token}
use Rattle.lossless_tree.specs.Element.{element_of}
use Rattle.tree_model.specs.Cursor.{Cursor, descendants_of}
use Rattle.rust_report.specs.declared.counts.Counts.{Counts}

abbrev pub is_node : NodeOrToken Cursor Cursor → Bool
is_node (Node c) = true
is_node (Token c) = false

abbrev pub is_token : NodeOrToken Cursor Cursor → Bool
is_token x = not (is_node x)

-- the number of these that pass, saturating at 64 bits
abbrev pub how_many : (NodeOrToken Cursor Cursor → Bool) → List (NodeOrToken Cursor Cursor) → ℕ
how_many test xs = min (length (filter test xs)) (2 ^ 64 - 1)

abbrev pub counts_of : Cursor → Counts
counts_of c = record {
  nodes = how_many is_node (map element_of (descendants_of c));
  tokens = how_many is_token (map element_of (descendants_of c));
}

-- the noun after a number, in English: the first after 1, the second after any other
abbrev pub noun_for : ℕ → List ℕ → List ℕ → List ℕ
noun_for n one many = if n == 1 then one else many
