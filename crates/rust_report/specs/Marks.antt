-- A mark for each row of a tree: whether the node or token there fits the steps of a pattern.
use Rattle.std.specs.Prelude.{ℕ, Bool, List, map}
use Rattle.std.specs.List.{range_with_len, list_any}
use Rattle.tree_model.specs.Tree.{Tree}
use Rattle.tree_model.specs.Cursor.{Cursor, cursor_at, parent_of, ancestors_of}
use Rattle.lossless_tree.specs.declared.cursor.element.NodeOrToken.{NodeOrToken}
use Rattle.lossless_tree.specs.Element.{element_of}
use Rattle.ras_node.specs.Nodes.{kind_at}
use Rattle.rust_report.specs.declared.pattern.Step.{Step}
use Rattle.rust_report.specs.declared.pattern.Link.{Link}
use Rattle.rust_report.specs.declared.pattern.Link.TheVariants.{Child, Within}
use Rattle.rust_report.specs.Patterns.{fits}

-- the marks of the first n rows
abbrev pub marks_of : (ℕ → Bool) → ℕ → List Bool
marks_of test n = map test (range_with_len 0 n)

abbrev pub passes : List Step → Cursor → Bool
passes steps c = fits steps (kind_at c) (parent_of c)

-- a row fits the steps
abbrev pub fits_row : Tree → List Step → ℕ → Bool
fits_row tree steps n = passes steps (cursor_at tree n)

-- a row, or one above it, fits them
abbrev pub fits_up : Tree → List Step → ℕ → Bool
fits_up tree steps n = list_any (passes steps) (ancestors_of (cursor_at tree n))

-- what a row has to be for its children to fit a further step, after a link
abbrev pub reaches : Link → Tree → List Step → ℕ → Bool
reaches Child = fits_row
reaches Within = fits_up

-- the node or token at a row
abbrev pub element_at : Tree → ℕ → NodeOrToken Cursor Cursor
element_at tree n = element_of (cursor_at tree n)
