-- Runs of siblings: all that are left, or the first few of them.
use Rattle.std.specs.Prelude.{ℕ, zero, suc, ◌+◌, length, Option, Some, None}
use Rattle.text_size.specs.TextRange.{Bounds}
use Rattle.tree_model.specs.Tree.{Forest, nil, cons, forest_text}
use Rattle.lossless_tree.specs.Trees.{Siblings, behind_first}

abbrev pub first_trees : ℕ → Forest → Forest
first_trees zero f = nil
first_trees (suc n) nil = nil
first_trees (suc n) (cons t r) = cons t (first_trees n r)

-- so many of some trees, or all
abbrev pub run_trees : Option ℕ → Forest → Forest
run_trees None f = f
run_trees (Some n) f = first_trees n f

abbrev pub run_of : Option ℕ → Siblings → Siblings
run_of o s = record { trees = run_trees o s.trees; start = s.start }

-- the range of all trees of a run
abbrev pub run_range : Siblings → Bounds
run_range s = record { start = s.start; end = s.start + length (forest_text s.trees) }

-- the siblings behind the first few
abbrev pub behind_run : ℕ → Siblings → Siblings
behind_run zero s = s
behind_run (suc n) s = behind_run n (behind_first s)
