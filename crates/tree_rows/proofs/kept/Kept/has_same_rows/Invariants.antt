use Rattle.std.proofs.Common.{◌≡◌, ℕ, ◌<◌, get_or}
use Rattle.tree_rows.specs.Rows.{no_row}
use Rattle.tree_rows.proofs.kept.Kept.has_same_rows.Given as goal

abbrev pub invariant-loop-n : goal.invariant-loop-n
invariant-loop-n l = (k : ℕ) → k < l.n → get_or l.self.rows k no_row ≡ get_or l.other.rows k no_row
