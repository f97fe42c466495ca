use Rattle.std.proofs.Common.{◌≡◌, ◌≤◌, ◌-◌, length}
use Rattle.tree_model.specs.Tree.{size}
use Rattle.rust_report.specs.Depths.{depths_of}
use Rattle.rust_report.proofs.depths.depths.Given as goal

abbrev pub invariant-loop-depths : goal.invariant-loop-depths
invariant-loop-depths l =
    (length l.depths.items ≤ size l.fn.table) × (l.depths.items ≡ depths_of l.fn.table (length l.depths.items))

abbrev pub decreases-loop-depths : goal.decreases-loop-depths
decreases-loop-depths l = size l.fn.table - length l.depths.items
