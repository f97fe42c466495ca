use Rattle.std.proofs.Common.{◌≡◌, length}
use Rattle.tree_model.specs.Cursor.{ancestors_of}
use Rattle.rust_parens.specs.Rustc.{is_in_statement}
use Rattle.rust_parens.proofs.rustc.is_in_statement.Given as goal

abbrev pub invariant-loop-node : goal.invariant-loop-node
invariant-loop-node l = record { same : is_in_statement l.around ≡ is_in_statement (ancestors_of l.fn.pair) }

abbrev pub decreases-loop-node : goal.decreases-loop-node
decreases-loop-node l = length l.around
