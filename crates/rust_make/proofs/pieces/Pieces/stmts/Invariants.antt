use Rattle.std.proofs.Common.{◌≡◌, ◌++◌, map, length}
use Rattle.ra_ap_syntax.specs.StmtCases.{stmt_node}
use Rattle.syntax_make.specs.Forms.{bits_of}
use Rattle.rust_make.specs.Makes.{stmt_bits}
use Rattle.rust_make.proofs.pieces.Pieces.stmts.Given as goal

abbrev pub invariant-loop-left : goal.invariant-loop-left
invariant-loop-left l =
    bits_of l.self.items.items ++ stmt_bits l.has_value (map stmt_node l.left)
    ≡ bits_of l.fn.self.items.items ++ stmt_bits l.has_value (map stmt_node l.fn.stmts)

abbrev pub decreases-loop-left : goal.decreases-loop-left
decreases-loop-left l = length l.left
