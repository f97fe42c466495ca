use Rattle.std.proofs.Common.{◌≡◌, ◌++◌, map, drop}
use Rattle.ras_node.specs.declared.node.AstNode.{Ghosts}
use Rattle.syntax_make.specs.Forms.{bits_of}
use Rattle.rust_make.specs.Makes.{arm_bits}
use Rattle.rust_make.proofs.pieces.Pieces.arms.Given as goal

abbrev pub invariant-loop-arm : goal.invariant-loop-arm
invariant-loop-arm l =
    bits_of l.self.items.items ++ arm_bits (map (λ (a : _). a.syntax) (drop l.arm-index l.arms))
    ≡ bits_of l.fn.self.items.items ++ arm_bits (map (λ (a : _). a.syntax) l.arms)
