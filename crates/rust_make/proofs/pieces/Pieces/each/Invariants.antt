use Rattle.std.proofs.Common.{◌≡◌, ◌++◌, map, drop}
use Rattle.syntax_make.specs.Forms.{bits_of}
use Rattle.rust_make.specs.Makes.{each_between}
use Rattle.rust_make.proofs.pieces.Pieces.each.Given as goal

abbrev pub invariant-loop-node : goal.invariant-loop-node
invariant-loop-node g l =
    bits_of l.self.items.items ++ each_between l.before l.after (map g.N.AstNode.node (drop l.node-index l.nodes))
    ≡ bits_of l.fn.self.items.items ++ each_between l.before l.after (map g.N.AstNode.node l.nodes)
