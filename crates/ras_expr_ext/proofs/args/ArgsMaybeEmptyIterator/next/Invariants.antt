use Rattle.std.proofs.Common.{◌≡◌, length, map}
use Rattle.lossless_tree.specs.Element.{element_of}
use Rattle.ras_expr_ext.specs.Args.{arguments}
use Rattle.ras_expr_ext.proofs.args.ArgsMaybeEmptyIterator.next.Given as goal

abbrev pub invariant-loop-child : goal.invariant-loop-child
invariant-loop-child g l = record { same : arguments g.N.AstNode.casts l.self-inside.after (map element_of l.self-inside.left) ≡ arguments g.N.AstNode.casts l.initial.self-inside.after (map element_of l.initial.self-inside.left) }

abbrev pub decreases-loop-child : goal.decreases-loop-child
decreases-loop-child g l = length l.self-inside.left
