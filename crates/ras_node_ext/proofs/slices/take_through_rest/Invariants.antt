use Rattle.std.proofs.Common.{◌≡◌, ◌++◌, length, map}
use Rattle.std.specs.List.{find}
use Rattle.ras_node_ext.specs.Slices.{is_rest, before_rest, behind_rest}
use Rattle.ras_node_ext.proofs.slices.take_through_rest.Given as goal

abbrev pub invariant-loop-pat : goal.invariant-loop-pat
invariant-loop-pat g l = record {
  before : map g.P.AstNode.node l.before.items ++ before_rest g.P.AstNode.casts l.left ≡ before_rest g.P.AstNode.casts l.initial.left;
  rest : find (is_rest g.P.AstNode.casts) l.left ≡ find (is_rest g.P.AstNode.casts) l.initial.left;
  behind : behind_rest g.P.AstNode.casts l.left ≡ behind_rest g.P.AstNode.casts l.initial.left;
}

abbrev pub decreases-loop-pat : goal.decreases-loop-pat
decreases-loop-pat g l = length l.left
