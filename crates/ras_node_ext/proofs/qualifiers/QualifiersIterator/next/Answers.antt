use Rattle.std.proofs.Common.{◌∙◌, sym, ap, length, arith}
use Rattle.ras_node_ext.proofs.Downwards.{one}
use Rattle.ras_node_ext.proofs.qualifiers.QualifiersIterator.next.Goals as goal

pub returns-clause-steps : goal.returns-clause-steps
returns-clause-steps g c = one g.P.AstNode.node g.P.AstNode.casts c.self.inside.next c.child.result c.args.self.now c.in_ok-path.path c.syntax.result.now c.self.view_is (sym c.take.ensures.value ∙ c.in_ok-path.was) c.child.ensures c.syntax.ensures

pub returns-clause-goes : goal.returns-clause-goes
returns-clause-goes g c = record {
  on = λ _. (tt, tt, omega (arith, ap length (one g.P.AstNode.node g.P.AstNode.casts c.self.inside.next c.child.result c.args.self.now c.in_ok-path.path c.syntax.result.now c.self.view_is (sym c.take.ensures.value ∙ c.in_ok-path.was) c.child.ensures c.syntax.ensures)));
  keeps = tt;
  rests = λ _. tt;
}
