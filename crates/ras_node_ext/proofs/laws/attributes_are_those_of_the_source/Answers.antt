use Rattle.ras_node_ext.proofs.PassedNodes.{filtered}
use Rattle.ras_node_ext.proofs.laws.attributes_are_those_of_the_source.Goals as goal

pub returns : goal.returns
returns g c = λ rest s t r gives. filtered g.A.AstNode.node g.T.AstNode.casts g.T.AstNode.node rest (λ it. it.iter) s t r g.met.T.AstNode.castable gives
