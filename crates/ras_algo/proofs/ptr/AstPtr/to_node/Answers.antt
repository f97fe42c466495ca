use Rattle.std.proofs.Common.{subst}
use Rattle.std.specs.Prelude.{Some}
use Rattle.tree_model.specs.Pointer.{Finds}
use Rattle.ras_algo.proofs.PointerCasts.{viewed, not_viewed}
use Rattle.ras_algo.proofs.ptr.AstPtr.to_node.Goals as goal

pub returns-clause-found : goal.returns-clause-found
returns-clause-found g c = λ is. viewed g.N.AstNode.casts g.N.AstNode.node c.args.self.now c.args.root.now c.in_ok-to_node.field-0 c.cast.result (subst (λ p. Finds p c.args.root.now (Some c.in_ok-to_node.field-0)) c.self.view_is c.in_ok-to_node.ensures) c.cast.ensures.exact c.cast.ensures.same is

pub returns-clause-other : goal.returns-clause-other
returns-clause-other g c = λ is. not_viewed g.N.AstNode.casts c.args.self.now c.args.root.now c.in_ok-to_node.field-0 c.cast.result (subst (λ p. Finds p c.args.root.now (Some c.in_ok-to_node.field-0)) c.self.view_is c.in_ok-to_node.ensures) c.cast.ensures.exact is
