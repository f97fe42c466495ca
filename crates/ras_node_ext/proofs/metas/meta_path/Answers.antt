use Rattle.std.proofs.Common.{◌∙◌, sym, ap}
use Rattle.std.specs.Prelude.{option_map}
use Rattle.std.specs.Option.{option_and_then}
use Rattle.ras_node_ext.specs.Metas.{own_path}
use Rattle.ras_node_ext.proofs.metas.meta_path.Goals as goal

pub returns-in-Some : goal.returns-in-Some
returns-in-Some g c = (
  option_map g.M.AstNode.node c.innermost_meta.result,
  c.innermost_meta.ensures,
  c.own_path.ensures
      ∙ ap (own_path g.P.AstNode.casts) c.syntax.ensures
      ∙ ap (λ o. option_and_then (own_path g.P.AstNode.casts) (option_map g.M.AstNode.node o)) (sym c.in-Some.is),
)

pub returns-in-None : goal.returns-in-None
returns-in-None g c = (
  option_map g.M.AstNode.node c.innermost_meta.result,
  c.innermost_meta.ensures,
  ap (λ o. option_and_then (own_path g.P.AstNode.casts) (option_map g.M.AstNode.node o)) (sym c.in-None.is),
)
