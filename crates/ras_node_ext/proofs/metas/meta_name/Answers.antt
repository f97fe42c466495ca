use Rattle.std.proofs.Common.{◌≡◌, ◌∙◌, sym, ap, subst}
use Rattle.std.specs.Prelude.{option_map, string_bytes, codes, Some}
use Rattle.std.specs.Option.{option_and_then}
use Rattle.std.proofs.lemmas.Result.{IfOk-weaker}
use Rattle.syntax_kind.specs.declared.syntax_kind.SyntaxKind.TheVariants.{Node}
use Rattle.syntax_kind.specs.declared.syntax_kind.node_kind.NodeKind.TheVariants.{CFG_META}
use Rattle.ras_node.specs.Nodes.{is_of_kind}
use Rattle.ras_node_ext.specs.Metas.{is_cfg_attr, IsMetaPath, path_word, IsMetaName, by_cfg_attr, by_cfg, by_path}
use Rattle.ras_node_ext.proofs.metas.meta_name.Goals as goal

pub returns-then-is_cfg_attr : goal.returns-then-is_cfg_attr
returns-then-is_cfg_attr g c =
    IfOk-weaker c.owned.result (λ name. option_map (λ t. string_bytes t) name ≡ Some (codes "cfg_attr")) (λ name. IsMetaName g.M.AstNode.casts g.P.AstNode.casts g.S.AstNode.casts (g.M.AstNode.node c.args.meta.now) (option_map (λ t. string_bytes t) name))
    (λ name is. subst (IsMetaName g.M.AstNode.casts g.P.AstNode.casts g.S.AstNode.casts (g.M.AstNode.node c.args.meta.now)) (sym is) (by_cfg_attr (ap is_cfg_attr (sym c.syntax.ensures) ∙ sym c.is_cfg_attr.ensures ∙ c.if-is_cfg_attr.true)))
    c.owned.ensures

pub returns-then-is_cfg : goal.returns-then-is_cfg
returns-then-is_cfg g c =
    IfOk-weaker c.owned-then-is_cfg.result (λ name. option_map (λ t. string_bytes t) name ≡ Some (codes "cfg")) (λ name. IsMetaName g.M.AstNode.casts g.P.AstNode.casts g.S.AstNode.casts (g.M.AstNode.node c.args.meta.now) (option_map (λ t. string_bytes t) name))
    (λ name is. subst (IsMetaName g.M.AstNode.casts g.P.AstNode.casts g.S.AstNode.casts (g.M.AstNode.node c.args.meta.now)) (sym is) (by_cfg (ap is_cfg_attr (sym c.syntax.ensures) ∙ sym c.is_cfg_attr.ensures ∙ c.if-is_cfg_attr.false) (ap (is_of_kind (Node CFG_META)) (sym c.syntax-2.ensures) ∙ sym c.is_cfg.ensures ∙ c.if-is_cfg.true)))
    c.owned-then-is_cfg.ensures

pub returns-in-Some : goal.returns-in-Some
returns-in-Some g c =
    IfOk-weaker c.path_word.result (λ name. option_map (λ t. string_bytes t) name ≡ path_word g.P.AstNode.casts g.S.AstNode.casts (g.P.AstNode.node c.in-Some.path)) (λ name. IsMetaName g.M.AstNode.casts g.P.AstNode.casts g.S.AstNode.casts (g.M.AstNode.node c.args.meta.now) (option_map (λ t. string_bytes t) name))
    (λ name is. subst (IsMetaName g.M.AstNode.casts g.P.AstNode.casts g.S.AstNode.casts (g.M.AstNode.node c.args.meta.now)) (sym (is ∙ ap (λ o. option_and_then (path_word g.P.AstNode.casts g.S.AstNode.casts) (option_map g.P.AstNode.node o)) (sym c.in-Some.is))) (by_path (ap is_cfg_attr (sym c.syntax.ensures) ∙ sym c.is_cfg_attr.ensures ∙ c.if-is_cfg_attr.false) (ap (is_of_kind (Node CFG_META)) (sym c.syntax-2.ensures) ∙ sym c.is_cfg.ensures ∙ c.if-is_cfg.false) (subst (λ k. IsMetaPath g.M.AstNode.casts g.P.AstNode.casts k (option_map g.P.AstNode.node c.meta_path.result)) c.copy.ensures c.meta_path.ensures)))
    c.path_word.ensures

pub returns-in-None : goal.returns-in-None
returns-in-None g c =
    subst (IsMetaName g.M.AstNode.casts g.P.AstNode.casts g.S.AstNode.casts (g.M.AstNode.node c.args.meta.now)) (ap (λ o. option_and_then (path_word g.P.AstNode.casts g.S.AstNode.casts) (option_map g.P.AstNode.node o)) c.in-None.is) (by_path (ap is_cfg_attr (sym c.syntax.ensures) ∙ sym c.is_cfg_attr.ensures ∙ c.if-is_cfg_attr.false) (ap (is_of_kind (Node CFG_META)) (sym c.syntax-2.ensures) ∙ sym c.is_cfg.ensures ∙ c.if-is_cfg.false) (subst (λ k. IsMetaPath g.M.AstNode.casts g.P.AstNode.casts k (option_map g.P.AstNode.node c.meta_path.result)) c.copy.ensures c.meta_path.ensures))
