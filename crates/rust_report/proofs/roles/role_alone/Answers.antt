use Rattle.std.proofs.Common.{◌∙◌, sym, ap}
use Rattle.ras_node.specs.Nodes.{kind_at}
use Rattle.rust_report.specs.Roles.{role_of_token, role_of_word}
use Rattle.rust_report.proofs.RolesLemmas.{word_alone, other_alone}
use Rattle.rust_report.proofs.roles.role_alone.Goals as goal

pub returns-then-is_token_of_kind : goal.returns-then-is_token_of_kind
returns-then-is_token_of_kind c =
    c.role_of_word.ensures ∙ ap role_of_word c.parent.ensures ∙ word_alone c.args.token.now (sym c.is_token_of_kind.ensures ∙ c.if-is_token_of_kind.true)

pub returns-else-is_token_of_kind : goal.returns-else-is_token_of_kind
returns-else-is_token_of_kind c =
    c.role_of_token.ensures
    ∙ ap (λ k. role_of_token k c.text.result.now) c.kind.ensures
    ∙ ap (role_of_token (kind_at c.args.token.now)) c.text.ensures
    ∙ other_alone c.args.token.now (sym c.is_token_of_kind.ensures ∙ c.if-is_token_of_kind.false)
