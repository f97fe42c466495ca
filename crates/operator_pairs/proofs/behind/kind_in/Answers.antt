use Rattle.std.proofs.Common.{ap, sym, ◌∙◌}
use Rattle.lossless_tree.specs.Element.{cursor_of}
use Rattle.operator_powers.specs.Edges.{leaf_kind}
use Rattle.operator_pairs.specs.Next.{kind_in}
use Rattle.operator_pairs.proofs.Steps.{token_first}
use Rattle.operator_pairs.proofs.behind.kind_in.Goals as goal

pub returns-in-Token : goal.returns-in-Token
returns-in-Token c = c.leaf_kind.ensures ∙ ap leaf_kind c.in-Token.is ∙ token_first c.in-Token.token c.placed.ensures.token ∙ ap (λ x. kind_in (cursor_of x)) (sym c.in-Token.is)
