use Rattle.std.proofs.Common.{ap, sym, ◌∙◌}
use Rattle.tree_model.specs.Tree.{kind_of}
use Rattle.lossless_tree.specs.Trees.{first_of}
use Rattle.operator_trees.specs.Shown.{leaf, IsSign}
use Rattle.operator_reading.specs.Take.{is_what}
use Rattle.operator_reading.proofs.TakeLemmas.{meaning-token}
use Rattle.operator_reading.proofs.take.first_is.Goals as goal

pub returns-then-is_token : goal.returns-then-is_token
returns-then-is_token c =
    c.token_is.ensures
    ∙ ap (λ k. is_what c.args.wanted (IsSign (leaf k c.text.result.now))) c.kind.ensures
    ∙ ap (λ t. is_what c.args.wanted (IsSign (leaf (kind_of (first_of c.args.here.now.trees)) t))) c.text.ensures
    ∙ ap (is_what c.args.wanted) (meaning-token (first_of c.args.here.now.trees) (sym c.is_token.ensures ∙ c.if-is_token.true))
