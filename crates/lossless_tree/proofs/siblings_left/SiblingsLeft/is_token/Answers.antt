use Rattle.std.proofs.Common.{◌∙◌, ap}
use Rattle.tree_model.specs.Tree.{is_token}
use Rattle.lossless_tree.proofs.TreesLemmas.{first_seen}
use Rattle.lossless_tree.proofs.siblings_left.SiblingsLeft.is_token.Goals as goal

pub returns-then-self : goal.returns-then-self
returns-then-self c =
    c.is_token_at.ensures
    ∙ ap is_token (first_seen c.args.self.now c.self.inside.table.now c.self.inside.row c.self.inside.end c.self.inside.start c.self.view_is c.self.invariant c.if-self.true)
