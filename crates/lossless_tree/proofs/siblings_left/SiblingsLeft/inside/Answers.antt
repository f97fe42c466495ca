use Rattle.std.proofs.Common.{◌∙◌}
use Rattle.lossless_tree.proofs.TreesLemmas.{inside_seen}
use Rattle.lossless_tree.proofs.siblings_left.SiblingsLeft.inside.Goals as goal

pub returns-then-self : goal.returns-then-self
returns-then-self c = c.below.ensures ∙ inside_seen c.args.self.now c.self.inside.table.now c.self.inside.row c.self.inside.end c.self.inside.start c.self.view_is c.self.invariant c.if-self.true
