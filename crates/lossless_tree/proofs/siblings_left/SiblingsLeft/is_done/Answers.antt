use Rattle.std.proofs.Common.{◌∙◌, ap}
use Rattle.lossless_tree.specs.Trees.{is_done}
use Rattle.lossless_tree.proofs.TreesLemmas.{done_seen}
use Rattle.lossless_tree.proofs.siblings_left.SiblingsLeft.is_done.Goals as goal

pub returns : goal.returns
returns c = done_seen c.self.inside.table.now c.self.inside.row c.self.inside.end c.self.inside.start c.self.invariant ∙ ap (λ s. is_done s.trees) c.self.view_is
