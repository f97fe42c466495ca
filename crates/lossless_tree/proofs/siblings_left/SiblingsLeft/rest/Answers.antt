use Rattle.std.proofs.Common.{◌∙◌, arith}
use Rattle.tree_rows.proofs.StepLemmas.{end_is_behind}
use Rattle.lossless_tree.proofs.TreesLemmas.{later, rest_seen}
use Rattle.lossless_tree.proofs.siblings_left.SiblingsLeft.rest.Goals as goal

pub invariant_of-result : goal.invariant_of-result
invariant_of-result c = (later c.self.inside.table.now c.self.inside.row c.self.inside.end c.self.inside.start c.row_behind.result c.new.result c.self.invariant c.if-self.true (end_is_behind c.self.inside.table.now c.self.inside.row c.row_behind.result (omega (arith, c.self.invariant.within, c.if-self.true)) c.row_behind.ensures) (c.new.ensures ∙ c.end_at.ensures.value)).is_trees

pub returns-then-self : goal.returns-then-self
returns-then-self c = rest_seen c.args.self.now c.self.inside.table.now c.self.inside.row c.self.inside.end c.self.inside.start c.row_behind.result c.new.result c.self.view_is c.self.invariant c.if-self.true (end_is_behind c.self.inside.table.now c.self.inside.row c.row_behind.result (omega (arith, c.self.invariant.within, c.if-self.true)) c.row_behind.ensures) (c.new.ensures ∙ c.end_at.ensures.value)
