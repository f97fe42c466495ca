use Rattle.tree_rows.proofs.StepLemmas.{root_has_no_parent, parent_by_row}
use Rattle.tree_rows.proofs.table.Table.parent_row.Goals as goal

pub returns-then-n-eq0-clause-place : goal.returns-then-n-eq0-clause-place
returns-then-n-eq0-clause-place c = root_has_no_parent c.args.self.now c.args.n c.requires c.if-n-eq0.true

pub returns-else-n-eq0-clause-place : goal.returns-else-n-eq0-clause-place
returns-else-n-eq0-clause-place c = (parent_by_row c.args.self.now c.args.n c.parent.result c.requires c.if-n-eq0.false c.parent.ensures).place

pub returns-else-n-eq0-clause-node : goal.returns-else-n-eq0-clause-node
returns-else-n-eq0-clause-node c = (parent_by_row c.args.self.now c.args.n c.parent.result c.requires c.if-n-eq0.false c.parent.ensures).is_node

pub returns-else-n-eq0-clause-in_range : goal.returns-else-n-eq0-clause-in_range
returns-else-n-eq0-clause-in_range c = (parent_by_row c.args.self.now c.args.n c.parent.result c.requires c.if-n-eq0.false c.parent.ensures).in_range

pub returns-else-n-eq0-clause-earlier : goal.returns-else-n-eq0-clause-earlier
returns-else-n-eq0-clause-earlier c = (parent_by_row c.args.self.now c.args.n c.parent.result c.requires c.if-n-eq0.false c.parent.ensures).earlier
