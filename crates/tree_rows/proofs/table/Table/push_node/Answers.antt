use Rattle.std.proofs.Common.{◌≡◌, ◌+◌, ◌∙◌, ap, arith}
use Rattle.std.proofs.lemmas.Result.{on_ok_weaker}
use Rattle.tree_model.specs.Tree.{size}
use Rattle.tree_model.specs.Rows.{tree_at}
use Rattle.tree_model.proofs.At.{some_row}
use Rattle.tree_rows.proofs.StepLemmas.{end_of_row}
use Rattle.tree_rows.proofs.TableLemmas.{row_end_fits}
use Rattle.tree_rows.proofs.EditLemmas.{node_pushed, fits_inside}
use Rattle.tree_rows.proofs.table.Table.push_node.Goals as goal
use Rattle.tree_rows.proofs.table.Table.push_node.Goals.{After-row-node}

ends : (c : After-row-node) → c.row-node.result.end ≡ c.args.n + size (tree_at c.args.self.now c.args.n)
ends c = ap (λ r. r.end) c.row-node.ensures.value ∙ end_of_row c.args.self.now c.args.n c.requires.is_row

pub overflow_sub-first : goal.overflow_sub-first
overflow_sub-first c = omega (arith, ends (goal.at.overflow_sub-first c).After-row-node)

pub overflow_add-n : goal.overflow_add-n
overflow_add-n c = omega (arith, ends (goal.at.overflow_add-n c).After-row-node, c.row-node.ensures.end_fits, some_row (tree_at c.args.self.now c.args.n))

pub push_moved-requires-clause-ordered : goal.push_moved-requires-clause-ordered
push_moved-requires-clause-ordered c = omega (arith, ends (goal.at.push_moved-requires-clause-ordered c).After-row-node, some_row (tree_at c.args.self.now c.args.n))

pub push_moved-requires-clause-in_range : goal.push_moved-requires-clause-in_range
push_moved-requires-clause-in_range c = omega (arith, ap (λ r. r.end) c.row-node.ensures.value, row_end_fits c.args.self.now c.args.n c.requires.is_row)

pub push_moved-requires-clause-fits : goal.push_moved-requires-clause-fits
push_moved-requires-clause-fits c = λ k later lt. fits_inside c.args.self.now c.args.n k c.row-node.result c.args.to c.args.byte c.requires.is_row c.row-node.ensures.value c.requires.rows_fit c.requires.bytes_fit (omega (arith, later)) lt

pub returns : goal.returns
returns c =
    on_ok_weaker c.push_moved.result
    (λ is. node_pushed c.args.self.now c.args.n c.requires.is_row c.row-node.result c.args.rows.now c.push.new.self c.push_moved.new.rows (c.args.n + 1) c.args.to c.args.byte c.args.up c.requires.is_node c.row-node.ensures.value (omega arith) c.in_ok-push.ensures.ok is)
    c.push_moved.ensures

pub push-requires : goal.push-requires
push-requires c = omega (arith, ends (goal.at.push-requires c).After-row-node, c.requires.rows_fit)
