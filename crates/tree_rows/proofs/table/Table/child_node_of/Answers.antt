use Rattle.std.proofs.Common.{◌∙◌, sym, ap, cond, arith}
use Rattle.std.specs.Prelude.{Some}
use Rattle.tree_model.specs.Rows.{tree_at}
use Rattle.tree_model.specs.Cursor.{cursor_at}
use Rattle.tree_model.proofs.At.{some_row}
use Rattle.tree_rows.specs.KindSearch.{only, first_node_among}
use Rattle.tree_rows.specs.Walks.{siblings_left}
use Rattle.tree_rows.proofs.KindLemmas.{child_node, next_has_end, node_found}
use Rattle.tree_rows.proofs.table.Table.child_node_of.Goals as goal

pub returns-then-is_node_of-clause-node : goal.returns-then-is_node_of-clause-node
returns-then-is_node_of-clause-node c =
    ((c.loop-n.invariant.has_end c.loop-n-test.true).1, node_found (only c.args.kind) c.args.self.now c.loop-n.n c.is_node_of.result c.is_node_of.ensures c.if-is_node_of.true)

pub loop-n-smaller : goal.loop-n-smaller
loop-n-smaller c = omega (arith, c.row_behind-n.ensures, some_row (tree_at c.args.self.now c.loop-n.n), c.loop-n-test.true)

pub loop-n-preserved : goal.loop-n-preserved
loop-n-preserved c =
    let tree = c.args.self.now in
    let n = c.loop-n.n in
    let e = c.row_behind-n.result in
    let has_end = c.loop-n.invariant.has_end in
    record {
      has_end = next_has_end tree n e c.args.stop has_end c.loop-n-test.true c.row_behind-n.ensures;
      same =
          sym (child_node (only c.args.kind) tree n e c.args.stop c.is_node_of.result has_end c.loop-n-test.true c.row_behind-n.ensures c.is_node_of.ensures
          ∙ ap (λ b. cond b (Some (cursor_at tree n)) (first_node_among (only c.args.kind) (siblings_left tree e c.args.stop))) c.if-is_node_of.false)
          ∙ c.loop-n.invariant.same;
    }
