use Rattle.std.proofs.Common.{◌∙◌, sym, ap, cond, arith}
use Rattle.std.specs.Prelude.{Some}
use Rattle.tree_model.specs.Rows.{tree_at}
use Rattle.tree_model.specs.Cursor.{cursor_at}
use Rattle.tree_model.proofs.At.{some_row}
use Rattle.tree_rows.specs.KindSearch.{first_node_among}
use Rattle.tree_rows.specs.Walks.{siblings_left}
use Rattle.tree_rows.proofs.KindLemmas.{child_node, next_has_end, node_found}
use Rattle.tree_rows.proofs.table.Table.child_node_among.Goals as goal

pub returns-then-is_node_among-clause-node : goal.returns-then-is_node_among-clause-node
returns-then-is_node_among-clause-node g c =
    ((c.loop-n.invariant.has_end c.loop-n-test.true).1, node_found g.K.KindSet.kinds c.args.self.now c.loop-n.n c.is_node_among.result c.is_node_among.ensures c.if-is_node_among.true)

pub loop-n-smaller : goal.loop-n-smaller
loop-n-smaller g c = omega (arith, c.row_behind-n.ensures, some_row (tree_at c.args.self.now c.loop-n.n), c.loop-n-test.true)

pub loop-n-preserved : goal.loop-n-preserved
loop-n-preserved g c =
    let tree = c.args.self.now in
    let n = c.loop-n.n in
    let e = c.row_behind-n.result in
    let has_end = c.loop-n.invariant.has_end in
    record {
      has_end = next_has_end tree n e c.args.stop has_end c.loop-n-test.true c.row_behind-n.ensures;
      same =
          sym (child_node g.K.KindSet.kinds tree n e c.args.stop c.is_node_among.result has_end c.loop-n-test.true c.row_behind-n.ensures c.is_node_among.ensures
          ∙ ap (λ b. cond b (Some (cursor_at tree n)) (first_node_among g.K.KindSet.kinds (siblings_left tree e c.args.stop))) c.if-is_node_among.false)
          ∙ c.loop-n.invariant.same;
    }
