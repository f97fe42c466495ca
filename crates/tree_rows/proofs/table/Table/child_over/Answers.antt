use Rattle.std.proofs.Common.{◌<◌, arith}
use Rattle.tree_model.specs.Tree.{size}
use Rattle.tree_rows.proofs.TableLemmas.{row_end_fits}
use Rattle.tree_rows.proofs.SiblingLemmas.{climbs}
use Rattle.tree_rows.proofs.StepLemmas.{end_of_row}
use Rattle.tree_model.proofs.At.{some_row}
use Rattle.tree_model.specs.Rows.{tree_at}
use Rattle.tree_rows.proofs.table.Table.child_over.Goals as goal

pub parent-above-requires : goal.parent-above-requires
parent-above-requires c = omega (arith, row_end_fits c.args.self.now c.args.parent c.requires.in_range, c.requires.reaches)

pub loop-above-init : goal.loop-above-init
loop-above-init c =
    let h : c.args.n < size c.args.self.now = omega (arith, row_end_fits c.args.self.now c.args.parent c.requires.in_range, c.requires.reaches) in
    record {
      behind = c.requires.behind;
      from = omega arith;
      reaches = omega (arith, end_of_row c.args.self.now c.args.n h, some_row (tree_at c.args.self.now c.args.n));
      above_is = c.parent-above.ensures;
    }

pub parent-above-requires-in-loop-above : goal.parent-above-requires-in-loop-above
parent-above-requires-in-loop-above c =
    let i = c.loop-above.invariant in
    omega (arith, (climbs c.args.self.now c.args.parent c.args.n c.loop-above.child c.loop-above.above c.requires i.behind i.from i.reaches i.above_is c.loop-above-test.true).1, i.from, row_end_fits c.args.self.now c.args.parent c.requires.in_range, c.requires.reaches)

pub loop-above-smaller : goal.loop-above-smaller
loop-above-smaller c =
    let i = c.loop-above.invariant in
    (climbs c.args.self.now c.args.parent c.args.n c.loop-above.child c.loop-above.above c.requires i.behind i.from i.reaches i.above_is c.loop-above-test.true).1

pub loop-above-preserved : goal.loop-above-preserved
loop-above-preserved c =
    let i = c.loop-above.invariant in
    let up = climbs c.args.self.now c.args.parent c.args.n c.loop-above.child c.loop-above.above c.requires i.behind i.from i.reaches i.above_is c.loop-above-test.true in
    record { behind = up.0; from = omega (arith, up.1, i.from); reaches = up.2; above_is = c.parent-above-in-loop-above.ensures }
