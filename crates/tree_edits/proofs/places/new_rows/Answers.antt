use Rattle.std.proofs.Common.{arith}
use Rattle.tree_model.proofs.At.{some_row}
use Rattle.tree_rows.proofs.WalkSteps.{walk_begins}
use Rattle.tree_edits.proofs.KeptLemmas.{loop-begins, column-begins}
use Rattle.tree_edits.proofs.places.new_rows.Goals as goal

pub loop-step-init : goal.loop-step-init
loop-step-init g c = record {
  walks = walk_begins c.args.table.now 0 (some_row c.args.table.now);
  skip_is = omega arith;
  counted = loop-begins g.at c.args.table.now c.args.changes.now.marks.items c.args.changes.now.changes.items c.requires.0 c.requires.1;
  column = column-begins g.at c.args.table.now c.in_ok-out.out.items c.requires.1 c.in_ok-out.ensures.items;
}
