use Rattle.rust_report.specs.Changes.{is_other}
use Rattle.rust_report.proofs.ChangesLemmas.{counted}
use Rattle.rust_report.proofs.changes.other_front.Goals as goal

pub returns : goal.returns
returns c = counted is_other c.args.old.now c.args.new.now c.loop-count.count c.min.result c.min.ensures c.loop-count-test.false c.loop-count.invariant.counted
