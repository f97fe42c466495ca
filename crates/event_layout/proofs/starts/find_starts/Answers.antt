use Rattle.std.proofs.Common.{arith, ◌∙◌}
use Rattle.event_layout.specs.Starts.{links_of}
use Rattle.event_layout.proofs.Noting.{noted_more}
use Rattle.event_layout.proofs.starts.find_starts.Goals as goal

pub loop-number-preserved : goal.loop-number-preserved
loop-number-preserved c = c.link.ensures ∙ noted_more c.args.root c.args.events.now c.loop-number.number _ (links_of c.loop-number.starts) (omega arith) c.loop-number.invariant
