use Rattle.rust_parens.proofs.AloneLemmas.{walked}
use Rattle.rust_parens.proofs.alone.is_told_around.Goals as goal

pub loop-around-preserved : goal.loop-around-preserved
loop-around-preserved g c =
    (tt, tt, walked c.args.pair.now c.in-Some.around c.loop-around.around-iterator c.next.new.self c.loop-around.invariant.2 c.in-Some.ensures.steps)
