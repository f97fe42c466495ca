use Rattle.std.proofs.Common.{sym, ◌∙◌, arith}
use Rattle.ras_parsing.proofs.Windows.{passed_one}
use Rattle.ras_parsing.proofs.retold.brace_before.Goals as goal

pub loop-at-preserved : goal.loop-at-preserved
loop-at-preserved c =
    passed_one c.args.bytes.now c.args.end c.loop-at.at (omega (arith, c.loop-at-test.true)) (omega (arith, c.loop-at.invariant.within, c.requires)) c.loop-at.invariant
    (sym c.is_brace.ensures ∙ c.if-is_brace.false)
