use Rattle.std.proofs.Common.{arith}
use Rattle.gitignore.specs.Lines.{kept}
use Rattle.gitignore.proofs.LineLemmas.{keep_blank, keep_pair, keep_other, keep_last}
use Rattle.gitignore.proofs.line.kept.Goals as goal
use Rattle.gitignore.proofs.line.kept.Goals.{else-line-at-eq92-via-then-line-at-eq92+else-at-line, else-line-at-eq92-via-else-line-at-eq92}

pub loop-at-preserved-then-line-at-eq32 : goal.loop-at-preserved-then-line-at-eq32
loop-at-preserved-then-line-at-eq32 c = (
  keep_blank c.loop-at.kept c.loop-at.at c.args.line.now (kept 0 0 c.args.line.now) c.loop-at-test.true c.if-line-at-eq32.true c.loop-at.invariant.0,
  omega (arith, c.loop-at.invariant.1),
  omega (arith, c.loop-at-test.true),
)

pub loop-at-preserved-then-at-line : goal.loop-at-preserved-then-at-line
loop-at-preserved-then-at-line c = (
  keep_pair c.loop-at.kept c.loop-at.at c.args.line.now (kept 0 0 c.args.line.now) c.if-at-line.true c.if-line-at-eq92.true c.loop-at.invariant.0,
  omega arith,
  omega (arith, c.if-at-line.true),
)

pub loop-at-preserved : goal.loop-at-preserved
loop-at-preserved c = (
  elim c.else-line-at-eq92.branch [
    | else-line-at-eq92-via-then-line-at-eq92+else-at-line w ↦ keep_last c.loop-at.kept c.loop-at.at c.args.line.now (kept 0 0 c.args.line.now) c.loop-at-test.true
        (omega (arith, w.if-at-line.false)) c.if-line-at-eq32.false c.loop-at.invariant.0
    | else-line-at-eq92-via-else-line-at-eq92 w ↦ keep_other c.loop-at.kept c.loop-at.at c.args.line.now (kept 0 0 c.args.line.now) c.loop-at-test.true
        c.if-line-at-eq32.false w.if-line-at-eq92.false c.loop-at.invariant.0
  ],
  omega arith,
  omega (arith, c.loop-at-test.true),
)
