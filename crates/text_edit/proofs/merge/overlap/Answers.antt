use Rattle.std.proofs.Common.{arith, refl, true, false, ◌≡◌}
use Rattle.text_edit.proofs.Order.{none_clear, clear_ds, clear_es, clear_all, overlap_here, fails}
use Rattle.text_edit.proofs.merge.overlap.Goals as goal

pub loop-at-init : goal.loop-at-init
loop-at-init c = record { mine_within = omega arith; theirs_within = omega arith; clear = none_clear c.args.mine.now c.args.theirs.now }

pub loop-at-preserved-then-ends_before : goal.loop-at-preserved-then-ends_before
loop-at-preserved-then-ends_before c = record {
  mine_within = omega (arith, c.loop-at-test.true);
  theirs_within = c.loop-at.invariant.theirs_within;
  clear =
      clear_ds c.args.mine.now c.args.theirs.now c.loop-at.at c.loop-at.other c.requires.theirs (omega (arith, c.loop-at-test.true)) (omega (arith, c.if-other-theirs.true))
      (λ d. (c.ends_before.ensures d).0 c.if-ends_before.true) c.loop-at.invariant.clear;
}

pub loop-at-preserved : goal.loop-at-preserved
loop-at-preserved c = record {
  mine_within = c.loop-at.invariant.mine_within;
  theirs_within = omega (arith, c.if-other-theirs.true);
  clear =
      clear_es c.args.mine.now c.args.theirs.now c.loop-at.at c.loop-at.other c.requires.mine (omega (arith, c.loop-at-test.true)) (omega (arith, c.if-other-theirs.true))
      (λ d. (c.ends_before-else-ends_before.ensures d).0 c.if-ends_before-2.true) c.loop-at.invariant.clear;
}

pub returns-else-ends_before-2 : goal.returns-else-ends_before-2
returns-else-ends_before-2 c = (
  λ _. overlap_here c.args.mine.now c.args.theirs.now c.loop-at.at c.loop-at.other (omega (arith, c.loop-at-test.true)) (omega (arith, c.if-other-theirs.true))
      (λ d. fails c.ends_before.result _ (c.ends_before.ensures d) c.if-ends_before.false) (λ d. fails c.ends_before-else-ends_before.result _ (c.ends_before-else-ends_before.ensures d) c.if-ends_before-2.false),
  λ _. refl,
)

pub returns-else-other-theirs : goal.returns-else-other-theirs
returns-else-other-theirs c =
    (λ t. (let no : false ≡ true = t in cc), λ any. absurd (clear_all c.args.mine.now c.args.theirs.now c.loop-at.at c.loop-at.other (λ both. omega (arith, both.1, c.if-other-theirs.false)) c.loop-at.invariant.clear any))

pub returns-after-loop-at : goal.returns-after-loop-at
returns-after-loop-at c =
    (λ t. (let no : false ≡ true = t in cc), λ any. absurd (clear_all c.args.mine.now c.args.theirs.now c.loop-at.at c.loop-at.other (λ both. omega (arith, both.0, c.loop-at-test.false)) c.loop-at.invariant.clear any))
