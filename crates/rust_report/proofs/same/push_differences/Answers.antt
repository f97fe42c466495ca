use Rattle.std.proofs.Common.{◌<◌, [], refl, arith, length}
use Rattle.rust_report.specs.Steps.{counted}
use Rattle.rust_report.proofs.StepLemmas.{one_more, no_more, enough}
use Rattle.rust_report.proofs.same.push_differences.Goals as goal

pub returns-in_default : goal.returns-in_default
returns-in_default c =
    let fewer : length c.loop-trivia.found.items < c.args.limit = omega (arith, c.loop-trivia-test.true, c.len.ensures) in
    no_more c.args.limit _ _ (counted c.args.trivia c.args.marks.now c.loop-trivia.olds) (counted c.args.trivia [] c.loop-trivia.news) c.loop-trivia.found.items fewer c.loop-trivia.invariant (c.in_default.ensures.same.0 refl)

pub loop-trivia-preserved : goal.loop-trivia-preserved
loop-trivia-preserved c =
    let fewer : length c.loop-trivia.found.items < c.args.limit = omega (arith, c.loop-trivia-test.true, c.len.ensures) in
    one_more c.args.limit _ _ (counted c.args.trivia c.args.marks.now c.loop-trivia.olds) (counted c.args.trivia [] c.loop-trivia.news) c.loop-trivia.found.items c.push.new.self.items c.in-Some.difference
    (counted c.args.trivia c.args.marks.now c.next_difference.new.olds) (counted c.args.trivia [] c.next_difference.new.news) (counted c.args.trivia c.args.marks.now c.skip_both.new.olds) (counted c.args.trivia [] c.skip_both.new.news)
    fewer c.loop-trivia.invariant c.in-Some.ensures.first c.in_ok-skip_both.ensures.old c.in_ok-skip_both.ensures.new c.in_ok-push.ensures.items

pub returns : goal.returns
returns c =
    enough c.args.limit _ _ (counted c.args.trivia c.args.marks.now c.loop-trivia.olds) (counted c.args.trivia [] c.loop-trivia.news) c.loop-trivia.found.items (λ h. omega (arith, c.loop-trivia-test.false, c.len.ensures, h)) c.loop-trivia.invariant
