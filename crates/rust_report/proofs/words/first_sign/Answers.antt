use Rattle.std.proofs.Common.{sym, ◌∙◌}
use Rattle.rust_report.proofs.WordLemmas.{one_more, cut_here}
use Rattle.rust_report.proofs.words.first_sign.Goals as goal

pub returns-in-Some-sign_at : goal.returns-in-Some-sign_at
returns-in-Some-sign_at c =
    cut_here c.args.text.now c.loop-first.rest.now c.in-Some.first.now c.in-Some.behind.now c.in-Some-sign_at.link c.loop-first.invariant c.in-Some.ensures.cases.0 (sym c.sign_at.ensures ∙ c.in-Some-sign_at.is)

pub loop-first-preserved : goal.loop-first-preserved
loop-first-preserved c = one_more c.args.text.now c.loop-first.rest.now c.in-Some.first.now c.in-Some.behind.now c.sign_at.result c.loop-first.invariant c.in-Some.ensures.cases.0 c.sign_at.ensures c.in_default-sign_at.is
