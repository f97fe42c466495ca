use Rattle.std.proofs.Common.{sym, ◌∙◌, [], refl}
use Rattle.std.proofs.lemmas.Bool.{false≢true}
use Rattle.rust_report.specs.Steps.{counted}
use Rattle.rust_report.proofs.StepLemmas.{starts, longer, no_difference, same_first, not_ended, none_left, differ_old, differ_new, differ_both}
use Rattle.rust_report.proofs.same.next_difference.Goals as goal

pub loop-a-init : goal.loop-a-init
loop-a-init c = starts _ _ _ _ refl refl

pub returns-in_default-next_counted-clause-same : goal.returns-in_default-next_counted-clause-same
returns-in_default-next_counted-clause-same c = (
  λ t. absurd (false≢true (sym t)),
  λ e.
      absurd
      (not_ended (counted c.args.trivia c.args.marks.now c.loop-a.olds) (counted c.args.trivia [] c.loop-a.news) c.in-Some.a _ c.in-Some.ensures c.in_default-next_counted.ensures.0
      (no_difference _ _ _ _ c.loop-a.invariant e)),
)

pub returns-in_default-next_counted-clause-first : goal.returns-in_default-next_counted-clause-first
returns-in_default-next_counted-clause-first c =
    differ_old _ _ (counted c.args.trivia c.args.marks.now c.loop-a.olds) (counted c.args.trivia [] c.loop-a.news) _ c.in-Some.a _ _ c.loop-a.invariant c.in-Some.ensures c.in_default-next_counted.ensures refl refl

pub loop-a-preserved : goal.loop-a-preserved
loop-a-preserved c =
    longer _ _ _ _ c.in-Some.a c.in-Some-next_counted.b _ _ c.loop-a.invariant c.in-Some.ensures c.in-Some-next_counted.ensures (c.is_same_step.ensures.0 c.if-is_same_step.true)

pub returns-in-Some-clause-same : goal.returns-in-Some-clause-same
returns-in-Some-clause-same c = (
  λ t. absurd (false≢true (sym t)),
  λ e.
      absurd
      (false≢true
      (sym c.if-is_same_step.false
      ∙ c.is_same_step.ensures.1
      (same_first (counted c.args.trivia c.args.marks.now c.loop-a.olds) (counted c.args.trivia [] c.loop-a.news) c.in-Some.a c.in-Some-next_counted.b _ _ c.in-Some.ensures c.in-Some-next_counted.ensures
      (no_difference _ _ _ _ c.loop-a.invariant e)))),
)

pub returns-in-Some-clause-first : goal.returns-in-Some-clause-first
returns-in-Some-clause-first c =
    differ_both _ _ (counted c.args.trivia c.args.marks.now c.loop-a.olds) (counted c.args.trivia [] c.loop-a.news) _ c.in-Some.a c.in-Some-next_counted.b _ _ c.loop-a.invariant c.in-Some.ensures c.in-Some-next_counted.ensures
    (λ same. false≢true (sym c.if-is_same_step.false ∙ c.is_same_step.ensures.1 same)) refl refl

pub returns-in-Some-next_counted-2-clause-same : goal.returns-in-Some-next_counted-2-clause-same
returns-in-Some-next_counted-2-clause-same c = (
  λ t. absurd (false≢true (sym t)),
  λ e.
      absurd
      (none_left (counted c.args.trivia c.args.marks.now c.loop-a.olds) (counted c.args.trivia [] c.loop-a.news) c.in-Some-next_counted-2.b _ c.in_default.ensures.0 c.in-Some-next_counted-2.ensures
      (no_difference _ _ _ _ c.loop-a.invariant e)),
)

pub returns-in-Some-next_counted-2-clause-first : goal.returns-in-Some-next_counted-2-clause-first
returns-in-Some-next_counted-2-clause-first c =
    differ_new _ _ (counted c.args.trivia c.args.marks.now c.loop-a.olds) (counted c.args.trivia [] c.loop-a.news) _ c.in-Some-next_counted-2.b _ _ c.loop-a.invariant c.in_default.ensures c.in-Some-next_counted-2.ensures refl refl
