use Rattle.std.proofs.Common.{◌≡◌, ◌+◌, ◌∙◌, ap, sym, [], ◌∷◌, drop, Some, arith}
use Rattle.tree_model.specs.declared.error.FinishError.TheVariants.{Empty}
use Rattle.tree_rows.specs.declared.builder_event.BuilderEvent.{BuilderEvent}
use Rattle.tree_rows.specs.Builder.{events_from}
use Rattle.tree_model.specs.Scan.{scan}
use Rattle.tree_rows.proofs.ScanLemmas.{drop_at, scan_enter_top, scan_enter_in, scan_token_top, scan_token_in, scan_exit_in}
use Rattle.tree_rows.proofs.finish.first_refusal.Goals as goal
use Rattle.tree_rows.proofs.finish.first_refusal.Goals.{in-Enter, then-open-eq0, else-open-eq0, in-Token+then-open-eq0-2, in-Token+else-open-eq0-2, in-Exit+else-open-eq0-3}

pub loop-step-preserved : goal.loop-step-preserved
loop-step-preserved c =
    let xs = c.args.steps.now in
    let rest = drop (c.loop-step.step-index + 1) xs in
    let before : (e : BuilderEvent) → drop c.loop-step.step-index xs ≡ e ∷ rest → scan c.loop-step.open c.loop-step.root (events_from (e ∷ rest) []) ≡ scan 0 (Some Empty) (events_from xs []) =
    λ e is. ap (λ l. scan c.loop-step.open c.loop-step.root (events_from l [])) (sym is) ∙ c.loop-step.invariant.1 in
    elim c.match-step.branch [
      | in-Enter w ↦
          let here = before _ (drop_at xs _ _ _ c.loop-step-test.true w.in-Enter.is) in
          elim w.if-open-eq0.branch [
            | then-open-eq0 v ↦ (omega arith, scan_enter_top w.in-Enter.field-0 rest _ _ _ _ v.if-open-eq0.true w.open-is (w.root-is ∙ v.root-is ∙ v.after_top-root.ensures) ∙ here)
            | else-open-eq0 v ↦ (omega arith, scan_enter_in w.in-Enter.field-0 rest _ _ _ _ v.if-open-eq0.false w.open-is (w.root-is ∙ v.root-is) ∙ here)
          ]
      | in-Token+then-open-eq0-2 w ↦ (omega arith, scan_token_top w.in-Token.field-0 _ rest _ _ _ _ w.if-open-eq0-2.true w.open-is (w.root-is ∙ w.after_top-root-then-open-eq0-2.ensures) ∙ before _ (drop_at xs _ _ _ c.loop-step-test.true w.in-Token.is))
      | in-Token+else-open-eq0-2 w ↦ (omega arith, scan_token_in w.in-Token.field-0 _ rest _ _ _ _ w.if-open-eq0-2.false w.open-is w.root-is ∙ before _ (drop_at xs _ _ _ c.loop-step-test.true w.in-Token.is))
      | in-Exit+else-open-eq0-3 w ↦ (omega arith, scan_exit_in rest _ _ _ _ w.if-open-eq0-3.false w.open-is w.root-is ∙ before _ (drop_at xs _ _ _ c.loop-step-test.true w.in-Exit.is))
    ]
