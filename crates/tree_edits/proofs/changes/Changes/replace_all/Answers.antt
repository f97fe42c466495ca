use Rattle.std.proofs.Common.{◌≡◌, sym, subst, ◌∙◌, ap, inl, inr, rules}
use Rattle.tree_model.specs.Tree.{size}
use Rattle.std.specs.Prelude.{OnOk}
use Rattle.tree_edits.specs.Run.{IsRun, AreBelow, AreTaken, IsRunRefused, IsFirstRefused, with_run}
use Rattle.tree_edits.proofs.RunLemmas.{run_below, run_refused, run_done}
use Rattle.tree_edits.proofs.changes.Changes.replace_all.Goals as goal
use Rattle.tree_edits.proofs.changes.Changes.replace_all.Goals.{In_ok-others}

run : (c : In_ok-others) → IsRun c.args.self.now.tree c.args.first c.args.last c.in_ok-others.others.items
run c = subst (λ t. IsRun t c.args.first c.args.last c.in_ok-others.others.items) (c.as_ref.ensures ∙ ap (λ s. s.tree) c.self.view_is) c.in_ok-others.ensures.ok

pub returns-in_err-check-clause-refused : goal.returns-in_err-check-clause-refused
returns-in_err-check-clause-refused c =
    let e = c.in_err-check.field-0.0 in
    let w : IsRunRefused c.args.self.now c.args.first c.args.last e = run_refused c.args.self.now c.args.first c.args.last c.in_ok-others.others.items e (run (goal.at.returns-in_err-check-clause-refused c).In_ok-others) (inl c.in_err-check.ensures.err.0) c.in_err-check.ensures.err.1 in
    search rules

pub check_all-requires : goal.check_all-requires
check_all-requires c = subst (AreBelow (size c.args.self.now.tree)) (sym c.as_slice.ensures.value) (run_below c.args.self.now.tree c.args.first c.args.last c.in_ok-others.others.items (run (goal.at.check_all-requires c).In_ok-others))

pub returns-in_err-check_all-clause-refused : goal.returns-in_err-check_all-clause-refused
returns-in_err-check_all-clause-refused c =
    let e = c.in_err-check_all.field-0.0 in
    let others = c.in_ok-others.others.items in
    let first_of : IsFirstRefused c.args.self.now others e = subst (λ l. IsFirstRefused c.args.self.now l e) c.as_slice.ensures.value c.in_err-check_all.ensures.err.0 in
    let w : IsRunRefused c.args.self.now c.args.first c.args.last e = run_refused c.args.self.now c.args.first c.args.last others e (run (goal.at.returns-in_err-check_all-clause-refused c).In_ok-others) (inr (c.in_ok-check.ensures.ok, first_of)) c.in_err-check_all.ensures.err.1 in
    search rules

pub put_run-requires-clause-are_rows : goal.put_run-requires-clause-are_rows
put_run-requires-clause-are_rows c = (
  c.requires,
  subst (AreBelow (size c.args.self.now.tree)) (sym c.as_slice-2.ensures.value) (run_below c.args.self.now.tree c.args.first c.args.last c.in_ok-others.others.items (run (goal.at.put_run-requires-clause-are_rows c).In_ok-others)),
)

pub returns-clause-ok : goal.returns-clause-ok
returns-clause-ok c =
    let s = c.args.self.now in
    let others = c.in_ok-others.others.items in
    let taken : AreTaken s others = subst (AreTaken s) c.as_slice.ensures.value c.in_ok-check_all.ensures.ok in
    let done = subst (λ l. OnOk c.put_run.result (c.put_run.new.self ≡ with_run s c.args.first l c.args.elements.items)) c.as_slice-2.ensures.value c.put_run.ensures.ok in
    run_done c.put_run.result s c.put_run.new.self c.args.first c.args.last others c.args.elements.items (run (goal.at.returns-clause-ok c).In_ok-others) (c.in_ok-check.ensures.ok, taken) done
