use Rattle.std.proofs.Common.{sym, subst}
use Rattle.tree_model.specs.Rows.{place_at}
use Rattle.tree_edits.specs.Run.{IsRun}
use Rattle.tree_edits.proofs.RunLemmas.{run_more, run_on, no_run_on, next_falls}
use Rattle.tree_edits.proofs.changes.siblings_to.Goals as goal

pub returns-in_default-clause-err : goal.returns-in_default-clause-err
returns-in_default-clause-err c = λ ks run.
    no_run_on c.args.table.now c.loop-at.at c.args.last c.loop-at-test.true (sym c.in_default.ensures.place) (c.loop-at.invariant.on (record { rows = ks; is = run }))

pub loop-at-smaller : goal.loop-at-smaller
loop-at-smaller c = next_falls c.args.table.now (place_at c.args.table.now c.loop-at.at) (place_at c.args.table.now c.in-Some.next) (sym c.in-Some.ensures.place)

pub loop-at-preserved : goal.loop-at-preserved
loop-at-preserved c = record {
  is_row = c.in-Some.ensures.in_range;
  run = subst (IsRun c.args.table.now c.args.first c.in-Some.next) (sym c.in_ok-push_row.ensures.ok)
      (run_more c.args.table.now c.args.first c.loop-at.at c.in-Some.next c.loop-at.rows.items c.loop-at.invariant.run (c.in-Some.ensures.in_range, sym c.in-Some.ensures.place));
  on = λ w. run_on c.args.table.now c.loop-at.at c.args.last c.in-Some.next c.loop-at-test.true (c.in-Some.ensures.in_range, sym c.in-Some.ensures.place) (c.loop-at.invariant.on w);
}
