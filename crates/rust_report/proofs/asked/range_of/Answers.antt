use Rattle.rust_report.proofs.AskedLemmas.{no_dots, no_start, no_end, backwards}
use Rattle.rust_report.proofs.asked.range_of.Goals as goal

pub returns-in_err-start : goal.returns-in_err-start
returns-in_err-start c = rw c.from_residual.ensures (no_dots c.args.text.now c.in_err-start.ensures.cases)

pub returns-in_err-start-2 : goal.returns-in_err-start-2
returns-in_err-start-2 c = rw c.from_residual-in_err-start-2.ensures (no_start c.args.text.now c.in_ok-start.start c.in_ok-start.end c.in_ok-start.ensures.cases c.in_err-start-2.ensures)

pub returns-in_err-end : goal.returns-in_err-end
returns-in_err-end c = rw c.from_residual-in_err-end.ensures (no_end c.args.text.now c.in_ok-start.start c.in_ok-start.end c.in_ok-start.ensures.cases c.in_err-end.ensures)

pub returns-then-end-start : goal.returns-then-end-start
returns-then-end-start c = backwards c.args.text.now c.in_ok-start.start c.in_ok-start.end _ _ c.in_ok-start.ensures.cases c.in_ok-start-2.ensures c.in_ok-end.ensures c.if-end-start.true
