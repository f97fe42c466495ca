use Rattle.rust_report.proofs.AskedLemmas.{no_cut, no_line, no_column, is_place}
use Rattle.rust_report.proofs.asked.place_of.Goals as goal

pub returns-in_err-line : goal.returns-in_err-line
returns-in_err-line c = rw c.from_residual.ensures (no_cut c.args.text.now c.in_err-line.ensures.cases)

pub returns-in_err-line-2 : goal.returns-in_err-line-2
returns-in_err-line-2 c = rw c.from_residual-in_err-line-2.ensures (no_line c.args.text.now c.in_ok-line.line c.in_ok-line.column c.in_ok-line.ensures.cases c.in_err-line-2.ensures)

pub returns-in_err-col : goal.returns-in_err-col
returns-in_err-col c = rw c.from_residual-in_err-col.ensures (no_column c.args.text.now c.in_ok-line.line c.in_ok-line.column c.in_ok-line.ensures.cases c.in_err-col.ensures)

pub returns : goal.returns
returns c = is_place c.args.text.now c.in_ok-line.line c.in_ok-line.column _ c.in_ok-line.ensures.cases c.in_ok-line-2.ensures c.in_ok-col.ensures
