use Rattle.rust_report.proofs.SpotLemmas.{found, none_wide, some_offset}
use Rattle.rust_report.proofs.place.offset_of.Goals as goal

pub returns-in_err-place-clause-some : goal.returns-in_err-place-clause-some
returns-in_err-place-clause-some c = λ o h. absurd (none_wide c.args.lines.now o c.args.at c.in_err-place.ensures h)

pub returns-clause-found : goal.returns-clause-found
returns-clause-found c = found c.args.lines.now c.in_ok-place.place c.args.at c.offset.result c.in_ok-place.ensures c.offset.ensures

pub returns-clause-some : goal.returns-clause-some
returns-clause-some c = λ o h. some_offset c.args.lines.now c.in_ok-place.place c.args.at c.offset.result c.in_ok-place.ensures c.offset.ensures
