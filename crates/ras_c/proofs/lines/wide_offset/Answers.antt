use Rattle.std.proofs.Common.{sym, subst}
use Rattle.line_index.specs.Lines.{line_col_at}
use Rattle.ras_c.specs.declared.lines.Columns.TheVariants as columns
use Rattle.ras_c.specs.Lines.{IsOffsetOf}
use Rattle.ras_c.proofs.LinesLemmas.{wide_of, from_wide}
use Rattle.ras_c.proofs.lines.wide_offset.Goals as goal

pub returns-in_err-place : goal.returns-in_err-place
returns-in_err-place c = rw c.from_residual.ensures (λ o k. c.in_err-place.ensures (line_col_at c.args.index.now o) (wide_of c.args.encoding c.args.index.now c.args.at.now o k))

pub returns : goal.returns
returns c =
    let found = from_wide c.args.encoding c.args.index.now c.args.at.now c.in_ok-place.place c.in_ok-offset.offset c.in_ok-place.ensures c.in_ok-offset.ensures in
    subst (λ o. IsOffsetOf (columns.Wide c.args.encoding) c.args.index.now c.args.at.now o) (sym c.raw.ensures) found
