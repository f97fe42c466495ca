use Rattle.std.proofs.Common.{◌∙◌}
use Rattle.rust_report.proofs.TextsLemmas.{past, no_such, shows, never}
use Rattle.rust_report.proofs.texts.line_at.Goals as goal

pub returns-in_default : goal.returns-in_default
returns-in_default c = λ same. past c.args.text.now c.args.lines.now c.args.offset same c.in_default.ensures

pub returns-in_default-line : goal.returns-in_default-line
returns-in_default-line c = λ same.
    no_such c.args.text.now c.args.lines.now c.args.offset c.in-Some.place same c.in-Some.ensures.0 c.in-Some.ensures.1 c.in_default-line.ensures

pub returns-in-Some-get : goal.returns-in-Some-get
returns-in-Some-get c = λ same.
    shows c.args.text.now c.args.lines.now c.args.offset c.in-Some.place c.in-Some-line.range c.raw.result c.raw-2.result c.in-Some-get.line.now c.shown_line.result.now
    same c.in-Some.ensures.0 c.in-Some.ensures.1 c.in-Some-line.ensures (c.raw.ensures ∙ c.start.ensures.value) (c.raw-2.ensures ∙ c.end.ensures.value)
    c.in-Some-get.ensures.cases.0 c.shown_line.ensures

pub returns-in-None : goal.returns-in-None
returns-in-None c = λ same.
    never c.args.text.now c.args.lines.now c.args.offset c.in-Some.place c.in-Some-line.range c.raw.result c.raw-2.result c.utf8.text
    same c.in-Some.ensures.0 c.in-Some.ensures.1 c.in-Some-line.ensures (c.raw.ensures ∙ c.start.ensures.value) (c.raw-2.ensures ∙ c.end.ensures.value)
    c.start.ensures.ordered c.in-None.ensures.cases
