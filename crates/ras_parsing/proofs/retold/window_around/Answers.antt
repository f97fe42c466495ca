use Rattle.std.proofs.Common.{ap, ◌∙◌}
use Rattle.text_size.specs.TextRange.{Bounds}
use Rattle.ras_parsing.proofs.Windows.{fits_at}
use Rattle.ras_parsing.proofs.retold.window_around.Goals as goal

pub returns-clause-fits : goal.returns-clause-fits
returns-clause-fits c =
    fits_at c.args.text.now c.as_bytes-bytes.result.now c.args.range c.new-3.result c.raw.result c.raw-2.result c.brace_before-start.result c.brace_behind-end.result
    c.utf8.text c.start.ensures.ordered c.requires.within c.as_bytes-bytes.ensures.value (c.raw.ensures ∙ c.start.ensures.value) (c.raw-2.ensures ∙ c.end.ensures.value)
    c.brace_before-start.ensures.value c.brace_before-start.ensures.before c.brace_behind-end.ensures.value c.brace_behind-end.ensures.behind c.brace_behind-end.ensures.within
    (ap (λ (b : Bounds). b.start) c.new-3.ensures ∙ c.new.ensures) (ap (λ (b : Bounds). b.end) c.new-3.ensures ∙ c.new-2.ensures)
