use Rattle.std.proofs.Common.{◌∙◌}
use Rattle.ras_c.proofs.TermLemmas.{answered}
use Rattle.ras_c.proofs.parens.shows_term.Goals as goal

pub returns : goal.returns
returns c = c.is_some.ensures ∙ answered _ _ c.reads_back.ensures.reads
