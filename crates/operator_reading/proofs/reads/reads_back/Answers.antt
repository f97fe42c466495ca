use Rattle.std.proofs.Common.{sym, ◌∙◌}
use Rattle.tree_model.specs.Cursor.{focus}
use Rattle.operator_reading.proofs.ReadsLemmas.{reads_so, none_shown}
use Rattle.operator_reading.proofs.reads.reads_back.Goals as goal

pub returns-then-shows_term : goal.returns-then-shows_term
returns-then-shows_term c = reads_so (focus c.args.node.now) c.is_reading.result (sym c.shows_term.ensures ∙ c.if-shows_term.true) c.is_reading.ensures

pub returns-else-shows_term : goal.returns-else-shows_term
returns-else-shows_term c = none_shown (focus c.args.node.now) (sym c.shows_term.ensures ∙ c.if-shows_term.false)
