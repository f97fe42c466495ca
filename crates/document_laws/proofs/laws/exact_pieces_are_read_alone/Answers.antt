use Rattle.document_laws.proofs.Alone.{exact_alone, heads_tested}
use Rattle.document_laws.proofs.laws.exact_pieces_are_read_alone.Goals as goal

pub returns-clause-pieces : goal.returns-clause-pieces
returns-clause-pieces c e text k r reading u small few chosen is =
    exact_alone c.sealed_calls_leave_nothing.ensures e text k r reading u small few chosen is

pub returns-clause-heads : goal.returns-clause-heads
returns-clause-heads c text = heads_tested text
