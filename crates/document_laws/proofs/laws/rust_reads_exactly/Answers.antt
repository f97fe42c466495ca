use Rattle.document_laws.proofs.Exactly.{exactly}
use Rattle.document_laws.proofs.laws.rust_reads_exactly.Goals as goal

pub returns : goal.returns
returns c e old new before count edit range u v is_edit short was made =
    exactly c.calls_make_their_own.ensures c.sealed_calls_leave_nothing.ensures
    c.plain_texts_have_no_head.ensures.plain c.plain_texts_have_no_head.ensures.ends
    c.leaves_begin_in_tokens.ensures c.retold_tokens_are_laid.ensures
    c.windows_are_replaced.ensures c.retold_windows_are_alike.ensures
    e old new before count edit range u v is_edit short was made
