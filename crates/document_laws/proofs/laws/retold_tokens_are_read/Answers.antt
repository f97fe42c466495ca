use Rattle.document_laws.proofs.Retold.{by_token}
use Rattle.document_laws.proofs.laws.retold_tokens_are_read.Goals as goal

pub returns : goal.returns
returns x e old new before count edit u ins is_edit short was c w path is =
    by_token x.plain_texts_have_no_head.ensures.ends x.leaves_begin_in_tokens.ensures x.retold_tokens_are_laid.ensures
    x.windows_are_replaced.ensures x.retold_windows_are_alike.ensures
    e old new before count edit u ins is_edit short was c w path is
