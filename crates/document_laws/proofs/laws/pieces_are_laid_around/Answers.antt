use Rattle.document_laws.proofs.Setting.{laid_around}
use Rattle.document_laws.proofs.laws.pieces_are_laid_around.Goals as goal

pub returns : goal.returns
returns c e a w q r ts us t p k s was now o x y h front is_q is_new short few few_new own_few own_few_new =
    laid_around c.calls_make_their_own.ensures c.plain_texts_have_no_head.ensures.ends
    e a w q r ts us t p k s was now o x y h front is_q is_new short few few_new own_few own_few_new
