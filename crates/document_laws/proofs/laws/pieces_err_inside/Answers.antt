use Rattle.document_laws.proofs.Erring.{errs_inside}
use Rattle.document_laws.proofs.laws.pieces_err_inside.Goals as goal

pub returns : goal.returns
returns z e a w c ts us k r reading i x chosen few = errs_inside e a w c ts us k r reading i x chosen few
