use Rattle.document_laws.proofs.Sole.{one_parse}
use Rattle.document_laws.proofs.laws.texts_have_one_parse.Goals as goal

pub returns : goal.returns
returns x front edition s p q m n was now = one_parse front edition s p q m n was now
