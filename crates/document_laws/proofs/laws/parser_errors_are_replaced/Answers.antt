use Rattle.document_laws.proofs.Errors.{rest_shifted, all_replaced}
use Rattle.document_laws.proofs.Faults.{errors_replaced}
use Rattle.document_laws.proofs.laws.parser_errors_are_replaced.Goals as goal

pub returns-clause-parser : goal.returns-clause-parser
returns-clause-parser z e a w q c ts us k r was now edit i x y d chosen few few_new shift =
    errors_replaced e a w q c ts us k r was now edit i x y d chosen few few_new shift

pub returns-clause-rest : goal.returns-clause-rest
returns-clause-rest z a w q edit is from forwards within n = rest_shifted a w q edit is from forwards within n

pub returns-clause-all : goal.returns-clause-all
returns-clause-all z e a w q c ts us k r was now edit i x y d chosen few few_new shift quiet =
    all_replaced e a w q c ts us k r was now edit i x y d chosen few few_new shift quiet
