use Rattle.document_laws.proofs.Around.{tokens_replaced}
use Rattle.document_laws.proofs.laws.tokens_are_replaced.Goals as goal

pub returns : goal.returns
returns c e text ts ps us u small head tokens opens = tokens_replaced e text ts ps us u small head tokens opens
