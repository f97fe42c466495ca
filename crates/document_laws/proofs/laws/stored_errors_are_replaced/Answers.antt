use Rattle.document_laws.proofs.Storing.{stored_replaced}
use Rattle.document_laws.proofs.laws.stored_errors_are_replaced.Goals as goal

pub returns : goal.returns
returns x e a part piece c ts ps us edit r early quiet = stored_replaced e a part piece c ts ps us edit r early quiet
