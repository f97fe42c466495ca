use Rattle.document_laws.proofs.Begun.{calls_begin}
use Rattle.document_laws.proofs.laws.calls_begin_with_their_token.Goals as goal

pub returns : goal.returns
returns x g ts k s c t own there makes = calls_begin g ts k s c t own there makes
