use Rattle.document_laws.proofs.Windows.{windows_around}
use Rattle.document_laws.proofs.laws.windows_are_around_tokens.Goals as goal

pub returns : goal.returns
returns c s before old behind edit e from forwards to = windows_around s before old behind edit e from forwards to
