use Rattle.event_layout.proofs.Begun.{leaves_begin}
use Rattle.event_layout.proofs.laws.leaves_begin_in_tokens.Goals as goal

pub returns : goal.returns
returns c = leaves_begin
