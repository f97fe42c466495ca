use Rattle.std.proofs.Common.{subst}
use Rattle.std.specs.Str.{chars}
use Rattle.literal_escape.specs.Pieces.{CalledOnEach}
use Rattle.literal_escape.specs.Reading.{reports_in}
use Rattle.ras_token_ext.specs.Units.{shown}
use Rattle.ras_tokens.proofs.token_ext.is_string.IsString.unescape.Goals as goal

pub returns : goal.returns
returns g c = subst (λ m. CalledOnEach (shown m) (λ f range unit h. goal.F-step g f range unit tt h) c.args.callback c.unescape.result (reports_in m (chars c.args.content.now))) c.mode.ensures c.unescape.ensures
