use Rattle.std.proofs.lemmas.Str.Pattern.{ends_text}
use Rattle.ras_token_ext.proofs.parts.ends_with.Goals as goal

pub returns : goal.returns
returns c = ends_text c.ends_with.result c.args.back.now c.args.text.now c.ends_with.ensures.cases
