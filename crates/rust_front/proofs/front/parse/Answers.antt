use Rattle.std.proofs.Common.{ap, ◌∙◌}
use Rattle.rust_front.specs.Tops.{read_at}
use Rattle.rust_front.proofs.Tops.{entry_is}
use Rattle.rust_front.proofs.front.parse.Goals as goal

pub returns : goal.returns
returns c =
    c.in_ok-output.ensures ∙ ap (λ p. read_at p c.args.edition c.args.text.now) c.of.ensures
    ∙ entry_is c.args.entry c.args.edition c.args.text.now
