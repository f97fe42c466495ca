use Rattle.std.proofs.Common.{ap, subst, ◌∙◌}
use Rattle.ras_front_end.specs.Reading.{IsGiven}
use Rattle.rust_front.specs.Tops.{read_at}
use Rattle.rust_front.proofs.Tops.{entry_is}
use Rattle.rust_front.proofs.front.parse_into.Goals as goal

pub returns : goal.returns
returns g c =
    subst (IsGiven g.S.StepSink.took c.in_ok-given.given.0 c.in_ok-given.given.1.items)
    (ap (λ p. read_at p c.args.edition c.args.text.now) c.of.ensures ∙ entry_is c.args.entry c.args.edition c.args.text.now) c.in_ok-given.ensures
