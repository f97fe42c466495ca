use Rattle.std.proofs.Common.{sym, subst, ◌∙◌}
use Rattle.ras_front_end.specs.Keeps.{Keeps}
use Rattle.rust_front.specs.Tops.{IsTopRoot}
use Rattle.rust_front.specs.TopLaws.{point_keeps}
use Rattle.rust_front.proofs.Tops.{top_is}
use Rattle.rust_front.proofs.top.TopEntryPoint.parse.Goals as goal

pub returns-clause-parsed : goal.returns-clause-parsed
returns-clause-parsed c =
    c.in_ok-output.ensures ∙ top_is c.args.self c.args.edition c.args.text.now

pub returns-clause-keeps : goal.returns-clause-keeps
returns-clause-keeps c = λ l.
    subst (Keeps (IsTopRoot c.args.self) c.args.text.now) (sym c.in_ok-output.ensures)
    (point_keeps c.args.self c.args.edition c.args.text.now c.utf8.text l)
