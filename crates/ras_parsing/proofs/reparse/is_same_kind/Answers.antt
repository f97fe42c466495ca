use Rattle.std.proofs.Common.{sym, ap, ◌∙◌}
use Rattle.std.proofs.lemmas.Bool.{eqb-true, eq-eqb}
use Rattle.syntax_kind.specs.Kinds.{kind_raw}
use Rattle.syntax_kind.specs.KindLaws.{kind_raw-injective}
use Rattle.ras_parsing.proofs.reparse.is_same_kind.Goals as goal

pub returns : goal.returns
returns c = (
  λ same. kind_raw-injective c.args.a c.args.b (sym c.to_raw.ensures ∙ eqb-true _ _ same ∙ c.to_raw-2.ensures),
  λ e. eq-eqb _ _ (c.to_raw.ensures ∙ ap kind_raw e ∙ sym c.to_raw-2.ensures),
)
