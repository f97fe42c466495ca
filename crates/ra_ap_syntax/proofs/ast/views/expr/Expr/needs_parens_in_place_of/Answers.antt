use Rattle.std.proofs.Common.{ap, ◌∙◌}
use Rattle.tree_model.specs.Cursor.{focus}
use Rattle.operator_trees.specs.Shown.{meaning}
use Rattle.ra_ap_syntax.proofs.ast.views.expr.Expr.needs_parens_in_place_of.Goals as goal

pub returns-clause-fits : goal.returns-clause-fits
returns-clause-fits c = λ r t s i q held shows is at above self.
    c.needs_parens_in_place_of.ensures.fits r t s i q held shows is at above (ap (λ n. meaning (focus n)) c.syntax.ensures ∙ self)

pub returns-clause-pairs : goal.returns-clause-pairs
returns-clause-pairs c = λ r t i q d e shows is at above self reads stands.
    c.needs_parens_in_place_of.ensures.pairs r t i q d e shows is at above (ap (λ n. meaning (focus n)) c.syntax.ensures ∙ self) reads stands
