use Rattle.std.proofs.Common.{ap, ◌∙◌}
use Rattle.tree_model.specs.Cursor.{parent_of}
use Rattle.ra_ap_syntax.proofs.ast.views.expr.Expr.needs_parens_in.Goals as goal

pub returns-clause-fits : goal.returns-clause-fits
returns-clause-fits c = λ r t i q held shows is at above.
    c.needs_parens_in.ensures.fits r t i q held shows is (c.syntax.ensures ∙ at) (ap parent_of c.syntax.ensures ∙ above)

pub returns-clause-alone : goal.returns-clause-alone
returns-clause-alone c = λ r t i q held shows is at above angle.
    c.needs_parens_in.ensures.alone r t i q held shows is (c.syntax.ensures ∙ at) (ap parent_of c.syntax.ensures ∙ above) angle
