use Rattle.std.proofs.Common.{subst}
use Rattle.tree_model.specs.Cursor.{focus}
use Rattle.operator_trees.specs.Shown.{shown}
use Rattle.operator_reading.specs.Reads.{ReadsBack}
use Rattle.ras_prec.proofs.Headline.{fits_so, tied_so}
use Rattle.ra_ap_syntax.specs.ExprCases.{expr_node}
use Rattle.ra_ap_syntax.proofs.ast.prec.reads_back.Goals as goal

pub returns-clause-fits : goal.returns-clause-fits
returns-clause-fits c =
    fits_so (expr_node c.args.expr.now) c.reads_back.result
    (subst (λ n. ReadsBack c.reads_back.result (shown (focus n))) c.syntax.ensures c.reads_back.ensures.reads)

pub returns-clause-tied : goal.returns-clause-tied
returns-clause-tied c =
    tied_so (expr_node c.args.expr.now) c.reads_back.result
    (subst (λ n. ReadsBack c.reads_back.result (shown (focus n))) c.syntax.ensures c.reads_back.ensures.reads)
