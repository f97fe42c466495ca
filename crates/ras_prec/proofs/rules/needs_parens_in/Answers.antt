use Rattle.std.proofs.Common.{ap, ◌∙◌, ◌∷◌}
use Rattle.tree_model.specs.Cursor.{focus}
use Rattle.operator_trees.specs.Shown.{meaning}
use Rattle.operator_pairs.proofs.Asked.{operand_shown}
use Rattle.operator_pairs.proofs.Ties.{fits_in_term}
use Rattle.ras_prec.proofs.rules.needs_parens_in.Goals as goal

pub returns-clause-fits : goal.returns-clause-fits
returns-clause-fits c = λ r t i q held shows is at above.
    c.needs_parens_in_place_of.ensures.fits r t held.term i q held shows is at above (ap (λ o. meaning (focus o)) at ∙ operand_shown r t (i ∷ q) held shows is)

pub returns-clause-alone : goal.returns-clause-alone
returns-clause-alone c = λ r t i q held shows is at above angle.
    let f = c.needs_parens_in_place_of.ensures.fits r t held.term i q held shows is at above (ap (λ o. meaning (focus o)) at ∙ operand_shown r t (i ∷ q) held shows is) in
    let g = fits_in_term r t (i ∷ q) held is angle in
    ((λ h. g.0 (f.0 h)), (λ h. f.1 (g.1 h)))
