use Rattle.tree_model.specs.Cursor.{focus}
use Rattle.operator_powers.proofs.Cursors.{not_foreign}
use Rattle.operator_pairs.proofs.Ties.{fits_so, pairs_so}
use Rattle.operator_pairs.proofs.test.needs_parens_in_place_of.Goals as goal

pub returns-clause-fits : goal.returns-clause-fits
returns-clause-fits c = λ r t s i q held shows is at above self.
    fits_so r t s i q held c.args.parent.now c.args.own.now c.args.place.now c.is_asked.result (c.is_asked.ensures.asks above (not_foreign (focus c.args.own.now) s self)) shows is at above self

pub returns-clause-pairs : goal.returns-clause-pairs
returns-clause-pairs c = λ r t i q d e shows is at above self reads stands.
    pairs_so r t i q d e c.args.parent.now c.args.own.now c.args.place.now c.is_asked.result (c.is_asked.ensures.asks above (not_foreign (focus c.args.own.now) e self)) shows is at above self reads stands
