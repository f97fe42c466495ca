use Rattle.operator_pairs.proofs.Ties.{fits_so, pairs_so}
use Rattle.operator_terms.specs.Term.{Paren}
use Rattle.ras_prec.proofs.Agree.{operand_asked}
use Rattle.ras_prec.proofs.rules.needs_parens_in_place_of.Goals as goal

pub returns-clause-fits : goal.returns-clause-fits
returns-clause-fits c = λ r t s i q held shows is at above self.
    fits_so r t s i q held c.args.parent.now c.args.own.now c.args.place.now c.asks.result
    (operand_asked r t s i q held c.args.own.now c.args.parent.now c.args.place.now c.asks.result c.asks.ensures shows is at above self)
    shows is at above self

pub returns-clause-pairs : goal.returns-clause-pairs
returns-clause-pairs c = λ r t i q d e shows is at above self reads stands.
    pairs_so r t i q d e c.args.parent.now c.args.own.now c.args.place.now c.asks.result
    (operand_asked r t e i q (record { demand = d; term = Paren e }) c.args.own.now c.args.parent.now c.args.place.now c.asks.result c.asks.ensures shows is at above self)
    shows is at above self reads stands
