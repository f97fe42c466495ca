use Rattle.ras_prec.proofs.Headline.{fits_so, tied_so}
use Rattle.ras_prec.proofs.needless.reads_back.Goals as goal

pub returns-clause-fits : goal.returns-clause-fits
returns-clause-fits c = fits_so c.args.node.now c.reads_back.result c.reads_back.ensures

pub returns-clause-tied : goal.returns-clause-tied
returns-clause-tied c = tied_so c.args.node.now c.reads_back.result c.reads_back.ensures
