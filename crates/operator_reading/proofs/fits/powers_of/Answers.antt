use Rattle.std.proofs.Common.{◌∙◌}
use Rattle.operator_reading.proofs.Nodes.{powers_anywhere}
use Rattle.operator_reading.proofs.fits.powers_of.Goals as goal

pub returns : goal.returns
returns c = c.form_powers.ensures ∙ powers_anywhere c.args.form c.args.trees.now.trees c.args.trees.now.start 0
