use Rattle.std.proofs.Common.{ap, ◌∙◌, not}
use Rattle.tree_model.specs.Tree.{kind_of}
use Rattle.tree_model.specs.Cursor.{focus}
use Rattle.operator_trees.specs.Forms.{form_of}
use Rattle.operator_reading.specs.Reads.{parts_ask}
use Rattle.operator_reading.proofs.Nodes.{fits_told}
use Rattle.operator_reading.proofs.fits.node_fits.Goals as goal

pub returns : goal.returns
returns c =
    ap not (c.parts_ask.ensures
    ∙ ap (λ f. parts_ask f c.trees.result.trees) (c.form_of.ensures ∙ ap form_of c.kind.ensures)
    ∙ ap (λ s. parts_ask (form_of (kind_of (focus c.args.node.now))) s.trees) c.trees.ensures)
    ∙ fits_told (focus c.args.node.now) c.requires
