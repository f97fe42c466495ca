use Rattle.std.proofs.Common.{ap, ◌∙◌}
use Rattle.tree_model.specs.Tree.{kind_of}
use Rattle.tree_model.specs.Cursor.{focus}
use Rattle.operator_trees.specs.Shown.{is_right, means}
use Rattle.operator_trees.specs.Shape.{assumed}
use Rattle.operator_trees.specs.Forms.{form_of}
use Rattle.operator_reading.proofs.Nodes.{shape_told}
use Rattle.operator_reading.proofs.shape.has_shape.Goals as goal

pub returns : goal.returns
returns c = c.form_fits.ensures
    ∙ ap (λ f. is_right (means f (assumed c.trees.result.trees))) (c.form_of.ensures ∙ ap form_of c.kind.ensures)
    ∙ ap (λ s. is_right (means (form_of (kind_of (focus c.args.node.now))) (assumed s.trees))) c.trees.ensures
    ∙ shape_told (focus c.args.node.now) c.requires
