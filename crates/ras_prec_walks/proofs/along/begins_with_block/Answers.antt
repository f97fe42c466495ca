use Rattle.std.proofs.Common.{◌≡◌, ◌&&◌, true, sym, ap, ◌∙◌}
use Rattle.tree_model.specs.Tree.{forest_of_children}
use Rattle.tree_model.specs.Cursor.{focus}
use Rattle.ras_node.specs.Nodes.{kind_at}
use Rattle.ras_prec_walks.specs.declared.along.Meant.TheVariants.{First}
use Rattle.ras_prec_walks.specs.declared.along.Toward.TheVariants.{Start}
use Rattle.ras_prec_walks.specs.Along.{first_begins}
use Rattle.ras_prec_walks.specs.Turns.{goes_on, reaches}
use Rattle.ras_prec_walks.proofs.Operands.{begins_so}
use Rattle.ras_prec_walks.proofs.along.begins_with_block.Goals as goal

pub returns-then-goes_on : goal.returns-then-goes_on
returns-then-goes_on c =
    let goes : goes_on Start (kind_at c.args.node.now) ≡ true = ap (goes_on Start) (sym c.kind-kind.ensures) ∙ sym c.goes_on.ensures ∙ c.if-goes_on.true in
    c.reaches.ensures
    ∙ ap (λ m. reaches Start m c.trees.result.trees) c.operand.ensures
    ∙ ap (λ s. reaches Start First s.trees) c.trees.ensures
    ∙ begins_so (forest_of_children (focus c.args.node.now))
    ∙ ap (λ b. b && first_begins (forest_of_children (focus c.args.node.now))) (sym goes)
