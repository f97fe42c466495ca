use Rattle.std.proofs.Common.{◌≡◌, ◌&&◌, ◌||◌, true, false, sym, ap, ◌∙◌}
use Rattle.tree_model.specs.Tree.{forest_of_children}
use Rattle.tree_model.specs.Cursor.{focus}
use Rattle.ras_node.specs.Nodes.{kind_at}
use Rattle.ras_prec_walks.specs.declared.along.Toward.TheVariants.{End}
use Rattle.ras_prec_walks.specs.Along.{ends_with_operand, last_operand, meant_ends}
use Rattle.ras_prec_walks.specs.Turns.{goes_on, is_found, reaches}
use Rattle.ras_prec_walks.proofs.Operands.{ends_so}
use Rattle.ras_prec_walks.proofs.along.ends_in_brace.Goals as goal

pub returns-then-goes_on : goal.returns-then-goes_on
returns-then-goes_on c =
    let goes : goes_on End (kind_at c.args.node.now) ≡ true = ap (goes_on End) (sym c.kind-kind.ensures) ∙ sym c.goes_on.ensures ∙ c.if-goes_on.true in
    let none : is_found End (kind_at c.args.node.now) ≡ false = ap (is_found End) (sym c.kind-kind.ensures) ∙ sym c.is_found.ensures ∙ c.if-is_found.false in
    c.reaches.ensures
    ∙ ap (λ m. reaches End m c.trees.result.trees) c.operand.ensures
    ∙ ap (λ k. reaches End (last_operand k) c.trees.result.trees) c.kind-kind.ensures
    ∙ ap (λ s. reaches End (last_operand (kind_at c.args.node.now)) s.trees) c.trees.ensures
    ∙ ends_so (last_operand (kind_at c.args.node.now)) (forest_of_children (focus c.args.node.now))
    ∙ ap (λ b. b && meant_ends (last_operand (kind_at c.args.node.now)) (forest_of_children (focus c.args.node.now))) (sym goes)
    ∙ ap (λ b. b || (ends_with_operand (kind_at c.args.node.now) && meant_ends (last_operand (kind_at c.args.node.now)) (forest_of_children (focus c.args.node.now)))) (sym none)
