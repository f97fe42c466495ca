use Rattle.std.proofs.Common.{◌≡◌, ◌&&◌, true, sym, ap, ◌∙◌}
use Rattle.syntax_kind.specs.declared.syntax_kind.SyntaxKind.TheVariants.{Node}
use Rattle.syntax_kind.specs.declared.syntax_kind.node_kind.NodeKind.TheVariants as kind
use Rattle.ras_node.specs.Nodes.{is_of_kind}
use Rattle.ras_prec_walks.specs.declared.along.Meant.TheVariants.{BehindDots}
use Rattle.ras_prec_walks.specs.declared.along.Toward.TheVariants.{Block}
use Rattle.ras_prec_walks.specs.Along.{meant_child, passes}
use Rattle.ras_prec_walks.specs.Parts.{is_block_at}
use Rattle.ras_prec_walks.specs.Turns.{reaches}
use Rattle.ras_prec_walks.proofs.Operands.{block_behind_dots}
use Rattle.ras_prec_walks.proofs.parts.range_ends_in_block.Goals as goal

pub returns-then-is_of_kind : goal.returns-then-is_of_kind
returns-then-is_of_kind c =
    let range : is_of_kind (Node kind.RANGE_EXPR) c.args.node.now ≡ true = sym c.is_of_kind.ensures ∙ c.if-is_of_kind.true in
    c.reaches.ensures
    ∙ ap (λ s. reaches Block BehindDots s.trees) c.trees.ensures
    ∙ block_behind_dots c.args.node.now
    ∙ ap (λ b. b && passes is_block_at (meant_child BehindDots c.args.node.now)) (sym range)
