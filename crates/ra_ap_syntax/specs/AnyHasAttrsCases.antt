-- The kinds of nodes that can have attributes.
use Rattle.std.specs.Prelude.{◌≡◌, true, ◌||◌}
use Rattle.ras_node.specs.Sets.{has_attrs, has_own_attrs, is_expr, is_generic_param}
use Rattle.std.proofs.Common.{ap}
use Rattle.ras_node.specs.Nodes.{kind_at}
use Rattle.ra_ap_syntax.specs.ItemCases.{item_node, item_castable}
use Rattle.ra_ap_syntax.specs.declared.ast.views.item.Item.{Item}

pub item_has_attrs : (it : Item) → has_attrs (kind_at (item_node it)) ≡ true
item_has_attrs it =
    ap (λ b. b || (is_expr (kind_at (item_node it)) || (is_generic_param (kind_at (item_node it)) || has_own_attrs (kind_at (item_node it))))) (item_castable it)
