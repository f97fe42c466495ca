-- `AnyAttr`: the node of each variant, that its kind is one of the enum's, and words of clauses.
-- Made by `tools/views` from `views.txt`.
use Rattle.std.specs.Prelude.{◌≡◌, Bool, true, Option, option_map}
use Rattle.std.proofs.Common.{refl}
use Rattle.syntax_kind.specs.declared.syntax_kind.SyntaxKind.{SyntaxKind}
use Rattle.syntax_kind.specs.declared.syntax_kind.SyntaxKind.TheVariants.{Node}
use Rattle.syntax_kind.specs.declared.syntax_kind.node_kind.NodeKind.TheVariants as kind
use Rattle.tree_model.specs.Cursor.{Cursor}
use Rattle.ras_node.specs.Nodes.{kind_at}
use Rattle.ras_node.specs.KindSets.{by_number}
use Rattle.ra_ap_syntax.specs.declared.ast.views.any_attr.AnyAttr.{AnyAttr}
use Rattle.ra_ap_syntax.specs.declared.ast.views.any_attr.AnyAttr.TheVariants.{Attr, DocComment}
use Rattle.ras_node.specs.Sets.{is_any_attr}

abbrev pub any_attr_node : AnyAttr → Cursor
any_attr_node (Attr it) = it.syntax
any_attr_node (DocComment it) = it.syntax

-- its kind is one of these
pub any_attr_castable : (it : AnyAttr) → is_any_attr (kind_at (any_attr_node it)) ≡ true
any_attr_castable (Attr it) = by_number is_any_attr _ (Node kind.ATTR) it.is refl
any_attr_castable (DocComment it) = by_number is_any_attr _ (Node kind.DOC_COMMENT) it.is refl

abbrev pub any_attr_kinds : SyntaxKind → Bool
any_attr_kinds = is_any_attr

-- r is the view of the node at c as an `AnyAttr`; there is none if there is no node
abbrev pub IsAnyAttr : Option Cursor → Option AnyAttr → Type 0
IsAnyAttr c r = option_map any_attr_node r ≡ c
