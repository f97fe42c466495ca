-- `Meta`: the node of each variant, that its kind is one of the enum's, and words of clauses. Made
-- by `tools/views` from `views.txt`.
use Rattle.std.specs.Prelude.{◌≡◌, Bool, true, Option, option_map}
use Rattle.std.proofs.Common.{refl}
use Rattle.syntax_kind.specs.declared.syntax_kind.SyntaxKind.{SyntaxKind}
use Rattle.syntax_kind.specs.declared.syntax_kind.SyntaxKind.TheVariants.{Node}
use Rattle.syntax_kind.specs.declared.syntax_kind.node_kind.NodeKind.TheVariants as kind
use Rattle.tree_model.specs.Cursor.{Cursor}
use Rattle.ras_node.specs.Nodes.{kind_at, typed_child}
use Rattle.ras_node.specs.KindSets.{by_number}
use Rattle.ra_ap_syntax.specs.declared.ast.views.meta.Meta.{Meta}
use Rattle.ra_ap_syntax.specs.declared.ast.views.meta.Meta.TheVariants.{CfgAttrMeta, CfgMeta, KeyValueMeta, PathMeta, TokenTreeMeta, UnsafeMeta}
use Rattle.ras_node.specs.Sets.{is_meta}

abbrev pub meta_node : Meta → Cursor
meta_node (CfgAttrMeta it) = it.syntax
meta_node (CfgMeta it) = it.syntax
meta_node (KeyValueMeta it) = it.syntax
meta_node (PathMeta it) = it.syntax
meta_node (TokenTreeMeta it) = it.syntax
meta_node (UnsafeMeta it) = it.syntax

-- its kind is one of these
pub meta_castable : (it : Meta) → is_meta (kind_at (meta_node it)) ≡ true
meta_castable (CfgAttrMeta it) = by_number is_meta _ (Node kind.CFG_ATTR_META) it.is refl
meta_castable (CfgMeta it) = by_number is_meta _ (Node kind.CFG_META) it.is refl
meta_castable (KeyValueMeta it) = by_number is_meta _ (Node kind.KEY_VALUE_META) it.is refl
meta_castable (PathMeta it) = by_number is_meta _ (Node kind.PATH_META) it.is refl
meta_castable (TokenTreeMeta it) = by_number is_meta _ (Node kind.TOKEN_TREE_META) it.is refl
meta_castable (UnsafeMeta it) = by_number is_meta _ (Node kind.UNSAFE_META) it.is refl

abbrev pub meta_kinds : SyntaxKind → Bool
meta_kinds = is_meta

-- r is the view of the node at c as a `Meta`; there is none if there is no node
abbrev pub IsMeta : Option Cursor → Option Meta → Type 0
IsMeta c r = option_map meta_node r ≡ c

abbrev pub IsFirstMeta : Cursor → Option Meta → Type 0
IsFirstMeta c r = IsMeta (typed_child meta_kinds c) r
