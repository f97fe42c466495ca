-- `NameOrNameRef`: the node of each variant, that its kind is one of the enum's, and words of
-- clauses. Made by `tools/views` from `views.txt`.
use Rattle.std.specs.Prelude.{◌≡◌, Bool, true, Option, option_map}
use Rattle.std.proofs.Common.{refl}
use Rattle.syntax_kind.specs.declared.syntax_kind.SyntaxKind.{SyntaxKind}
use Rattle.syntax_kind.specs.declared.syntax_kind.SyntaxKind.TheVariants.{Node}
use Rattle.syntax_kind.specs.declared.syntax_kind.node_kind.NodeKind.TheVariants as kind
use Rattle.tree_model.specs.Cursor.{Cursor}
use Rattle.ras_node.specs.Nodes.{kind_at}
use Rattle.ras_node.specs.KindSets.{by_number}
use Rattle.ra_ap_syntax.specs.declared.ast.views.name_or_name_ref.NameOrNameRef.{NameOrNameRef}
use Rattle.ra_ap_syntax.specs.declared.ast.views.name_or_name_ref.NameOrNameRef.TheVariants.{Name, NameRef}
use Rattle.ras_node.specs.Sets.{is_name_or_name_ref}

abbrev pub name_or_name_ref_node : NameOrNameRef → Cursor
name_or_name_ref_node (Name it) = it.syntax
name_or_name_ref_node (NameRef it) = it.syntax

-- its kind is one of these
pub name_or_name_ref_castable : (it : NameOrNameRef) → is_name_or_name_ref (kind_at (name_or_name_ref_node it)) ≡ true
name_or_name_ref_castable (Name it) = by_number is_name_or_name_ref _ (Node kind.NAME) it.is refl
name_or_name_ref_castable (NameRef it) = by_number is_name_or_name_ref _ (Node kind.NAME_REF) it.is refl

abbrev pub name_or_name_ref_kinds : SyntaxKind → Bool
name_or_name_ref_kinds = is_name_or_name_ref

-- r is the view of the node at c as a `NameOrNameRef`; there is none if there is no node
abbrev pub IsNameOrNameRef : Option Cursor → Option NameOrNameRef → Type 0
IsNameOrNameRef c r = option_map name_or_name_ref_node r ≡ c
