-- `NameLike`: the node of each variant, that its kind is one of the enum's, and words of clauses.
-- Made by `tools/views` from `views.txt`.
use Rattle.std.specs.Prelude.{◌≡◌, Bool, true, Option, option_map}
use Rattle.std.proofs.Common.{refl}
use Rattle.syntax_kind.specs.declared.syntax_kind.SyntaxKind.{SyntaxKind}
use Rattle.syntax_kind.specs.declared.syntax_kind.SyntaxKind.TheVariants.{Node}
use Rattle.syntax_kind.specs.declared.syntax_kind.node_kind.NodeKind.TheVariants as kind
use Rattle.tree_model.specs.Cursor.{Cursor}
use Rattle.ras_node.specs.Nodes.{kind_at}
use Rattle.ras_node.specs.KindSets.{by_number}
use Rattle.ra_ap_syntax.specs.declared.ast.views.name_like.NameLike.{NameLike}
use Rattle.ra_ap_syntax.specs.declared.ast.views.name_like.NameLike.TheVariants.{NameRef, Name, Lifetime}
use Rattle.ras_node.specs.Sets.{is_name_like}

abbrev pub name_like_node : NameLike → Cursor
name_like_node (NameRef it) = it.syntax
name_like_node (Name it) = it.syntax
name_like_node (Lifetime it) = it.syntax

-- its kind is one of these
pub name_like_castable : (it : NameLike) → is_name_like (kind_at (name_like_node it)) ≡ true
name_like_castable (NameRef it) = by_number is_name_like _ (Node kind.NAME_REF) it.is refl
name_like_castable (Name it) = by_number is_name_like _ (Node kind.NAME) it.is refl
name_like_castable (Lifetime it) = by_number is_name_like _ (Node kind.LIFETIME) it.is refl

abbrev pub name_like_kinds : SyntaxKind → Bool
name_like_kinds = is_name_like

-- r is the view of the node at c as a `NameLike`; there is none if there is no node
abbrev pub IsNameLike : Option Cursor → Option NameLike → Type 0
IsNameLike c r = option_map name_like_node r ≡ c
