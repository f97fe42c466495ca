-- `VariantDef`: its kinds by their raw numbers, the node of each variant, and words of clauses.
-- Made by `tools/views` from `views.txt`.
use Rattle.std.specs.Prelude.{◌≡◌, ◌||◌, Bool, true, ℕ, nat_eq, Option, option_map}
use Rattle.std.proofs.lemmas.Bool.{eq-eqb}
use Rattle.syntax_kind.specs.declared.syntax_kind.SyntaxKind.{SyntaxKind}
use Rattle.syntax_kind.specs.Kinds.{kind_raw}
use Rattle.syntax_kind.specs.declared.raw.TheConstants.{STRUCT, UNION, VARIANT}
use Rattle.tree_model.specs.Cursor.{Cursor}
use Rattle.ras_node.specs.Nodes.{kind_at}
use Rattle.rust_views.specs.Sides.{or_left, or_right}
use Rattle.rust_views.specs.declared.enums.variant_def.VariantDef.{VariantDef}
use Rattle.rust_views.specs.declared.enums.variant_def.VariantDef.TheVariants.{Struct, Union, Variant}

abbrev is_variant_def_number : ℕ → Bool
is_variant_def_number n = nat_eq n STRUCT || (nat_eq n UNION || nat_eq n VARIANT)

abbrev pub is_variant_def : SyntaxKind → Bool
is_variant_def kind = is_variant_def_number (kind_raw kind)

abbrev pub variant_def_node : VariantDef → Cursor
variant_def_node (Struct it) = it.syntax
variant_def_node (Union it) = it.syntax
variant_def_node (Variant it) = it.syntax

-- its kind is one of these
pub variant_def_castable : (it : VariantDef) → is_variant_def (kind_at (variant_def_node it)) ≡ true
variant_def_castable (Struct it) = or_left _ _ (eq-eqb _ _ it.is)
variant_def_castable (Union it) = or_right _ _ (or_left _ _ (eq-eqb _ _ it.is))
variant_def_castable (Variant it) = or_right _ _ (or_right _ _ (eq-eqb _ _ it.is))

abbrev pub variant_def_kinds : SyntaxKind → Bool
variant_def_kinds = is_variant_def

-- r is the view of the node at c as a `VariantDef`; there is none if there is no node
abbrev pub IsVariantDef : Option Cursor → Option VariantDef → Type 0
IsVariantDef c r = option_map variant_def_node r ≡ c
