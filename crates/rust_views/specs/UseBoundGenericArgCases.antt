-- `UseBoundGenericArg`: its kinds by their raw numbers, the node of each variant, and words of
-- clauses. Made by `tools/views` from `views.txt`.
use Rattle.std.specs.Prelude.{◌≡◌, ◌||◌, Bool, true, ℕ, nat_eq, Option, option_map}
use Rattle.std.proofs.lemmas.Bool.{eq-eqb}
use Rattle.syntax_kind.specs.declared.syntax_kind.SyntaxKind.{SyntaxKind}
use Rattle.syntax_kind.specs.Kinds.{kind_raw}
use Rattle.syntax_kind.specs.declared.raw.TheConstants.{LIFETIME, NAME_REF}
use Rattle.tree_model.specs.Cursor.{Cursor}
use Rattle.ras_node.specs.Nodes.{kind_at}
use Rattle.rust_views.specs.Sides.{or_left, or_right}
use Rattle.rust_views.specs.declared.enums.use_bound_generic_arg.UseBoundGenericArg.{UseBoundGenericArg}
use Rattle.rust_views.specs.declared.enums.use_bound_generic_arg.UseBoundGenericArg.TheVariants.{Lifetime, NameRef}

abbrev is_use_bound_generic_arg_number : ℕ → Bool
is_use_bound_generic_arg_number n = nat_eq n LIFETIME || nat_eq n NAME_REF

abbrev pub is_use_bound_generic_arg : SyntaxKind → Bool
is_use_bound_generic_arg kind = is_use_bound_generic_arg_number (kind_raw kind)

abbrev pub use_bound_generic_arg_node : UseBoundGenericArg → Cursor
use_bound_generic_arg_node (Lifetime it) = it.syntax
use_bound_generic_arg_node (NameRef it) = it.syntax

-- its kind is one of these
pub use_bound_generic_arg_castable : (it : UseBoundGenericArg) →
    is_use_bound_generic_arg (kind_at (use_bound_generic_arg_node it)) ≡ true
use_bound_generic_arg_castable (Lifetime it) = or_left _ _ (eq-eqb _ _ it.is)
use_bound_generic_arg_castable (NameRef it) = or_right _ _ (eq-eqb _ _ it.is)

abbrev pub use_bound_generic_arg_kinds : SyntaxKind → Bool
use_bound_generic_arg_kinds = is_use_bound_generic_arg

-- r is the view of the node at c as a `UseBoundGenericArg`; there is none if there is no node
abbrev pub IsUseBoundGenericArg : Option Cursor → Option UseBoundGenericArg → Type 0
IsUseBoundGenericArg c r = option_map use_bound_generic_arg_node r ≡ c
