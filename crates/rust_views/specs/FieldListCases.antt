-- `FieldList`: its kinds by their raw numbers, the node of each variant, and words of clauses. Made
-- by `tools/views` from `views.txt`.
use Rattle.std.specs.Prelude.{◌≡◌, ◌||◌, Bool, true, ℕ, nat_eq, Option, option_map}
use Rattle.std.proofs.lemmas.Bool.{eq-eqb}
use Rattle.syntax_kind.specs.declared.syntax_kind.SyntaxKind.{SyntaxKind}
use Rattle.syntax_kind.specs.Kinds.{kind_raw}
use Rattle.syntax_kind.specs.declared.raw.TheConstants.{RECORD_FIELD_LIST, TUPLE_FIELD_LIST}
use Rattle.tree_model.specs.Cursor.{Cursor}
use Rattle.ras_node.specs.Nodes.{kind_at, typed_child}
use Rattle.rust_views.specs.Sides.{or_left, or_right}
use Rattle.rust_views.specs.declared.enums.field_list.FieldList.{FieldList}
use Rattle.rust_views.specs.declared.enums.field_list.FieldList.TheVariants.{RecordFieldList, TupleFieldList}

abbrev is_field_list_number : ℕ → Bool
is_field_list_number n = nat_eq n RECORD_FIELD_LIST || nat_eq n TUPLE_FIELD_LIST

abbrev pub is_field_list : SyntaxKind → Bool
is_field_list kind = is_field_list_number (kind_raw kind)

abbrev pub field_list_node : FieldList → Cursor
field_list_node (RecordFieldList it) = it.syntax
field_list_node (TupleFieldList it) = it.syntax

-- its kind is one of these
pub field_list_castable : (it : FieldList) → is_field_list (kind_at (field_list_node it)) ≡ true
field_list_castable (RecordFieldList it) = or_left _ _ (eq-eqb _ _ it.is)
field_list_castable (TupleFieldList it) = or_right _ _ (eq-eqb _ _ it.is)

abbrev pub field_list_kinds : SyntaxKind → Bool
field_list_kinds = is_field_list

-- r is the view of the node at c as a `FieldList`; there is none if there is no node
abbrev pub IsFieldList : Option Cursor → Option FieldList → Type 0
IsFieldList c r = option_map field_list_node r ≡ c

abbrev pub IsFirstFieldList : Cursor → Option FieldList → Type 0
IsFirstFieldList c r = IsFieldList (typed_child field_list_kinds c) r
