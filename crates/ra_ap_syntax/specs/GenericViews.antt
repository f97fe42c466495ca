-- Words of clauses for the views of generic parameters and arguments, bounds and where clauses: the
-- kinds of each, and what is one. Made by `tools/views` from `views.txt`.
use Rattle.std.specs.Prelude.{◌≡◌, Bool, Option, nat_eq, option_map}
use Rattle.syntax_kind.specs.declared.syntax_kind.SyntaxKind.{SyntaxKind}
use Rattle.syntax_kind.specs.Kinds.{kind_raw}
use Rattle.syntax_kind.specs.declared.raw.TheConstants.{ASSOC_TYPE_ARG, CONST_ARG, CONST_PARAM, FOR_BINDER, GENERIC_ARG_LIST, GENERIC_PARAM_LIST, LIFETIME_ARG, LIFETIME_PARAM, TYPE_ARG, TYPE_BOUND, TYPE_BOUND_LIST, TYPE_PARAM, USE_BOUND_GENERIC_ARGS, WHERE_CLAUSE, WHERE_PRED}
use Rattle.tree_model.specs.Cursor.{Cursor}
use Rattle.ras_node.specs.Nodes.{typed_child}
use Rattle.ra_ap_syntax.specs.declared.ast.typed.Typed.{Typed}

abbrev pub assoc_type_arg_kinds : SyntaxKind → Bool
assoc_type_arg_kinds = λ kind. nat_eq (kind_raw kind) ASSOC_TYPE_ARG

-- r is the view of the node at c as an `AssocTypeArg`; there is none if there is no node
abbrev pub IsAssocTypeArg : Option Cursor → Option (Typed ASSOC_TYPE_ARG) → Type 0
IsAssocTypeArg c r = option_map (λ it. it.syntax) r ≡ c

abbrev pub const_arg_kinds : SyntaxKind → Bool
const_arg_kinds = λ kind. nat_eq (kind_raw kind) CONST_ARG

-- r is the view of the node at c as a `ConstArg`; there is none if there is no node
abbrev pub IsConstArg : Option Cursor → Option (Typed CONST_ARG) → Type 0
IsConstArg c r = option_map (λ it. it.syntax) r ≡ c

abbrev pub IsFirstConstArg : Cursor → Option (Typed CONST_ARG) → Type 0
IsFirstConstArg c r = IsConstArg (typed_child const_arg_kinds c) r

abbrev pub const_param_kinds : SyntaxKind → Bool
const_param_kinds = λ kind. nat_eq (kind_raw kind) CONST_PARAM

-- r is the view of the node at c as a `ConstParam`; there is none if there is no node
abbrev pub IsConstParam : Option Cursor → Option (Typed CONST_PARAM) → Type 0
IsConstParam c r = option_map (λ it. it.syntax) r ≡ c

abbrev pub for_binder_kinds : SyntaxKind → Bool
for_binder_kinds = λ kind. nat_eq (kind_raw kind) FOR_BINDER

-- r is the view of the node at c as a `ForBinder`; there is none if there is no node
abbrev pub IsForBinder : Option Cursor → Option (Typed FOR_BINDER) → Type 0
IsForBinder c r = option_map (λ it. it.syntax) r ≡ c

abbrev pub IsFirstForBinder : Cursor → Option (Typed FOR_BINDER) → Type 0
IsFirstForBinder c r = IsForBinder (typed_child for_binder_kinds c) r

abbrev pub generic_arg_list_kinds : SyntaxKind → Bool
generic_arg_list_kinds = λ kind. nat_eq (kind_raw kind) GENERIC_ARG_LIST

-- r is the view of the node at c as a `GenericArgList`; there is none if there is no node
abbrev pub IsGenericArgList : Option Cursor → Option (Typed GENERIC_ARG_LIST) → Type 0
IsGenericArgList c r = option_map (λ it. it.syntax) r ≡ c

abbrev pub IsFirstGenericArgList : Cursor → Option (Typed GENERIC_ARG_LIST) → Type 0
IsFirstGenericArgList c r = IsGenericArgList (typed_child generic_arg_list_kinds c) r

abbrev pub generic_param_list_kinds : SyntaxKind → Bool
generic_param_list_kinds = λ kind. nat_eq (kind_raw kind) GENERIC_PARAM_LIST

-- r is the view of the node at c as a `GenericParamList`; there is none if there is no node
abbrev pub IsGenericParamList : Option Cursor → Option (Typed GENERIC_PARAM_LIST) → Type 0
IsGenericParamList c r = option_map (λ it. it.syntax) r ≡ c

abbrev pub IsFirstGenericParamList : Cursor → Option (Typed GENERIC_PARAM_LIST) → Type 0
IsFirstGenericParamList c r = IsGenericParamList (typed_child generic_param_list_kinds c) r

abbrev pub lifetime_arg_kinds : SyntaxKind → Bool
lifetime_arg_kinds = λ kind. nat_eq (kind_raw kind) LIFETIME_ARG

-- r is the view of the node at c as a `LifetimeArg`; there is none if there is no node
abbrev pub IsLifetimeArg : Option Cursor → Option (Typed LIFETIME_ARG) → Type 0
IsLifetimeArg c r = option_map (λ it. it.syntax) r ≡ c

abbrev pub lifetime_param_kinds : SyntaxKind → Bool
lifetime_param_kinds = λ kind. nat_eq (kind_raw kind) LIFETIME_PARAM

-- r is the view of the node at c as a `LifetimeParam`; there is none if there is no node
abbrev pub IsLifetimeParam : Option Cursor → Option (Typed LIFETIME_PARAM) → Type 0
IsLifetimeParam c r = option_map (λ it. it.syntax) r ≡ c

abbrev pub type_arg_kinds : SyntaxKind → Bool
type_arg_kinds = λ kind. nat_eq (kind_raw kind) TYPE_ARG

-- r is the view of the node at c as a `TypeArg`; there is none if there is no node
abbrev pub IsTypeArg : Option Cursor → Option (Typed TYPE_ARG) → Type 0
IsTypeArg c r = option_map (λ it. it.syntax) r ≡ c

abbrev pub type_bound_kinds : SyntaxKind → Bool
type_bound_kinds = λ kind. nat_eq (kind_raw kind) TYPE_BOUND

-- r is the view of the node at c as a `TypeBound`; there is none if there is no node
abbrev pub IsTypeBound : Option Cursor → Option (Typed TYPE_BOUND) → Type 0
IsTypeBound c r = option_map (λ it. it.syntax) r ≡ c

abbrev pub type_bound_list_kinds : SyntaxKind → Bool
type_bound_list_kinds = λ kind. nat_eq (kind_raw kind) TYPE_BOUND_LIST

-- r is the view of the node at c as a `TypeBoundList`; there is none if there is no node
abbrev pub IsTypeBoundList : Option Cursor → Option (Typed TYPE_BOUND_LIST) → Type 0
IsTypeBoundList c r = option_map (λ it. it.syntax) r ≡ c

abbrev pub IsFirstTypeBoundList : Cursor → Option (Typed TYPE_BOUND_LIST) → Type 0
IsFirstTypeBoundList c r = IsTypeBoundList (typed_child type_bound_list_kinds c) r

abbrev pub type_param_kinds : SyntaxKind → Bool
type_param_kinds = λ kind. nat_eq (kind_raw kind) TYPE_PARAM

-- r is the view of the node at c as a `TypeParam`; there is none if there is no node
abbrev pub IsTypeParam : Option Cursor → Option (Typed TYPE_PARAM) → Type 0
IsTypeParam c r = option_map (λ it. it.syntax) r ≡ c

abbrev pub use_bound_generic_args_kinds : SyntaxKind → Bool
use_bound_generic_args_kinds = λ kind. nat_eq (kind_raw kind) USE_BOUND_GENERIC_ARGS

-- r is the view of the node at c as a `UseBoundGenericArgs`; there is none if there is no node
abbrev pub IsUseBoundGenericArgs : Option Cursor → Option (Typed USE_BOUND_GENERIC_ARGS) → Type 0
IsUseBoundGenericArgs c r = option_map (λ it. it.syntax) r ≡ c

abbrev pub IsFirstUseBoundGenericArgs : Cursor → Option (Typed USE_BOUND_GENERIC_ARGS) → Type 0
IsFirstUseBoundGenericArgs c r = IsUseBoundGenericArgs (typed_child use_bound_generic_args_kinds c) r

abbrev pub where_clause_kinds : SyntaxKind → Bool
where_clause_kinds = λ kind. nat_eq (kind_raw kind) WHERE_CLAUSE

-- r is the view of the node at c as a `WhereClause`; there is none if there is no node
abbrev pub IsWhereClause : Option Cursor → Option (Typed WHERE_CLAUSE) → Type 0
IsWhereClause c r = option_map (λ it. it.syntax) r ≡ c

abbrev pub IsFirstWhereClause : Cursor → Option (Typed WHERE_CLAUSE) → Type 0
IsFirstWhereClause c r = IsWhereClause (typed_child where_clause_kinds c) r

abbrev pub where_pred_kinds : SyntaxKind → Bool
where_pred_kinds = λ kind. nat_eq (kind_raw kind) WHERE_PRED

-- r is the view of the node at c as a `WherePred`; there is none if there is no node
abbrev pub IsWherePred : Option Cursor → Option (Typed WHERE_PRED) → Type 0
IsWherePred c r = option_map (λ it. it.syntax) r ≡ c
