-- Words of clauses for the views of paths, generic arguments and bounds: the kinds of each, and
-- what is one. Made by `tools/views` from `views.txt`.
use Rattle.std.specs.Prelude.{◌≡◌, Bool, Option, nat_eq, option_map}
use Rattle.syntax_kind.specs.declared.syntax_kind.SyntaxKind.{SyntaxKind}
use Rattle.syntax_kind.specs.Kinds.{kind_raw}
use Rattle.rust_views.specs.declared.raw.TheConstants.{PARENTHESIZED_ARG_LIST, RETURN_TYPE_SYNTAX}
use Rattle.tree_model.specs.Cursor.{Cursor}
use Rattle.ras_node.specs.Nodes.{typed_child}
use Rattle.ra_ap_syntax.specs.declared.ast.typed.Typed.{Typed}

abbrev pub parenthesized_arg_list_kinds : SyntaxKind → Bool
parenthesized_arg_list_kinds = λ kind. nat_eq (kind_raw kind) PARENTHESIZED_ARG_LIST

-- r is the view of the node at c as a `ParenthesizedArgList`; there is none if there is no node
abbrev pub IsParenthesizedArgList : Option Cursor → Option (Typed PARENTHESIZED_ARG_LIST) → Type 0
IsParenthesizedArgList c r = option_map (λ it. it.syntax) r ≡ c

abbrev pub IsFirstParenthesizedArgList : Cursor → Option (Typed PARENTHESIZED_ARG_LIST) → Type 0
IsFirstParenthesizedArgList c r = IsParenthesizedArgList (typed_child parenthesized_arg_list_kinds c) r

abbrev pub return_type_syntax_kinds : SyntaxKind → Bool
return_type_syntax_kinds = λ kind. nat_eq (kind_raw kind) RETURN_TYPE_SYNTAX

-- r is the view of the node at c as a `ReturnTypeSyntax`; there is none if there is no node
abbrev pub IsReturnTypeSyntax : Option Cursor → Option (Typed RETURN_TYPE_SYNTAX) → Type 0
IsReturnTypeSyntax c r = option_map (λ it. it.syntax) r ≡ c

abbrev pub IsFirstReturnTypeSyntax : Cursor → Option (Typed RETURN_TYPE_SYNTAX) → Type 0
IsFirstReturnTypeSyntax c r = IsReturnTypeSyntax (typed_child return_type_syntax_kinds c) r
