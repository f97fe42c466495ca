-- The variants of the results about expressions, with cursors in the place of views.
use Rattle.std.specs.Prelude.{Bool, List, Option, Some, None, option_map, is_some, if◌then◌else◌}
use Rattle.std.specs.Option.{option_and_then, option_or}
use Rattle.syntax_kind.specs.declared.syntax_kind.SyntaxKind.{SyntaxKind}
use Rattle.syntax_kind.specs.declared.syntax_kind.SyntaxKind.TheVariants.{Token}
use Rattle.syntax_kind.specs.declared.syntax_kind.token_kind.TokenKind.TheVariants as token
use Rattle.tree_model.specs.Cursor.{Cursor}
use Rattle.ras_node.specs.Nodes.{typed_child, typed_children, token_child}
use Rattle.ras_node.specs.Lookups.{second_typed_child}
use Rattle.ra_ap_syntax.specs.declared.ast.expr_ext.array.ArrayExprKind.{ArrayExprKind}
use Rattle.ra_ap_syntax.specs.declared.ast.expr_ext.array.ArrayExprKind.TheVariants as array
use Rattle.ra_ap_syntax.specs.declared.ast.expr_ext.field.FieldKind.{FieldKind}
use Rattle.ra_ap_syntax.specs.declared.ast.expr_ext.field.FieldKind.TheVariants as field
use Rattle.ra_ap_syntax.specs.ExprCases.{expr_node}
use Rattle.ras_expr_ext.specs.ExprParts.{index_token}

-- an array: one value and the number of repetitions, or a list of values
pub data ArrayShape : Type 0 where
  repeat : Option Cursor → Option Cursor → ArrayShape
  elements : List Cursor → ArrayShape

abbrev pub array_shape : ArrayExprKind → ArrayShape
array_shape (array.Repeat initializer count) = repeat (option_map expr_node initializer) (option_map expr_node count)
array_shape (array.ElementList list) = elements list

-- a `;` separates the value from the number
abbrev pub array_kind : (SyntaxKind → Bool) → Cursor → ArrayShape
array_kind exprs c =
    if is_some (token_child (Token token.SEMICOLON) c) then repeat (typed_child exprs c) (second_typed_child exprs c) else elements (typed_children exprs c)

-- a field's name, or its number
pub data FieldShape : Type 0 where
  name : Cursor → FieldShape
  number : Cursor → FieldShape

abbrev pub field_shape : FieldKind → FieldShape
field_shape (field.Name n) = name n.syntax
field_shape (field.Index t) = number t

abbrev pub field_access : (SyntaxKind → Bool) → Cursor → Option FieldShape
field_access names c = option_or (option_map name (typed_child names c)) (option_map number (index_token c))
