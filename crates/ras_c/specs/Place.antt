-- Whether an expression needs parentheses in place of the expression at a range.
use Rattle.std.specs.Prelude.{◌≡◌, Bool, ◌&&◌, Option, Some}
use Rattle.std.specs.List.{find}
use Rattle.std.specs.Option.{option_and_then}
use Rattle.text_size.specs.TextRange.{Bounds}
use Rattle.tree_model.specs.Cursor.{Cursor, parent_of}
use Rattle.tree_model.specs.Covering.{covering_of}
use Rattle.lossless_tree.specs.Element.{element_of, ancestors_of_element}
use Rattle.ras_node.specs.Nodes.{kind_at}
use Rattle.ras_node.specs.Sets.{is_expr}
use Rattle.operator_pairs.specs.Decides.{DecidesOperands, DecidesPairs}
use Rattle.ras_prec.specs.Rules.{asks}
use Rattle.ras_c.specs.Parens.{spans}

abbrev pub is_expr_over : Bounds → Cursor → Bool
is_expr_over range c = spans range c && is_expr (kind_at c)

-- the innermost expression with exactly this range
abbrev pub expr_over : Cursor → Bounds → Option Cursor
expr_over root range = find (is_expr_over range) (ancestors_of_element (element_of (covering_of root range)))

-- the node around it
abbrev pub around_over : Cursor → Bounds → Option Cursor
around_over root range = option_and_then parent_of (expr_over root range)

-- the answer for an expression in its place: that of the test, which is exact for operands and for
-- what is in a pair
pub record NeedsAt (answer : Bool) (own root : Cursor) (range : Bounds) : Type 0 where
  pub place : Cursor
  pub parent : Cursor
  pub is_place : expr_over root range ≡ Some place
  pub is_parent : parent_of place ≡ Some parent
  pub asked : answer ≡ asks own parent place
  pub fits : DecidesOperands own parent place answer
  pub pairs : DecidesPairs own parent place answer
