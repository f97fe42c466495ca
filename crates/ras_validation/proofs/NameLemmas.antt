-- Fields whose name has no number.
use Rattle.std.proofs.Common.{◌≡◌, List, ◌∷◌, cond, Bool, true, false, ◌&&◌, not, refl, sym, ap, ◌∙◌}
use Rattle.std.specs.Prelude.{Option, None, Some, option_map, is_some, if◌then◌else◌}
use Rattle.std.specs.List.{filter, find, list_any}
use Rattle.std.specs.Option.{option_and_then}
use Rattle.std.specs.Char.{is_ascii_digit}
use Rattle.syntax_kind.specs.declared.syntax_kind.SyntaxKind.TheVariants.{Node, Token}
use Rattle.syntax_kind.specs.declared.syntax_kind.node_kind.NodeKind.TheVariants as node
use Rattle.syntax_kind.specs.declared.syntax_kind.token_kind.TokenKind.TheVariants as token
use Rattle.syntax_kind.specs.KindLaws.{is_same_kind-equal}
use Rattle.tree_model.specs.Tree.{Tree, node as inner, token as leaf, is_token, text}
use Rattle.tree_model.specs.Cursor.{Cursor, focus, at_token, children_of, first_child_of, following_of}
use Rattle.tree_model.proofs.ChildLists.{children_of-step, onward}
use Rattle.lossless_tree.specs.Element.{element_by, element_of, token_part}
use Rattle.tree_rows.specs.KindSearch.{is_among}
use Rattle.ras_node.specs.Nodes.{kind_at, is_of_kind}
use Rattle.ras_validation.specs.Kinds.{is_number}
use Rattle.ras_validation.specs.Lookups.{node_child}
use Rattle.ras_validation.specs.Rules.{if_not_decimal, first_token_in, has_number_as_name, numeric_name}

-- a cursor of another kind is no number
other_kind : (d : Cursor) → is_number (kind_at d) ≡ false → if_not_decimal d ≡ None
other_kind d e = ap (λ b. if (b && list_any (λ b. not (is_ascii_digit b)) (text (focus d))) then Some d else None) (by (is_of_kind (Token token.INT_NUMBER) d) refl)
  where
    by : (b : Bool) → is_of_kind (Token token.INT_NUMBER) d ≡ b → b ≡ false
    by false is = refl
    by true is = (let no : true ≡ false = ap is_number (sym ((is_same_kind-equal (kind_at d) (Token token.INT_NUMBER)).0 is)) ∙ e in cc)

-- the first of some tokens is none, where none of them is
first_other : (d : Cursor) (l : List Cursor) → is_some (find (is_among is_number) (d ∷ l)) ≡ false → is_number (kind_at d) ≡ false
first_other d l e = by (is_number (kind_at d)) e
  where
    by : (b : Bool) → is_some (cond b (Some d) (find (is_among is_number) l)) ≡ false → b ≡ false
    by true e = (let no : true ≡ false = e in cc)
    by false e = refl

no_first : (o : Option Cursor) → is_some (find (is_among is_number) (filter at_token (onward following_of o))) ≡ false → option_and_then if_not_decimal (option_and_then token_part (option_map element_of o)) ≡ None
no_first None e = refl
no_first (Some d) e = by (focus d) refl
  where
    rest : List Cursor
    rest = filter at_token (following_of d)

    by : (t : Tree) → focus d ≡ t → option_and_then if_not_decimal (token_part (element_by (focus d) d)) ≡ None
    by (inner k c) is = ap (λ t. option_and_then if_not_decimal (token_part (element_by t d))) is
    by (leaf k s) is =
        ap (λ t. option_and_then if_not_decimal (token_part (element_by t d))) is
        ∙ other_kind d (first_other d rest (ap (λ b. is_some (find (is_among is_number) (cond b (d ∷ rest) rest))) (sym (ap is_token is)) ∙ e))

pub no_number : (c : Cursor) → has_number_as_name c ≡ false → numeric_name c ≡ None
no_number c e = by (node_child (Node node.NAME_REF) c) e
  where
    by : (name : Option Cursor) → is_some (option_and_then (λ name. find (is_among is_number) (filter at_token (children_of name))) name) ≡ false → option_and_then if_not_decimal (option_and_then first_token_in name) ≡ None
    by None e = refl
    by (Some name) e = no_first (first_child_of name) (ap (λ l. is_some (find (is_among is_number) (filter at_token l))) (sym (children_of-step name)) ∙ e)
