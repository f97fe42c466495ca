-- Sets of kinds that the rules use.
use Rattle.std.specs.Prelude.{Bool, true, false}
use Rattle.syntax_kind.specs.declared.syntax_kind.SyntaxKind.{SyntaxKind}
use Rattle.syntax_kind.specs.declared.syntax_kind.SyntaxKind.TheVariants.{Node, Token}
use Rattle.syntax_kind.specs.declared.syntax_kind.node_kind.NodeKind.TheVariants as node
use Rattle.syntax_kind.specs.declared.syntax_kind.token_kind.TokenKind.TheVariants as token

-- the nodes in which a block may have inner attributes
abbrev pub takes_inner_attributes : SyntaxKind → Bool
takes_inner_attributes (Node node.FN) = true
takes_inner_attributes (Node node.EXPR_STMT) = true
takes_inner_attributes (Node node.STMT_LIST) = true
takes_inner_attributes (Node node.MACRO_STMTS) = true
takes_inner_attributes (Node node.LOOP_EXPR) = true
takes_inner_attributes (Node node.WHILE_EXPR) = true
takes_inner_attributes (Node node.FOR_EXPR) = true
takes_inner_attributes (Node node.TUPLE_EXPR) = true
takes_inner_attributes (Node node.ARRAY_EXPR) = true
takes_inner_attributes (Node node.ARG_LIST) = true
takes_inner_attributes _ = false

-- the items of an implementation whose visibility is checked
abbrev pub is_member : SyntaxKind → Bool
is_member (Node node.FN) = true
is_member (Node node.CONST) = true
is_member (Node node.TYPE_ALIAS) = true
is_member _ = false

-- `(`, `<` and `=`, after which a `+` in a type is not ambiguous
abbrev pub delimits_type : SyntaxKind → Bool
delimits_type (Token token.L_PAREN) = true
delimits_type (Token token.L_ANGLE) = true
delimits_type (Token token.EQ) = true
delimits_type _ = false

-- the nodes that have rules
abbrev pub has_rules : SyntaxKind → Bool
has_rules (Node node.LITERAL) = true
has_rules (Node node.CONST) = true
has_rules (Node node.BLOCK_EXPR) = true
has_rules (Node node.FIELD_EXPR) = true
has_rules (Node node.RECORD_EXPR_FIELD) = true
has_rules (Node node.VISIBILITY) = true
has_rules (Node node.RANGE_EXPR) = true
has_rules (Node node.PATH_SEGMENT) = true
has_rules (Node node.REF_TYPE) = true
has_rules (Node node.PTR_TYPE) = true
has_rules (Node node.FN_PTR_TYPE) = true
has_rules (Node node.DYN_TRAIT_TYPE) = true
has_rules (Node node.IMPL_TRAIT_TYPE) = true
has_rules (Node node.MACRO_RULES) = true
has_rules (Node node.LET_EXPR) = true
has_rules _ = false

-- the keywords that the rules on paths look for
abbrev pub is_path_keyword : SyntaxKind → Bool
is_path_keyword (Token token.SELF_KW) = true
is_path_keyword (Token token.CRATE_KW) = true
is_path_keyword _ = false

-- the segments of paths, the names in them, and the tokens of most names
abbrev pub is_segment : SyntaxKind → Bool
is_segment (Node node.PATH_SEGMENT) = true
is_segment _ = false

abbrev pub is_name_ref : SyntaxKind → Bool
is_name_ref (Node node.NAME_REF) = true
is_name_ref _ = false

abbrev pub is_identifier : SyntaxKind → Bool
is_identifier (Token token.IDENT) = true
is_identifier _ = false

-- the tokens of names whose digits are looked at
abbrev pub is_number : SyntaxKind → Bool
is_number (Token token.INT_NUMBER) = true
is_number _ = false
