-- What the tokens of Rust are, as highlighting shows them: by their kinds, and by the nodes around
-- them.
use Rattle.std.specs.Prelude.{ℕ, ◌==◌, Bool, false, ◌||◌, if◌then◌else◌, List, [], ◌∷◌, take, Option, Some, None}
use Rattle.std.specs.Char.{is_ascii_alphabetic}
use Rattle.std.specs.List.{list_any}
use Rattle.syntax_kind.specs.declared.syntax_kind.SyntaxKind.{SyntaxKind}
use Rattle.syntax_kind.specs.declared.syntax_kind.SyntaxKind.TheVariants.{Node, Token}
use Rattle.syntax_kind.specs.declared.syntax_kind.node_kind.NodeKind.TheVariants as kind
use Rattle.syntax_kind.specs.declared.syntax_kind.token_kind.TokenKind.TheVariants as token
use Rattle.syntax_kind.specs.declared.syntax_kind.TheConstants.SyntaxKind.{ATTR, CALL_EXPR}
use Rattle.syntax_kind.specs.Kinds.{is_same_kind}
use Rattle.rust_kinds.specs.declared.kinds.TheConstants.{RENAME}
use Rattle.tree_model.specs.Tree.{text}
use Rattle.tree_model.specs.Cursor.{Cursor, focus, parent_of, ancestors_from}
use Rattle.ras_node.specs.Nodes.{kind_at, is_of_kind}
use Rattle.rust_report.specs.declared.roles.Role.{Role}
use Rattle.rust_report.specs.declared.roles.Role.TheVariants as role

-- a text begins as a word does
abbrev pub begins_word : List ℕ → Bool
begins_word [] = false
begins_word (b ∷ bs) = is_ascii_alphabetic b || (b == 95)

-- a token by its kind; what has a kind of its own and begins as a word is a keyword
abbrev pub role_of_token : SyntaxKind → List ℕ → Role
role_of_token (Token token.INT_NUMBER) s = role.Number
role_of_token (Token token.FLOAT_NUMBER) s = role.Number
role_of_token (Token token.LIFETIME_IDENT) s = role.Lifetime
role_of_token (Token token.ERROR) s = role.Error
role_of_token (Token token.IDENT) s = role.Plain
role_of_token (Token token.WHITESPACE) s = role.Plain
role_of_token (Token token.STRING) s = role.Text
role_of_token (Token token.BYTE_STRING) s = role.Text
role_of_token (Token token.C_STRING) s = role.Text
role_of_token (Token token.CHAR) s = role.Text
role_of_token (Token token.BYTE) s = role.Text
role_of_token (Token token.COMMENT) s = role.Comment
role_of_token (Token token.INNER_DOC_COMMENT) s = role.Comment
role_of_token (Token token.OUTER_DOC_COMMENT) s = role.Comment
role_of_token k s = if begins_word s then role.Keyword else role.Plain

-- a NAME, by the kind of the item around it
abbrev pub role_of_name : SyntaxKind → Role
role_of_name (Node kind.FN) = role.Function
role_of_name (Node kind.STRUCT) = role.«Type»
role_of_name (Node kind.ENUM) = role.«Type»
role_of_name (Node kind.UNION) = role.«Type»
role_of_name (Node kind.TRAIT) = role.«Type»
role_of_name (Node kind.TYPE_ALIAS) = role.«Type»
role_of_name (Node kind.TYPE_PARAM) = role.«Type»
role_of_name (Node kind.VARIANT) = role.«Type»
role_of_name (Node kind.RECORD_FIELD) = role.Field
role_of_name (Node kind.MACRO_RULES) = role.Macro
role_of_name (Node kind.MACRO_DEF) = role.Macro
role_of_name (Node kind.MODULE) = role.Path
role_of_name k = if is_same_kind k RENAME then role.Path else role.Plain

-- a path that is an expression, by the node around that
abbrev pub role_of_callee : Option Cursor → Role
role_of_callee None = role.Plain
role_of_callee (Some c) = if is_of_kind CALL_EXPR c then role.Function else role.Plain

-- a path, by the kind of the node around it and by the node around that
abbrev pub role_in_path : SyntaxKind → Option Cursor → Role
role_in_path (Node kind.PATH_TYPE) above = role.«Type»
role_in_path (Node kind.RECORD_EXPR) above = role.«Type»
role_in_path (Node kind.RECORD_PAT) above = role.«Type»
role_in_path (Node kind.TUPLE_STRUCT_PAT) above = role.«Type»
role_in_path (Node kind.MACRO_CALL) above = role.Macro
role_in_path (Node kind.PATH_EXPR) above = role_of_callee above
role_in_path (Node kind.PATH) above = role.Path
role_in_path (Node kind.USE_TREE) above = role.Path
role_in_path (Node kind.VISIBILITY) above = role.Path
role_in_path _ above = role.Plain

abbrev pub role_of_path : Option Cursor → Role
role_of_path None = role.Plain
role_of_path (Some c) = role_in_path (kind_at c) (parent_of c)

-- the path of a segment, by the node around the path
abbrev pub role_of_segment : Option Cursor → Role
role_of_segment None = role.Plain
role_of_segment (Some path) = role_of_path (parent_of path)

-- a NAME_REF, by the kind of the node around it and by the node around that
abbrev pub role_in_use : SyntaxKind → Option Cursor → Role
role_in_use (Node kind.METHOD_CALL_EXPR) above = role.Function
role_in_use (Node kind.FIELD_EXPR) above = role.Field
role_in_use (Node kind.RECORD_EXPR_FIELD) above = role.Field
role_in_use (Node kind.RECORD_PAT_FIELD) above = role.Field
role_in_use (Node kind.EXTERN_CRATE) above = role.Path
role_in_use (Node kind.PATH_SEGMENT) above = role_of_segment above
role_in_use _ above = role.Plain

abbrev pub role_of_use : Cursor → Role
role_of_use c = role_in_use (kind_at c) (parent_of c)

-- an identifier, by the kind of the node that it is in and by the node around that
abbrev pub role_in_name : SyntaxKind → Option Cursor → Role
role_in_name k None = role.Plain
role_in_name (Node kind.NAME) (Some c) = role_of_name (kind_at c)
role_in_name (Node kind.NAME_REF) (Some c) = role_of_use c
role_in_name _ (Some c) = role.Plain

abbrev pub role_of_word : Option Cursor → Role
role_of_word None = role.Plain
role_of_word (Some name) = role_in_name (kind_at name) (parent_of name)

-- an identifier by the nodes around it, every other token by its kind
abbrev pub role_alone : SyntaxKind → Cursor → Role
role_alone (Token token.IDENT) c = role_of_word (parent_of c)
role_alone k c = role_of_token k (text (focus c))

-- one of the five innermost nodes from here on is an attribute
abbrev pub in_attribute : Option Cursor → Bool
in_attribute parent = list_any (is_of_kind ATTR) (take 5 (ancestors_from parent))

-- what is plain, or a part of a path, is a part of an attribute that it is in
abbrev pub or_attribute : Role → Bool → Role
or_attribute role.Plain inside = if inside then role.Attribute else role.Plain
or_attribute role.Path inside = if inside then role.Attribute else role.Path
or_attribute r inside = r

abbrev pub role_of : Cursor → Role
role_of c = or_attribute (role_alone (kind_at c) c) (in_attribute (parent_of c))
