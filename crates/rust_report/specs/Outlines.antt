-- The items of a tree.
use Rattle.std.specs.Prelude.{ℕ, ◌-◌, ◌^◌, min, Bool, true, false, List, codes, length, drop, Option, Some, None, option_map}
use Rattle.std.specs.List.{filter, find}
use Rattle.lossless_tree.specs.declared.cursor.element.NodeOrToken.{NodeOrToken}
use Rattle.lossless_tree.specs.declared.cursor.element.NodeOrToken.TheVariants as element
use Rattle.lossless_tree.specs.Element.{element_of}
use Rattle.syntax_kind.specs.declared.syntax_kind.SyntaxKind.{SyntaxKind}
use Rattle.syntax_kind.specs.declared.syntax_kind.SyntaxKind.TheVariants.{Node, Token}
use Rattle.syntax_kind.specs.declared.syntax_kind.node_kind.NodeKind.TheVariants as kind
use Rattle.syntax_kind.specs.declared.syntax_kind.token_kind.TokenKind.TheVariants as token
use Rattle.tree_model.specs.Cursor.{Cursor, ancestors_of, children_of}
use Rattle.ras_node.specs.Nodes.{kind_at, has_kind_in, typed_child, token_child}
use Rattle.ras_node.specs.Searches.{has_other_kind}
use Rattle.rust_report.specs.declared.items.Row.{Row}

-- items, other than calls of macros
abbrev pub is_listed : SyntaxKind → Bool
is_listed (Node kind.CONST) = true
is_listed (Node kind.ENUM) = true
is_listed (Node kind.EXTERN_BLOCK) = true
is_listed (Node kind.EXTERN_CRATE) = true
is_listed (Node kind.FN) = true
is_listed (Node kind.IMPL) = true
is_listed (Node kind.MACRO_DEF) = true
is_listed (Node kind.MACRO_RULES) = true
is_listed (Node kind.MODULE) = true
is_listed (Node kind.STATIC) = true
is_listed (Node kind.STRUCT) = true
is_listed (Node kind.TRAIT) = true
is_listed (Node kind.TYPE_ALIAS) = true
is_listed (Node kind.UNION) = true
is_listed (Node kind.USE) = true
is_listed _ = false

abbrev pub is_name : SyntaxKind → Bool
is_name (Node kind.NAME) = true
is_name _ = false

-- the words that an item is written with
abbrev pub word_of : SyntaxKind → List ℕ
word_of (Node kind.CONST) = codes "const"
word_of (Node kind.ENUM) = codes "enum"
word_of (Node kind.EXTERN_BLOCK) = codes "extern"
word_of (Node kind.EXTERN_CRATE) = codes "extern crate"
word_of (Node kind.FN) = codes "fn"
word_of (Node kind.IMPL) = codes "impl"
word_of (Node kind.MACRO_DEF) = codes "macro"
word_of (Node kind.MACRO_RULES) = codes "macro_rules!"
word_of (Node kind.MODULE) = codes "mod"
word_of (Node kind.STATIC) = codes "static"
word_of (Node kind.STRUCT) = codes "struct"
word_of (Node kind.TRAIT) = codes "trait"
word_of (Node kind.TYPE_ALIAS) = codes "type"
word_of (Node kind.UNION) = codes "union"
word_of _ = codes "use"

abbrev pub is_path : SyntaxKind → Bool
is_path (Node kind.USE_TREE) = true
is_path (Node kind.NAME_REF) = true
is_path _ = false

abbrev pub is_abi : SyntaxKind → Bool
is_abi (Node kind.ABI) = true
is_abi _ = false

-- a child of an `impl` that does not begin its head
abbrev pub is_unheaded : SyntaxKind → Bool
is_unheaded (Node kind.ATTR) = true
is_unheaded (Node kind.DOC_COMMENT) = true
is_unheaded (Node kind.VISIBILITY) = true
is_unheaded (Node kind.GENERIC_PARAM_LIST) = true
is_unheaded (Node kind.WHERE_CLAUSE) = true
is_unheaded (Node kind.ASSOC_ITEM_LIST) = true
is_unheaded (Token token.DEFAULT_KW) = true
is_unheaded (Token token.UNSAFE_KW) = true
is_unheaded (Token token.IMPL_KW) = true
is_unheaded (Token token.WHITESPACE) = true
is_unheaded (Token token.COMMENT) = true
is_unheaded _ = false

-- the string of an `extern "C"`
abbrev pub string_of : Option Cursor → Option (NodeOrToken Cursor Cursor)
string_of (Some abi) = option_map element.Token (token_child (Token token.STRING) abi)
string_of None = None

-- what labels an item of this kind without a name
abbrev pub other_label : SyntaxKind → Cursor → Option (NodeOrToken Cursor Cursor)
other_label (Node kind.CONST) c = option_map element.Token (token_child (Token token.UNDERSCORE) c)
other_label (Node kind.EXTERN_BLOCK) c = string_of (typed_child is_abi c)
other_label (Node kind.EXTERN_CRATE) c = option_map element.Node (typed_child is_path c)
other_label (Node kind.USE) c = option_map element.Node (typed_child is_path c)
other_label (Node kind.IMPL) c = option_map element_of (find (has_other_kind is_unheaded) (children_of c))
other_label _ c = None

-- the name, or else what labels an item of its kind without one
abbrev pub label_by : Option Cursor → Cursor → Option (NodeOrToken Cursor Cursor)
label_by (Some name) item = Some (element.Node name)
label_by None item = other_label (kind_at item) item

abbrev pub label_of : Row → Option (NodeOrToken Cursor Cursor)
label_of row = label_by row.name row.item

-- the number of items above it, saturating at 64 bits
abbrev pub depth_of : Cursor → ℕ
depth_of c = min (length (filter (has_kind_in is_listed) (drop 1 (ancestors_of c)))) (2 ^ 64 - 1)

-- an item with its name and its depth
abbrev pub row_of : Cursor → Row
row_of c = record { item = c; name = typed_child is_name c; depth = depth_of c }
