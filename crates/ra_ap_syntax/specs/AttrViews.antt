-- Words of clauses for the views of attributes and doc comments: the kinds of each, and what is
-- one. Made by `tools/views` from `views.txt`.
use Rattle.std.specs.Prelude.{◌≡◌, Bool, Option, nat_eq, option_map}
use Rattle.syntax_kind.specs.declared.syntax_kind.SyntaxKind.{SyntaxKind}
use Rattle.syntax_kind.specs.Kinds.{kind_raw}
use Rattle.syntax_kind.specs.declared.raw.TheConstants.{ATTR, CFG_ATOM, CFG_ATTR_META, CFG_META, DOC_COMMENT, KEY_VALUE_META, PATH_META, TOKEN_TREE, TOKEN_TREE_META, UNSAFE_META}
use Rattle.tree_model.specs.Cursor.{Cursor}
use Rattle.ras_node.specs.Nodes.{typed_child}
use Rattle.ra_ap_syntax.specs.declared.ast.typed.Typed.{Typed}

abbrev pub attr_kinds : SyntaxKind → Bool
attr_kinds = λ kind. nat_eq (kind_raw kind) ATTR

-- r is the view of the node at c as an `Attr`; there is none if there is no node
abbrev pub IsAttr : Option Cursor → Option (Typed ATTR) → Type 0
IsAttr c r = option_map (λ it. it.syntax) r ≡ c

abbrev pub cfg_atom_kinds : SyntaxKind → Bool
cfg_atom_kinds = λ kind. nat_eq (kind_raw kind) CFG_ATOM

-- r is the view of the node at c as a `CfgAtom`; there is none if there is no node
abbrev pub IsCfgAtom : Option Cursor → Option (Typed CFG_ATOM) → Type 0
IsCfgAtom c r = option_map (λ it. it.syntax) r ≡ c

abbrev pub cfg_attr_meta_kinds : SyntaxKind → Bool
cfg_attr_meta_kinds = λ kind. nat_eq (kind_raw kind) CFG_ATTR_META

-- r is the view of the node at c as a `CfgAttrMeta`; there is none if there is no node
abbrev pub IsCfgAttrMeta : Option Cursor → Option (Typed CFG_ATTR_META) → Type 0
IsCfgAttrMeta c r = option_map (λ it. it.syntax) r ≡ c

abbrev pub cfg_meta_kinds : SyntaxKind → Bool
cfg_meta_kinds = λ kind. nat_eq (kind_raw kind) CFG_META

-- r is the view of the node at c as a `CfgMeta`; there is none if there is no node
abbrev pub IsCfgMeta : Option Cursor → Option (Typed CFG_META) → Type 0
IsCfgMeta c r = option_map (λ it. it.syntax) r ≡ c

abbrev pub doc_comment_kinds : SyntaxKind → Bool
doc_comment_kinds = λ kind. nat_eq (kind_raw kind) DOC_COMMENT

-- r is the view of the node at c as a `DocComment`; there is none if there is no node
abbrev pub IsDocComment : Option Cursor → Option (Typed DOC_COMMENT) → Type 0
IsDocComment c r = option_map (λ it. it.syntax) r ≡ c

abbrev pub key_value_meta_kinds : SyntaxKind → Bool
key_value_meta_kinds = λ kind. nat_eq (kind_raw kind) KEY_VALUE_META

-- r is the view of the node at c as a `KeyValueMeta`; there is none if there is no node
abbrev pub IsKeyValueMeta : Option Cursor → Option (Typed KEY_VALUE_META) → Type 0
IsKeyValueMeta c r = option_map (λ it. it.syntax) r ≡ c

abbrev pub path_meta_kinds : SyntaxKind → Bool
path_meta_kinds = λ kind. nat_eq (kind_raw kind) PATH_META

-- r is the view of the node at c as a `PathMeta`; there is none if there is no node
abbrev pub IsPathMeta : Option Cursor → Option (Typed PATH_META) → Type 0
IsPathMeta c r = option_map (λ it. it.syntax) r ≡ c

abbrev pub token_tree_kinds : SyntaxKind → Bool
token_tree_kinds = λ kind. nat_eq (kind_raw kind) TOKEN_TREE

-- r is the view of the node at c as a `TokenTree`; there is none if there is no node
abbrev pub IsTokenTree : Option Cursor → Option (Typed TOKEN_TREE) → Type 0
IsTokenTree c r = option_map (λ it. it.syntax) r ≡ c

abbrev pub IsFirstTokenTree : Cursor → Option (Typed TOKEN_TREE) → Type 0
IsFirstTokenTree c r = IsTokenTree (typed_child token_tree_kinds c) r

abbrev pub token_tree_meta_kinds : SyntaxKind → Bool
token_tree_meta_kinds = λ kind. nat_eq (kind_raw kind) TOKEN_TREE_META

-- r is the view of the node at c as a `TokenTreeMeta`; there is none if there is no node
abbrev pub IsTokenTreeMeta : Option Cursor → Option (Typed TOKEN_TREE_META) → Type 0
IsTokenTreeMeta c r = option_map (λ it. it.syntax) r ≡ c

abbrev pub unsafe_meta_kinds : SyntaxKind → Bool
unsafe_meta_kinds = λ kind. nat_eq (kind_raw kind) UNSAFE_META

-- r is the view of the node at c as an `UnsafeMeta`; there is none if there is no node
abbrev pub IsUnsafeMeta : Option Cursor → Option (Typed UNSAFE_META) → Type 0
IsUnsafeMeta c r = option_map (λ it. it.syntax) r ≡ c
