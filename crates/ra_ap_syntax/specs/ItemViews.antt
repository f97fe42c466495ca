-- Words of clauses for the views of items: the kinds of each, and what is one. Made by
-- `tools/views` from `views.txt`.
use Rattle.std.specs.Prelude.{◌≡◌, Bool, Option, nat_eq, option_map}
use Rattle.syntax_kind.specs.declared.syntax_kind.SyntaxKind.{SyntaxKind}
use Rattle.syntax_kind.specs.Kinds.{kind_raw}
use Rattle.syntax_kind.specs.declared.raw.TheConstants.{CONST, ENUM, EXTERN_BLOCK, EXTERN_CRATE, FN, IMPL, MACRO_CALL, MACRO_DEF, MACRO_RULES, MODULE, SOURCE_FILE, STATIC, STRUCT, TRAIT, TYPE_ALIAS, UNION, USE}
use Rattle.tree_model.specs.Cursor.{Cursor}
use Rattle.ras_node.specs.Nodes.{typed_child}
use Rattle.ra_ap_syntax.specs.declared.ast.typed.Typed.{Typed}

abbrev pub const_kinds : SyntaxKind → Bool
const_kinds = λ kind. nat_eq (kind_raw kind) CONST

-- r is the view of the node at c as a `Const`; there is none if there is no node
abbrev pub IsConst : Option Cursor → Option (Typed CONST) → Type 0
IsConst c r = option_map (λ it. it.syntax) r ≡ c

abbrev pub enum_kinds : SyntaxKind → Bool
enum_kinds = λ kind. nat_eq (kind_raw kind) ENUM

-- r is the view of the node at c as an `Enum`; there is none if there is no node
abbrev pub IsEnum : Option Cursor → Option (Typed ENUM) → Type 0
IsEnum c r = option_map (λ it. it.syntax) r ≡ c

abbrev pub extern_block_kinds : SyntaxKind → Bool
extern_block_kinds = λ kind. nat_eq (kind_raw kind) EXTERN_BLOCK

-- r is the view of the node at c as an `ExternBlock`; there is none if there is no node
abbrev pub IsExternBlock : Option Cursor → Option (Typed EXTERN_BLOCK) → Type 0
IsExternBlock c r = option_map (λ it. it.syntax) r ≡ c

abbrev pub extern_crate_kinds : SyntaxKind → Bool
extern_crate_kinds = λ kind. nat_eq (kind_raw kind) EXTERN_CRATE

-- r is the view of the node at c as an `ExternCrate`; there is none if there is no node
abbrev pub IsExternCrate : Option Cursor → Option (Typed EXTERN_CRATE) → Type 0
IsExternCrate c r = option_map (λ it. it.syntax) r ≡ c

abbrev pub fn_kinds : SyntaxKind → Bool
fn_kinds = λ kind. nat_eq (kind_raw kind) FN

-- r is the view of the node at c as a `Fn`; there is none if there is no node
abbrev pub IsFn : Option Cursor → Option (Typed FN) → Type 0
IsFn c r = option_map (λ it. it.syntax) r ≡ c

abbrev pub impl_kinds : SyntaxKind → Bool
impl_kinds = λ kind. nat_eq (kind_raw kind) IMPL

-- r is the view of the node at c as an `Impl`; there is none if there is no node
abbrev pub IsImpl : Option Cursor → Option (Typed IMPL) → Type 0
IsImpl c r = option_map (λ it. it.syntax) r ≡ c

abbrev pub macro_call_kinds : SyntaxKind → Bool
macro_call_kinds = λ kind. nat_eq (kind_raw kind) MACRO_CALL

-- r is the view of the node at c as a `MacroCall`; there is none if there is no node
abbrev pub IsMacroCall : Option Cursor → Option (Typed MACRO_CALL) → Type 0
IsMacroCall c r = option_map (λ it. it.syntax) r ≡ c

abbrev pub IsFirstMacroCall : Cursor → Option (Typed MACRO_CALL) → Type 0
IsFirstMacroCall c r = IsMacroCall (typed_child macro_call_kinds c) r

abbrev pub macro_def_kinds : SyntaxKind → Bool
macro_def_kinds = λ kind. nat_eq (kind_raw kind) MACRO_DEF

-- r is the view of the node at c as a `MacroDef`; there is none if there is no node
abbrev pub IsMacroDef : Option Cursor → Option (Typed MACRO_DEF) → Type 0
IsMacroDef c r = option_map (λ it. it.syntax) r ≡ c

abbrev pub macro_rules_kinds : SyntaxKind → Bool
macro_rules_kinds = λ kind. nat_eq (kind_raw kind) MACRO_RULES

-- r is the view of the node at c as a `MacroRules`; there is none if there is no node
abbrev pub IsMacroRules : Option Cursor → Option (Typed MACRO_RULES) → Type 0
IsMacroRules c r = option_map (λ it. it.syntax) r ≡ c

abbrev pub module_kinds : SyntaxKind → Bool
module_kinds = λ kind. nat_eq (kind_raw kind) MODULE

-- r is the view of the node at c as a `Module`; there is none if there is no node
abbrev pub IsModule : Option Cursor → Option (Typed MODULE) → Type 0
IsModule c r = option_map (λ it. it.syntax) r ≡ c

abbrev pub source_file_kinds : SyntaxKind → Bool
source_file_kinds = λ kind. nat_eq (kind_raw kind) SOURCE_FILE

-- r is the view of the node at c as a `SourceFile`; there is none if there is no node
abbrev pub IsSourceFile : Option Cursor → Option (Typed SOURCE_FILE) → Type 0
IsSourceFile c r = option_map (λ it. it.syntax) r ≡ c

abbrev pub static_kinds : SyntaxKind → Bool
static_kinds = λ kind. nat_eq (kind_raw kind) STATIC

-- r is the view of the node at c as a `Static`; there is none if there is no node
abbrev pub IsStatic : Option Cursor → Option (Typed STATIC) → Type 0
IsStatic c r = option_map (λ it. it.syntax) r ≡ c

abbrev pub struct_kinds : SyntaxKind → Bool
struct_kinds = λ kind. nat_eq (kind_raw kind) STRUCT

-- r is the view of the node at c as a `Struct`; there is none if there is no node
abbrev pub IsStruct : Option Cursor → Option (Typed STRUCT) → Type 0
IsStruct c r = option_map (λ it. it.syntax) r ≡ c

abbrev pub trait_kinds : SyntaxKind → Bool
trait_kinds = λ kind. nat_eq (kind_raw kind) TRAIT

-- r is the view of the node at c as a `Trait`; there is none if there is no node
abbrev pub IsTrait : Option Cursor → Option (Typed TRAIT) → Type 0
IsTrait c r = option_map (λ it. it.syntax) r ≡ c

abbrev pub type_alias_kinds : SyntaxKind → Bool
type_alias_kinds = λ kind. nat_eq (kind_raw kind) TYPE_ALIAS

-- r is the view of the node at c as a `TypeAlias`; there is none if there is no node
abbrev pub IsTypeAlias : Option Cursor → Option (Typed TYPE_ALIAS) → Type 0
IsTypeAlias c r = option_map (λ it. it.syntax) r ≡ c

abbrev pub union_kinds : SyntaxKind → Bool
union_kinds = λ kind. nat_eq (kind_raw kind) UNION

-- r is the view of the node at c as a `Union`; there is none if there is no node
abbrev pub IsUnion : Option Cursor → Option (Typed UNION) → Type 0
IsUnion c r = option_map (λ it. it.syntax) r ≡ c

abbrev pub use_kinds : SyntaxKind → Bool
use_kinds = λ kind. nat_eq (kind_raw kind) USE

-- r is the view of the node at c as a `Use`; there is none if there is no node
abbrev pub IsUse : Option Cursor → Option (Typed USE) → Type 0
IsUse c r = option_map (λ it. it.syntax) r ≡ c
