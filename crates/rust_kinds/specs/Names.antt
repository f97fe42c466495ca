-- The names of kinds: those of the library, and those of the table. Written by tools/rust_kinds from kinds.txt.
use Rattle.std.specs.Prelude.{◌≡◌, ℕ, ◌+◌, ◌*◌, ◌%◌, ◌==◌, if◌then◌else◌, List, [], codes, bytes_eq, Option, Some, None, fold, slice_index_or}
use Rattle.syntax_kind.specs.declared.syntax_kind.SyntaxKind.{SyntaxKind}
use Rattle.syntax_kind.specs.declared.syntax_kind.SyntaxKind.TheVariants.{OTHER}
use Rattle.syntax_kind.specs.Kinds.{kind_name}
use Rattle.rust_kinds.specs.declared.names.TheConstants.{NUMBERS}

-- the name of the kind `OTHER(n)`; no text where it has none
abbrev pub name_in_table : ℕ → List ℕ
name_in_table n =
    if n == 0 then codes "FRONTMATTER" else (
    if n == 1 then codes "SHEBANG" else (
    if n == 2 then codes "ABSTRACT_KW" else (
    if n == 3 then codes "BOX_KW" else (
    if n == 4 then codes "FINAL_KW" else (
    if n == 5 then codes "OVERRIDE_KW" else (
    if n == 6 then codes "PRIV_KW" else (
    if n == 7 then codes "TYPEOF_KW" else (
    if n == 8 then codes "UNSIZED_KW" else (
    if n == 9 then codes "VIRTUAL_KW" else (
    if n == 10 then codes "ASM_KW" else (
    if n == 11 then codes "ATT_SYNTAX_KW" else (
    if n == 12 then codes "CLOBBER_ABI_KW" else (
    if n == 13 then codes "FORMAT_ARGS_KW" else (
    if n == 14 then codes "GLOBAL_ASM_KW" else (
    if n == 15 then codes "INLATEOUT_KW" else (
    if n == 16 then codes "INOUT_KW" else (
    if n == 17 then codes "LABEL_KW" else (
    if n == 18 then codes "LATEOUT_KW" else (
    if n == 19 then codes "MAY_UNWIND_KW" else (
    if n == 20 then codes "NAKED_ASM_KW" else (
    if n == 21 then codes "NOMEM_KW" else (
    if n == 22 then codes "NORETURN_KW" else (
    if n == 23 then codes "NOSTACK_KW" else (
    if n == 24 then codes "OFFSET_OF_KW" else (
    if n == 25 then codes "OPTIONS_KW" else (
    if n == 26 then codes "OUT_KW" else (
    if n == 27 then codes "PRESERVES_FLAGS_KW" else (
    if n == 28 then codes "PURE_KW" else (
    if n == 29 then codes "RAW_KW" else (
    if n == 30 then codes "READONLY_KW" else (
    if n == 31 then codes "SAFE_KW" else (
    if n == 32 then codes "SYM_KW" else (
    if n == 33 then codes "CFG_KW" else (
    if n == 34 then codes "CFG_ATTR_KW" else (
    if n == 256 then codes "ASM_CLOBBER_ABI" else (
    if n == 257 then codes "ASM_CONST" else (
    if n == 258 then codes "ASM_DIR_SPEC" else (
    if n == 259 then codes "ASM_LABEL" else (
    if n == 260 then codes "ASM_OPERAND_EXPR" else (
    if n == 261 then codes "ASM_OPERAND_NAMED" else (
    if n == 262 then codes "ASM_OPTION" else (
    if n == 263 then codes "ASM_OPTIONS" else (
    if n == 264 then codes "ASM_REG_OPERAND" else (
    if n == 265 then codes "ASM_REG_SPEC" else (
    if n == 266 then codes "ASM_SYM" else (
    if n == 267 then codes "CFG_COMPOSITE" else (
    if n == 268 then codes "FORMAT_ARGS_ARG_NAME" else (
    if n == 269 then codes "MACRO_ITEMS" else (
    if n == 270 then codes "PARENTHESIZED_ARG_LIST" else (
    if n == 271 then codes "RECORD_EXPR_FIELD_LIST" else (
    if n == 272 then codes "RECORD_PAT_FIELD_LIST" else (
    if n == 273 then codes "RENAME" else (
    if n == 274 then codes "RETURN_TYPE_SYNTAX" else (
    if n == 275 then codes "VARIANT_LIST" else (
    [])))))))))))))))))))))))))))))))))))))))))))))))))))))))

-- the name of a kind; no text where it has none
abbrev pub rust_name : SyntaxKind → List ℕ
rust_name (OTHER n) = name_in_table n
rust_name k = kind_name k

-- the kind has a name, and it is this text
pub record IsNamed (k : SyntaxKind) (text : List ℕ) : Type 0 where
  pub name : rust_name k ≡ text
  pub some : text ≡ [] → ⊥

-- the place of a name: a hash, byte by byte
abbrev pub next_hash : ℕ → ℕ → ℕ
next_hash hash byte = (hash * 42 + byte) % 65536

abbrev pub place_of : List ℕ → ℕ
place_of name = fold next_hash 0 name % 225

-- the number n of the kind `OTHER(n)` with this name: the name at its place, if it is this one
abbrev pub number_at : List ℕ → ℕ
number_at name = slice_index_or NUMBERS (place_of name) 0

abbrev pub number_in_table : List ℕ → Option ℕ
number_in_table name = if bytes_eq (name_in_table (number_at name)) name then Some (number_at name) else None
