-- Each row of the table is found by its name. Written by tools/rust_kinds from kinds.txt.
use Rattle.std.specs.Prelude.{◌≡◌, ℕ, List, [], codes, Some, IsUtf8}
use Rattle.std.proofs.Common.{refl}
use Rattle.std.proofs.lemmas.Str.{IsUtf8-nil}
use Rattle.rust_kinds.specs.Names.{name_in_table, number_in_table}
use Rattle.rust_kinds.proofs.Rows.{by_number, plain-IsUtf8}

-- what is true of each row, and of a number that has none, is true of each number
pub each_number : (P : ℕ → List ℕ → Type 0) →
    P 0 (codes "FRONTMATTER") →
    P 1 (codes "SHEBANG") →
    P 2 (codes "ABSTRACT_KW") →
    P 3 (codes "BOX_KW") →
    P 4 (codes "FINAL_KW") →
    P 5 (codes "OVERRIDE_KW") →
    P 6 (codes "PRIV_KW") →
    P 7 (codes "TYPEOF_KW") →
    P 8 (codes "UNSIZED_KW") →
    P 9 (codes "VIRTUAL_KW") →
    P 10 (codes "ASM_KW") →
    P 11 (codes "ATT_SYNTAX_KW") →
    P 12 (codes "CLOBBER_ABI_KW") →
    P 13 (codes "FORMAT_ARGS_KW") →
    P 14 (codes "GLOBAL_ASM_KW") →
    P 15 (codes "INLATEOUT_KW") →
    P 16 (codes "INOUT_KW") →
    P 17 (codes "LABEL_KW") →
    P 18 (codes "LATEOUT_KW") →
    P 19 (codes "MAY_UNWIND_KW") →
    P 20 (codes "NAKED_ASM_KW") →
    P 21 (codes "NOMEM_KW") →
    P 22 (codes "NORETURN_KW") →
    P 23 (codes "NOSTACK_KW") →
    P 24 (codes "OFFSET_OF_KW") →
    P 25 (codes "OPTIONS_KW") →
    P 26 (codes "OUT_KW") →
    P 27 (codes "PRESERVES_FLAGS_KW") →
    P 28 (codes "PURE_KW") →
    P 29 (codes "RAW_KW") →
    P 30 (codes "READONLY_KW") →
    P 31 (codes "SAFE_KW") →
    P 32 (codes "SYM_KW") →
    P 33 (codes "CFG_KW") →
    P 34 (codes "CFG_ATTR_KW") →
    P 256 (codes "ASM_CLOBBER_ABI") →
    P 257 (codes "ASM_CONST") →
    P 258 (codes "ASM_DIR_SPEC") →
    P 259 (codes "ASM_LABEL") →
    P 260 (codes "ASM_OPERAND_EXPR") →
    P 261 (codes "ASM_OPERAND_NAMED") →
    P 262 (codes "ASM_OPTION") →
    P 263 (codes "ASM_OPTIONS") →
    P 264 (codes "ASM_REG_OPERAND") →
    P 265 (codes "ASM_REG_SPEC") →
    P 266 (codes "ASM_SYM") →
    P 267 (codes "CFG_COMPOSITE") →
    P 268 (codes "FORMAT_ARGS_ARG_NAME") →
    P 269 (codes "MACRO_ITEMS") →
    P 270 (codes "PARENTHESIZED_ARG_LIST") →
    P 271 (codes "RECORD_EXPR_FIELD_LIST") →
    P 272 (codes "RECORD_PAT_FIELD_LIST") →
    P 273 (codes "RENAME") →
    P 274 (codes "RETURN_TYPE_SYNTAX") →
    P 275 (codes "VARIANT_LIST") →
    ((n : ℕ) → P n []) → (n : ℕ) → P n (name_in_table n)
each_number P p0 p1 p2 p3 p4 p5 p6 p7 p8 p9 p10 p11 p12 p13 p14 p15 p16 p17 p18 p19 p20 p21 p22 p23 p24 p25 p26 p27 p28 p29 p30 p31 p32 p33 p34 p256 p257 p258 p259 p260 p261 p262 p263 p264 p265 p266 p267 p268 p269 p270 p271 p272 p273 p274 p275 none n =
    by_number P n _ _ _ p0 (
    by_number P n _ _ _ p1 (
    by_number P n _ _ _ p2 (
    by_number P n _ _ _ p3 (
    by_number P n _ _ _ p4 (
    by_number P n _ _ _ p5 (
    by_number P n _ _ _ p6 (
    by_number P n _ _ _ p7 (
    by_number P n _ _ _ p8 (
    by_number P n _ _ _ p9 (
    by_number P n _ _ _ p10 (
    by_number P n _ _ _ p11 (
    by_number P n _ _ _ p12 (
    by_number P n _ _ _ p13 (
    by_number P n _ _ _ p14 (
    by_number P n _ _ _ p15 (
    by_number P n _ _ _ p16 (
    by_number P n _ _ _ p17 (
    by_number P n _ _ _ p18 (
    by_number P n _ _ _ p19 (
    by_number P n _ _ _ p20 (
    by_number P n _ _ _ p21 (
    by_number P n _ _ _ p22 (
    by_number P n _ _ _ p23 (
    by_number P n _ _ _ p24 (
    by_number P n _ _ _ p25 (
    by_number P n _ _ _ p26 (
    by_number P n _ _ _ p27 (
    by_number P n _ _ _ p28 (
    by_number P n _ _ _ p29 (
    by_number P n _ _ _ p30 (
    by_number P n _ _ _ p31 (
    by_number P n _ _ _ p32 (
    by_number P n _ _ _ p33 (
    by_number P n _ _ _ p34 (
    by_number P n _ _ _ p256 (
    by_number P n _ _ _ p257 (
    by_number P n _ _ _ p258 (
    by_number P n _ _ _ p259 (
    by_number P n _ _ _ p260 (
    by_number P n _ _ _ p261 (
    by_number P n _ _ _ p262 (
    by_number P n _ _ _ p263 (
    by_number P n _ _ _ p264 (
    by_number P n _ _ _ p265 (
    by_number P n _ _ _ p266 (
    by_number P n _ _ _ p267 (
    by_number P n _ _ _ p268 (
    by_number P n _ _ _ p269 (
    by_number P n _ _ _ p270 (
    by_number P n _ _ _ p271 (
    by_number P n _ _ _ p272 (
    by_number P n _ _ _ p273 (
    by_number P n _ _ _ p274 (
    by_number P n _ _ _ p275 (
    none n)))))))))))))))))))))))))))))))))))))))))))))))))))))))

-- each number is found by its name
pub number_found : (n : ℕ) → (name_in_table n ≡ [] → ⊥) → number_in_table (name_in_table n) ≡ Some n
number_found = each_number (λ n name. (name ≡ [] → ⊥) → number_in_table name ≡ Some n)
    (λ _. refl)
    (λ _. refl)
    (λ _. refl)
    (λ _. refl)
    (λ _. refl)
    (λ _. refl)
    (λ _. refl)
    (λ _. refl)
    (λ _. refl)
    (λ _. refl)
    (λ _. refl)
    (λ _. refl)
    (λ _. refl)
    (λ _. refl)
    (λ _. refl)
    (λ _. refl)
    (λ _. refl)
    (λ _. refl)
    (λ _. refl)
    (λ _. refl)
    (λ _. refl)
    (λ _. refl)
    (λ _. refl)
    (λ _. refl)
    (λ _. refl)
    (λ _. refl)
    (λ _. refl)
    (λ _. refl)
    (λ _. refl)
    (λ _. refl)
    (λ _. refl)
    (λ _. refl)
    (λ _. refl)
    (λ _. refl)
    (λ _. refl)
    (λ _. refl)
    (λ _. refl)
    (λ _. refl)
    (λ _. refl)
    (λ _. refl)
    (λ _. refl)
    (λ _. refl)
    (λ _. refl)
    (λ _. refl)
    (λ _. refl)
    (λ _. refl)
    (λ _. refl)
    (λ _. refl)
    (λ _. refl)
    (λ _. refl)
    (λ _. refl)
    (λ _. refl)
    (λ _. refl)
    (λ _. refl)
    (λ _. refl)
    (λ _ some. absurd (some refl))

-- and has a name that is UTF-8
pub number_IsUtf8 : (n : ℕ) → IsUtf8 (name_in_table n)
number_IsUtf8 = each_number (λ _ name. IsUtf8 name)
    (plain-IsUtf8 _ refl)
    (plain-IsUtf8 _ refl)
    (plain-IsUtf8 _ refl)
    (plain-IsUtf8 _ refl)
    (plain-IsUtf8 _ refl)
    (plain-IsUtf8 _ refl)
    (plain-IsUtf8 _ refl)
    (plain-IsUtf8 _ refl)
    (plain-IsUtf8 _ refl)
    (plain-IsUtf8 _ refl)
    (plain-IsUtf8 _ refl)
    (plain-IsUtf8 _ refl)
    (plain-IsUtf8 _ refl)
    (plain-IsUtf8 _ refl)
    (plain-IsUtf8 _ refl)
    (plain-IsUtf8 _ refl)
    (plain-IsUtf8 _ refl)
    (plain-IsUtf8 _ refl)
    (plain-IsUtf8 _ refl)
    (plain-IsUtf8 _ refl)
    (plain-IsUtf8 _ refl)
    (plain-IsUtf8 _ refl)
    (plain-IsUtf8 _ refl)
    (plain-IsUtf8 _ refl)
    (plain-IsUtf8 _ refl)
    (plain-IsUtf8 _ refl)
    (plain-IsUtf8 _ refl)
    (plain-IsUtf8 _ refl)
    (plain-IsUtf8 _ refl)
    (plain-IsUtf8 _ refl)
    (plain-IsUtf8 _ refl)
    (plain-IsUtf8 _ refl)
    (plain-IsUtf8 _ refl)
    (plain-IsUtf8 _ refl)
    (plain-IsUtf8 _ refl)
    (plain-IsUtf8 _ refl)
    (plain-IsUtf8 _ refl)
    (plain-IsUtf8 _ refl)
    (plain-IsUtf8 _ refl)
    (plain-IsUtf8 _ refl)
    (plain-IsUtf8 _ refl)
    (plain-IsUtf8 _ refl)
    (plain-IsUtf8 _ refl)
    (plain-IsUtf8 _ refl)
    (plain-IsUtf8 _ refl)
    (plain-IsUtf8 _ refl)
    (plain-IsUtf8 _ refl)
    (plain-IsUtf8 _ refl)
    (plain-IsUtf8 _ refl)
    (plain-IsUtf8 _ refl)
    (plain-IsUtf8 _ refl)
    (plain-IsUtf8 _ refl)
    (plain-IsUtf8 _ refl)
    (plain-IsUtf8 _ refl)
    (plain-IsUtf8 _ refl)
    (λ _. IsUtf8-nil)
