-- Words of clauses for the views of inline assembly: the kinds of each, and what is one. Made by
-- `tools/views` from `views.txt`.
use Rattle.std.specs.Prelude.{◌≡◌, Bool, Option, nat_eq, option_map}
use Rattle.syntax_kind.specs.declared.syntax_kind.SyntaxKind.{SyntaxKind}
use Rattle.syntax_kind.specs.Kinds.{kind_raw}
use Rattle.rust_views.specs.declared.raw.TheConstants.{ASM_CLOBBER_ABI, ASM_CONST, ASM_DIR_SPEC, ASM_LABEL, ASM_OPERAND_EXPR, ASM_OPERAND_NAMED, ASM_OPTION, ASM_OPTIONS, ASM_REG_OPERAND, ASM_REG_SPEC, ASM_SYM}
use Rattle.tree_model.specs.Cursor.{Cursor}
use Rattle.ras_node.specs.Nodes.{typed_child}
use Rattle.ra_ap_syntax.specs.declared.ast.typed.Typed.{Typed}

abbrev pub asm_clobber_abi_kinds : SyntaxKind → Bool
asm_clobber_abi_kinds = λ kind. nat_eq (kind_raw kind) ASM_CLOBBER_ABI

-- r is the view of the node at c as an `AsmClobberAbi`; there is none if there is no node
abbrev pub IsAsmClobberAbi : Option Cursor → Option (Typed ASM_CLOBBER_ABI) → Type 0
IsAsmClobberAbi c r = option_map (λ it. it.syntax) r ≡ c

abbrev pub asm_const_kinds : SyntaxKind → Bool
asm_const_kinds = λ kind. nat_eq (kind_raw kind) ASM_CONST

-- r is the view of the node at c as an `AsmConst`; there is none if there is no node
abbrev pub IsAsmConst : Option Cursor → Option (Typed ASM_CONST) → Type 0
IsAsmConst c r = option_map (λ it. it.syntax) r ≡ c

abbrev pub asm_dir_spec_kinds : SyntaxKind → Bool
asm_dir_spec_kinds = λ kind. nat_eq (kind_raw kind) ASM_DIR_SPEC

-- r is the view of the node at c as an `AsmDirSpec`; there is none if there is no node
abbrev pub IsAsmDirSpec : Option Cursor → Option (Typed ASM_DIR_SPEC) → Type 0
IsAsmDirSpec c r = option_map (λ it. it.syntax) r ≡ c

abbrev pub IsFirstAsmDirSpec : Cursor → Option (Typed ASM_DIR_SPEC) → Type 0
IsFirstAsmDirSpec c r = IsAsmDirSpec (typed_child asm_dir_spec_kinds c) r

abbrev pub asm_label_kinds : SyntaxKind → Bool
asm_label_kinds = λ kind. nat_eq (kind_raw kind) ASM_LABEL

-- r is the view of the node at c as an `AsmLabel`; there is none if there is no node
abbrev pub IsAsmLabel : Option Cursor → Option (Typed ASM_LABEL) → Type 0
IsAsmLabel c r = option_map (λ it. it.syntax) r ≡ c

abbrev pub asm_operand_expr_kinds : SyntaxKind → Bool
asm_operand_expr_kinds = λ kind. nat_eq (kind_raw kind) ASM_OPERAND_EXPR

-- r is the view of the node at c as an `AsmOperandExpr`; there is none if there is no node
abbrev pub IsAsmOperandExpr : Option Cursor → Option (Typed ASM_OPERAND_EXPR) → Type 0
IsAsmOperandExpr c r = option_map (λ it. it.syntax) r ≡ c

abbrev pub IsFirstAsmOperandExpr : Cursor → Option (Typed ASM_OPERAND_EXPR) → Type 0
IsFirstAsmOperandExpr c r = IsAsmOperandExpr (typed_child asm_operand_expr_kinds c) r

abbrev pub asm_operand_named_kinds : SyntaxKind → Bool
asm_operand_named_kinds = λ kind. nat_eq (kind_raw kind) ASM_OPERAND_NAMED

-- r is the view of the node at c as an `AsmOperandNamed`; there is none if there is no node
abbrev pub IsAsmOperandNamed : Option Cursor → Option (Typed ASM_OPERAND_NAMED) → Type 0
IsAsmOperandNamed c r = option_map (λ it. it.syntax) r ≡ c

abbrev pub asm_option_kinds : SyntaxKind → Bool
asm_option_kinds = λ kind. nat_eq (kind_raw kind) ASM_OPTION

-- r is the view of the node at c as an `AsmOption`; there is none if there is no node
abbrev pub IsAsmOption : Option Cursor → Option (Typed ASM_OPTION) → Type 0
IsAsmOption c r = option_map (λ it. it.syntax) r ≡ c

abbrev pub asm_options_kinds : SyntaxKind → Bool
asm_options_kinds = λ kind. nat_eq (kind_raw kind) ASM_OPTIONS

-- r is the view of the node at c as an `AsmOptions`; there is none if there is no node
abbrev pub IsAsmOptions : Option Cursor → Option (Typed ASM_OPTIONS) → Type 0
IsAsmOptions c r = option_map (λ it. it.syntax) r ≡ c

abbrev pub asm_reg_operand_kinds : SyntaxKind → Bool
asm_reg_operand_kinds = λ kind. nat_eq (kind_raw kind) ASM_REG_OPERAND

-- r is the view of the node at c as an `AsmRegOperand`; there is none if there is no node
abbrev pub IsAsmRegOperand : Option Cursor → Option (Typed ASM_REG_OPERAND) → Type 0
IsAsmRegOperand c r = option_map (λ it. it.syntax) r ≡ c

abbrev pub asm_reg_spec_kinds : SyntaxKind → Bool
asm_reg_spec_kinds = λ kind. nat_eq (kind_raw kind) ASM_REG_SPEC

-- r is the view of the node at c as an `AsmRegSpec`; there is none if there is no node
abbrev pub IsAsmRegSpec : Option Cursor → Option (Typed ASM_REG_SPEC) → Type 0
IsAsmRegSpec c r = option_map (λ it. it.syntax) r ≡ c

abbrev pub IsFirstAsmRegSpec : Cursor → Option (Typed ASM_REG_SPEC) → Type 0
IsFirstAsmRegSpec c r = IsAsmRegSpec (typed_child asm_reg_spec_kinds c) r

abbrev pub asm_sym_kinds : SyntaxKind → Bool
asm_sym_kinds = λ kind. nat_eq (kind_raw kind) ASM_SYM

-- r is the view of the node at c as an `AsmSym`; there is none if there is no node
abbrev pub IsAsmSym : Option Cursor → Option (Typed ASM_SYM) → Type 0
IsAsmSym c r = option_map (λ it. it.syntax) r ≡ c
