-- `AsmOperand`: its kinds by their raw numbers, the node of each variant, and words of clauses.
-- Made by `tools/views` from `views.txt`.
use Rattle.std.specs.Prelude.{◌≡◌, ◌||◌, Bool, true, ℕ, nat_eq, Option, option_map}
use Rattle.std.proofs.lemmas.Bool.{eq-eqb}
use Rattle.syntax_kind.specs.declared.syntax_kind.SyntaxKind.{SyntaxKind}
use Rattle.syntax_kind.specs.Kinds.{kind_raw}
use Rattle.rust_views.specs.declared.raw.TheConstants.{ASM_REG_OPERAND, ASM_LABEL, ASM_SYM, ASM_CONST}
use Rattle.tree_model.specs.Cursor.{Cursor}
use Rattle.ras_node.specs.Nodes.{kind_at, typed_child}
use Rattle.rust_views.specs.Sides.{or_left, or_right}
use Rattle.rust_views.specs.declared.enums.asm_operand.AsmOperand.{AsmOperand}
use Rattle.rust_views.specs.declared.enums.asm_operand.AsmOperand.TheVariants.{AsmRegOperand, AsmLabel, AsmSym, AsmConst}

abbrev is_asm_operand_number : ℕ → Bool
is_asm_operand_number n = nat_eq n ASM_REG_OPERAND || (nat_eq n ASM_LABEL || (nat_eq n ASM_SYM || nat_eq n ASM_CONST))

abbrev pub is_asm_operand : SyntaxKind → Bool
is_asm_operand kind = is_asm_operand_number (kind_raw kind)

abbrev pub asm_operand_node : AsmOperand → Cursor
asm_operand_node (AsmRegOperand it) = it.syntax
asm_operand_node (AsmLabel it) = it.syntax
asm_operand_node (AsmSym it) = it.syntax
asm_operand_node (AsmConst it) = it.syntax

-- its kind is one of these
pub asm_operand_castable : (it : AsmOperand) → is_asm_operand (kind_at (asm_operand_node it)) ≡ true
asm_operand_castable (AsmRegOperand it) = or_left _ _ (eq-eqb _ _ it.is)
asm_operand_castable (AsmLabel it) = or_right _ _ (or_left _ _ (eq-eqb _ _ it.is))
asm_operand_castable (AsmSym it) = or_right _ _ (or_right _ _ (or_left _ _ (eq-eqb _ _ it.is)))
asm_operand_castable (AsmConst it) =
    or_right (nat_eq (kind_raw (kind_at (asm_operand_node (AsmConst it)))) ASM_REG_OPERAND) _
    (or_right (nat_eq (kind_raw (kind_at (asm_operand_node (AsmConst it)))) ASM_LABEL) _
    (or_right (nat_eq (kind_raw (kind_at (asm_operand_node (AsmConst it)))) ASM_SYM) _
    (eq-eqb _ _ it.is)))

abbrev pub asm_operand_kinds : SyntaxKind → Bool
asm_operand_kinds = is_asm_operand

-- r is the view of the node at c as an `AsmOperand`; there is none if there is no node
abbrev pub IsAsmOperand : Option Cursor → Option AsmOperand → Type 0
IsAsmOperand c r = option_map asm_operand_node r ≡ c

abbrev pub IsFirstAsmOperand : Cursor → Option AsmOperand → Type 0
IsFirstAsmOperand c r = IsAsmOperand (typed_child asm_operand_kinds c) r
