-- `AsmPiece`: its kinds by their raw numbers, the node of each variant, and words of clauses. Made
-- by `tools/views` from `views.txt`.
use Rattle.std.specs.Prelude.{◌≡◌, ◌||◌, Bool, true, ℕ, nat_eq, Option, option_map}
use Rattle.std.proofs.lemmas.Bool.{eq-eqb}
use Rattle.syntax_kind.specs.declared.syntax_kind.SyntaxKind.{SyntaxKind}
use Rattle.syntax_kind.specs.Kinds.{kind_raw}
use Rattle.rust_views.specs.declared.raw.TheConstants.{ASM_OPERAND_NAMED, ASM_CLOBBER_ABI, ASM_OPTIONS}
use Rattle.tree_model.specs.Cursor.{Cursor}
use Rattle.ras_node.specs.Nodes.{kind_at}
use Rattle.rust_views.specs.Sides.{or_left, or_right}
use Rattle.rust_views.specs.declared.enums.asm_piece.AsmPiece.{AsmPiece}
use Rattle.rust_views.specs.declared.enums.asm_piece.AsmPiece.TheVariants.{AsmOperandNamed, AsmClobberAbi, AsmOptions}

abbrev is_asm_piece_number : ℕ → Bool
is_asm_piece_number n = nat_eq n ASM_OPERAND_NAMED || (nat_eq n ASM_CLOBBER_ABI || nat_eq n ASM_OPTIONS)

abbrev pub is_asm_piece : SyntaxKind → Bool
is_asm_piece kind = is_asm_piece_number (kind_raw kind)

abbrev pub asm_piece_node : AsmPiece → Cursor
asm_piece_node (AsmOperandNamed it) = it.syntax
asm_piece_node (AsmClobberAbi it) = it.syntax
asm_piece_node (AsmOptions it) = it.syntax

-- its kind is one of these
pub asm_piece_castable : (it : AsmPiece) → is_asm_piece (kind_at (asm_piece_node it)) ≡ true
asm_piece_castable (AsmOperandNamed it) = or_left _ _ (eq-eqb _ _ it.is)
asm_piece_castable (AsmClobberAbi it) = or_right _ _ (or_left _ _ (eq-eqb _ _ it.is))
asm_piece_castable (AsmOptions it) = or_right _ _ (or_right _ _ (eq-eqb _ _ it.is))

abbrev pub asm_piece_kinds : SyntaxKind → Bool
asm_piece_kinds = is_asm_piece

-- r is the view of the node at c as an `AsmPiece`; there is none if there is no node
abbrev pub IsAsmPiece : Option Cursor → Option AsmPiece → Type 0
IsAsmPiece c r = option_map asm_piece_node r ≡ c
