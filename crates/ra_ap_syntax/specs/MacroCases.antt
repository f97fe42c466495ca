-- `Macro`: the node of each variant, that its kind is one of the enum's, and words of clauses. Made
-- by `tools/views` from `views.txt`.
use Rattle.std.specs.Prelude.{◌≡◌, Bool, true, Option, option_map}
use Rattle.std.proofs.Common.{refl}
use Rattle.syntax_kind.specs.declared.syntax_kind.SyntaxKind.{SyntaxKind}
use Rattle.syntax_kind.specs.declared.syntax_kind.SyntaxKind.TheVariants.{Node}
use Rattle.syntax_kind.specs.declared.syntax_kind.node_kind.NodeKind.TheVariants as kind
use Rattle.tree_model.specs.Cursor.{Cursor}
use Rattle.ras_node.specs.Nodes.{kind_at}
use Rattle.ras_node.specs.KindSets.{by_number}
use Rattle.ra_ap_syntax.specs.declared.ast.views.macros.Macro.{Macro}
use Rattle.ra_ap_syntax.specs.declared.ast.views.macros.Macro.TheVariants.{MacroRules, MacroDef}
use Rattle.ras_node.specs.Sets.{is_macro}

abbrev pub macro_node : Macro → Cursor
macro_node (MacroRules it) = it.syntax
macro_node (MacroDef it) = it.syntax

-- its kind is one of these
pub macro_castable : (it : Macro) → is_macro (kind_at (macro_node it)) ≡ true
macro_castable (MacroRules it) = by_number is_macro _ (Node kind.MACRO_RULES) it.is refl
macro_castable (MacroDef it) = by_number is_macro _ (Node kind.MACRO_DEF) it.is refl

abbrev pub macro_kinds : SyntaxKind → Bool
macro_kinds = is_macro

-- r is the view of the node at c as a `Macro`; there is none if there is no node
abbrev pub IsMacro : Option Cursor → Option Macro → Type 0
IsMacro c r = option_map macro_node r ≡ c
