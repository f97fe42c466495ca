-- `Expr`: the node of each variant, that its kind is one of the enum's, and words of clauses. Made
-- by `tools/views` from `views.txt`.
use Rattle.std.specs.Prelude.{◌≡◌, Bool, true, Option, option_map}
use Rattle.std.proofs.Common.{refl}
use Rattle.syntax_kind.specs.declared.syntax_kind.SyntaxKind.{SyntaxKind}
use Rattle.syntax_kind.specs.declared.syntax_kind.SyntaxKind.TheVariants.{Node}
use Rattle.syntax_kind.specs.declared.syntax_kind.node_kind.NodeKind.TheVariants as kind
use Rattle.tree_model.specs.Cursor.{Cursor}
use Rattle.ras_node.specs.Nodes.{kind_at, typed_child}
use Rattle.ras_node.specs.KindSets.{by_number}
use Rattle.ra_ap_syntax.specs.declared.ast.views.expr.Expr.{Expr}
use Rattle.ra_ap_syntax.specs.declared.ast.views.expr.Expr.TheVariants.{ArrayExpr, AsmExpr, AwaitExpr, BecomeExpr, BinExpr, BlockExpr, BreakExpr, CallExpr, CastExpr, CfgPredExpr, ClosureExpr, ContinueExpr, FieldExpr, ForExpr, FormatArgsExpr, IfExpr, IncludeBytesExpr, IndexExpr, LetExpr, Literal, LoopExpr, MacroExpr, MatchExpr, MethodCallExpr, OffsetOfExpr, ParenExpr, PathExpr, PrefixExpr, RangeExpr, RecordExpr, RefExpr, ReturnExpr, TryExpr, TupleExpr, UnderscoreExpr, WhileExpr, YeetExpr, YieldExpr}
use Rattle.ras_node.specs.Sets.{is_expr}

abbrev pub expr_node : Expr → Cursor
expr_node (ArrayExpr it) = it.syntax
expr_node (AsmExpr it) = it.syntax
expr_node (AwaitExpr it) = it.syntax
expr_node (BecomeExpr it) = it.syntax
expr_node (BinExpr it) = it.syntax
expr_node (BlockExpr it) = it.syntax
expr_node (BreakExpr it) = it.syntax
expr_node (CallExpr it) = it.syntax
expr_node (CastExpr it) = it.syntax
expr_node (CfgPredExpr it) = it.syntax
expr_node (ClosureExpr it) = it.syntax
expr_node (ContinueExpr it) = it.syntax
expr_node (FieldExpr it) = it.syntax
expr_node (ForExpr it) = it.syntax
expr_node (FormatArgsExpr it) = it.syntax
expr_node (IfExpr it) = it.syntax
expr_node (IncludeBytesExpr it) = it.syntax
expr_node (IndexExpr it) = it.syntax
expr_node (LetExpr it) = it.syntax
expr_node (Literal it) = it.syntax
expr_node (LoopExpr it) = it.syntax
expr_node (MacroExpr it) = it.syntax
expr_node (MatchExpr it) = it.syntax
expr_node (MethodCallExpr it) = it.syntax
expr_node (OffsetOfExpr it) = it.syntax
expr_node (ParenExpr it) = it.syntax
expr_node (PathExpr it) = it.syntax
expr_node (PrefixExpr it) = it.syntax
expr_node (RangeExpr it) = it.syntax
expr_node (RecordExpr it) = it.syntax
expr_node (RefExpr it) = it.syntax
expr_node (ReturnExpr it) = it.syntax
expr_node (TryExpr it) = it.syntax
expr_node (TupleExpr it) = it.syntax
expr_node (UnderscoreExpr it) = it.syntax
expr_node (WhileExpr it) = it.syntax
expr_node (YeetExpr it) = it.syntax
expr_node (YieldExpr it) = it.syntax

-- its kind is one of these
pub expr_castable : (it : Expr) → is_expr (kind_at (expr_node it)) ≡ true
expr_castable (ArrayExpr it) = by_number is_expr _ (Node kind.ARRAY_EXPR) it.is refl
expr_castable (AsmExpr it) = by_number is_expr _ (Node kind.ASM_EXPR) it.is refl
expr_castable (AwaitExpr it) = by_number is_expr _ (Node kind.AWAIT_EXPR) it.is refl
expr_castable (BecomeExpr it) = by_number is_expr _ (Node kind.BECOME_EXPR) it.is refl
expr_castable (BinExpr it) = by_number is_expr _ (Node kind.BIN_EXPR) it.is refl
expr_castable (BlockExpr it) = by_number is_expr _ (Node kind.BLOCK_EXPR) it.is refl
expr_castable (BreakExpr it) = by_number is_expr _ (Node kind.BREAK_EXPR) it.is refl
expr_castable (CallExpr it) = by_number is_expr _ (Node kind.CALL_EXPR) it.is refl
expr_castable (CastExpr it) = by_number is_expr _ (Node kind.CAST_EXPR) it.is refl
expr_castable (CfgPredExpr it) = by_number is_expr _ (Node kind.CFG_PRED_EXPR) it.is refl
expr_castable (ClosureExpr it) = by_number is_expr _ (Node kind.CLOSURE_EXPR) it.is refl
expr_castable (ContinueExpr it) = by_number is_expr _ (Node kind.CONTINUE_EXPR) it.is refl
expr_castable (FieldExpr it) = by_number is_expr _ (Node kind.FIELD_EXPR) it.is refl
expr_castable (ForExpr it) = by_number is_expr _ (Node kind.FOR_EXPR) it.is refl
expr_castable (FormatArgsExpr it) = by_number is_expr _ (Node kind.FORMAT_ARGS_EXPR) it.is refl
expr_castable (IfExpr it) = by_number is_expr _ (Node kind.IF_EXPR) it.is refl
expr_castable (IncludeBytesExpr it) = by_number is_expr _ (Node kind.INCLUDE_BYTES_EXPR) it.is refl
expr_castable (IndexExpr it) = by_number is_expr _ (Node kind.INDEX_EXPR) it.is refl
expr_castable (LetExpr it) = by_number is_expr _ (Node kind.LET_EXPR) it.is refl
expr_castable (Literal it) = by_number is_expr _ (Node kind.LITERAL) it.is refl
expr_castable (LoopExpr it) = by_number is_expr _ (Node kind.LOOP_EXPR) it.is refl
expr_castable (MacroExpr it) = by_number is_expr _ (Node kind.MACRO_EXPR) it.is refl
expr_castable (MatchExpr it) = by_number is_expr _ (Node kind.MATCH_EXPR) it.is refl
expr_castable (MethodCallExpr it) = by_number is_expr _ (Node kind.METHOD_CALL_EXPR) it.is refl
expr_castable (OffsetOfExpr it) = by_number is_expr _ (Node kind.OFFSET_OF_EXPR) it.is refl
expr_castable (ParenExpr it) = by_number is_expr _ (Node kind.PAREN_EXPR) it.is refl
expr_castable (PathExpr it) = by_number is_expr _ (Node kind.PATH_EXPR) it.is refl
expr_castable (PrefixExpr it) = by_number is_expr _ (Node kind.PREFIX_EXPR) it.is refl
expr_castable (RangeExpr it) = by_number is_expr _ (Node kind.RANGE_EXPR) it.is refl
expr_castable (RecordExpr it) = by_number is_expr _ (Node kind.RECORD_EXPR) it.is refl
expr_castable (RefExpr it) = by_number is_expr _ (Node kind.REF_EXPR) it.is refl
expr_castable (ReturnExpr it) = by_number is_expr _ (Node kind.RETURN_EXPR) it.is refl
expr_castable (TryExpr it) = by_number is_expr _ (Node kind.TRY_EXPR) it.is refl
expr_castable (TupleExpr it) = by_number is_expr _ (Node kind.TUPLE_EXPR) it.is refl
expr_castable (UnderscoreExpr it) = by_number is_expr _ (Node kind.UNDERSCORE_EXPR) it.is refl
expr_castable (WhileExpr it) = by_number is_expr _ (Node kind.WHILE_EXPR) it.is refl
expr_castable (YeetExpr it) = by_number is_expr _ (Node kind.YEET_EXPR) it.is refl
expr_castable (YieldExpr it) = by_number is_expr _ (Node kind.YIELD_EXPR) it.is refl

abbrev pub expr_kinds : SyntaxKind → Bool
expr_kinds = is_expr

-- r is the view of the node at c as an `Expr`; there is none if there is no node
abbrev pub IsExpr : Option Cursor → Option Expr → Type 0
IsExpr c r = option_map expr_node r ≡ c

abbrev pub IsFirstExpr : Cursor → Option Expr → Type 0
IsFirstExpr c r = IsExpr (typed_child expr_kinds c) r
