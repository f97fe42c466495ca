-- Words of clauses for the views of expressions of control flow: the kinds of each, and what is
-- one. Made by `tools/views` from `views.txt`.
use Rattle.std.specs.Prelude.{◌≡◌, Bool, Option, nat_eq, option_map}
use Rattle.syntax_kind.specs.declared.syntax_kind.SyntaxKind.{SyntaxKind}
use Rattle.syntax_kind.specs.Kinds.{kind_raw}
use Rattle.syntax_kind.specs.declared.raw.TheConstants.{BECOME_EXPR, BLOCK_EXPR, BREAK_EXPR, CONTINUE_EXPR, FOR_EXPR, IF_EXPR, LET_EXPR, LOOP_EXPR, MATCH_EXPR, RETURN_EXPR, WHILE_EXPR, YEET_EXPR, YIELD_EXPR}
use Rattle.tree_model.specs.Cursor.{Cursor}
use Rattle.ras_node.specs.Nodes.{typed_child}
use Rattle.ra_ap_syntax.specs.declared.ast.typed.Typed.{Typed}

abbrev pub become_expr_kinds : SyntaxKind → Bool
become_expr_kinds = λ kind. nat_eq (kind_raw kind) BECOME_EXPR

-- r is the view of the node at c as a `BecomeExpr`; there is none if there is no node
abbrev pub IsBecomeExpr : Option Cursor → Option (Typed BECOME_EXPR) → Type 0
IsBecomeExpr c r = option_map (λ it. it.syntax) r ≡ c

abbrev pub block_expr_kinds : SyntaxKind → Bool
block_expr_kinds = λ kind. nat_eq (kind_raw kind) BLOCK_EXPR

-- r is the view of the node at c as a `BlockExpr`; there is none if there is no node
abbrev pub IsBlockExpr : Option Cursor → Option (Typed BLOCK_EXPR) → Type 0
IsBlockExpr c r = option_map (λ it. it.syntax) r ≡ c

abbrev pub IsFirstBlockExpr : Cursor → Option (Typed BLOCK_EXPR) → Type 0
IsFirstBlockExpr c r = IsBlockExpr (typed_child block_expr_kinds c) r

abbrev pub break_expr_kinds : SyntaxKind → Bool
break_expr_kinds = λ kind. nat_eq (kind_raw kind) BREAK_EXPR

-- r is the view of the node at c as a `BreakExpr`; there is none if there is no node
abbrev pub IsBreakExpr : Option Cursor → Option (Typed BREAK_EXPR) → Type 0
IsBreakExpr c r = option_map (λ it. it.syntax) r ≡ c

abbrev pub continue_expr_kinds : SyntaxKind → Bool
continue_expr_kinds = λ kind. nat_eq (kind_raw kind) CONTINUE_EXPR

-- r is the view of the node at c as a `ContinueExpr`; there is none if there is no node
abbrev pub IsContinueExpr : Option Cursor → Option (Typed CONTINUE_EXPR) → Type 0
IsContinueExpr c r = option_map (λ it. it.syntax) r ≡ c

abbrev pub for_expr_kinds : SyntaxKind → Bool
for_expr_kinds = λ kind. nat_eq (kind_raw kind) FOR_EXPR

-- r is the view of the node at c as a `ForExpr`; there is none if there is no node
abbrev pub IsForExpr : Option Cursor → Option (Typed FOR_EXPR) → Type 0
IsForExpr c r = option_map (λ it. it.syntax) r ≡ c

abbrev pub if_expr_kinds : SyntaxKind → Bool
if_expr_kinds = λ kind. nat_eq (kind_raw kind) IF_EXPR

-- r is the view of the node at c as an `IfExpr`; there is none if there is no node
abbrev pub IsIfExpr : Option Cursor → Option (Typed IF_EXPR) → Type 0
IsIfExpr c r = option_map (λ it. it.syntax) r ≡ c

abbrev pub let_expr_kinds : SyntaxKind → Bool
let_expr_kinds = λ kind. nat_eq (kind_raw kind) LET_EXPR

-- r is the view of the node at c as a `LetExpr`; there is none if there is no node
abbrev pub IsLetExpr : Option Cursor → Option (Typed LET_EXPR) → Type 0
IsLetExpr c r = option_map (λ it. it.syntax) r ≡ c

abbrev pub loop_expr_kinds : SyntaxKind → Bool
loop_expr_kinds = λ kind. nat_eq (kind_raw kind) LOOP_EXPR

-- r is the view of the node at c as a `LoopExpr`; there is none if there is no node
abbrev pub IsLoopExpr : Option Cursor → Option (Typed LOOP_EXPR) → Type 0
IsLoopExpr c r = option_map (λ it. it.syntax) r ≡ c

abbrev pub match_expr_kinds : SyntaxKind → Bool
match_expr_kinds = λ kind. nat_eq (kind_raw kind) MATCH_EXPR

-- r is the view of the node at c as a `MatchExpr`; there is none if there is no node
abbrev pub IsMatchExpr : Option Cursor → Option (Typed MATCH_EXPR) → Type 0
IsMatchExpr c r = option_map (λ it. it.syntax) r ≡ c

abbrev pub return_expr_kinds : SyntaxKind → Bool
return_expr_kinds = λ kind. nat_eq (kind_raw kind) RETURN_EXPR

-- r is the view of the node at c as a `ReturnExpr`; there is none if there is no node
abbrev pub IsReturnExpr : Option Cursor → Option (Typed RETURN_EXPR) → Type 0
IsReturnExpr c r = option_map (λ it. it.syntax) r ≡ c

abbrev pub while_expr_kinds : SyntaxKind → Bool
while_expr_kinds = λ kind. nat_eq (kind_raw kind) WHILE_EXPR

-- r is the view of the node at c as a `WhileExpr`; there is none if there is no node
abbrev pub IsWhileExpr : Option Cursor → Option (Typed WHILE_EXPR) → Type 0
IsWhileExpr c r = option_map (λ it. it.syntax) r ≡ c

abbrev pub yeet_expr_kinds : SyntaxKind → Bool
yeet_expr_kinds = λ kind. nat_eq (kind_raw kind) YEET_EXPR

-- r is the view of the node at c as a `YeetExpr`; there is none if there is no node
abbrev pub IsYeetExpr : Option Cursor → Option (Typed YEET_EXPR) → Type 0
IsYeetExpr c r = option_map (λ it. it.syntax) r ≡ c

abbrev pub yield_expr_kinds : SyntaxKind → Bool
yield_expr_kinds = λ kind. nat_eq (kind_raw kind) YIELD_EXPR

-- r is the view of the node at c as a `YieldExpr`; there is none if there is no node
abbrev pub IsYieldExpr : Option Cursor → Option (Typed YIELD_EXPR) → Type 0
IsYieldExpr c r = option_map (λ it. it.syntax) r ≡ c
