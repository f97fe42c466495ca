-- Where the rules begin. Written by tools/grammar from rust.grammar.
use Rattle.std.specs.Prelude.{ℕ, nat_eq, if◌then◌else◌}
use Rattle.syntax_kind.specs.declared.syntax_kind.SyntaxKind.{SyntaxKind}
use Rattle.syntax_kind.specs.declared.syntax_kind.SyntaxKind.TheVariants.{Node, OTHER}
use Rattle.syntax_kind.specs.declared.syntax_kind.node_kind.NodeKind.TheVariants as node
use Rattle.rust_grammar.specs.declared.tables.rules.Rule.{Rule}
use Rattle.rust_grammar.specs.declared.tables.rules.Rule.TheVariants as rule

-- the number of a rule's first operation
abbrev pub first_op : Rule → ℕ
first_op rule.SourceFile = 0
first_op rule.MacroItems = 7100
first_op rule.MacroStmts = 7133
first_op rule.WholePattern = 7205
first_op rule.WholeType = 7212
first_op rule.WholeExpr = 7215
first_op rule.WholeMeta = 7218
first_op rule.FragmentVis = 7221
first_op rule.BlockExpr = 7222
first_op rule.FragmentStmt = 7225
first_op rule.Pattern = 5367
first_op rule.PatternSingle = 947
first_op rule.Type = 471
first_op rule.FragmentExpr = 7321
first_op rule.FragmentPath = 7322
first_op rule.FragmentItem = 7370
first_op rule.FragmentMeta = 7373
first_op rule.RecordFields = 7374
first_op rule.RecordExprFields = 7376
first_op rule.Variants = 7378
first_op rule.MatchArms = 7380
first_op rule.UseTreeList = 7382
first_op rule.ItemList = 7384
first_op rule.AssocItemList = 7386
first_op rule.ExternItemList = 7388
first_op rule.TokenTree = 7390
first_op rule.StmtList = 7392

-- the number of the first operation of what is called for a node of the kind
abbrev pub body_of : SyntaxKind → ℕ
body_of (Node node.ASSOC_ITEM_LIST) = 3181
body_of (Node node.EXTERN_ITEM_LIST) = 4000
body_of (Node node.ITEM_LIST) = 4000
body_of (Node node.MATCH_ARM_LIST) = 2464
body_of (Node node.RECORD_FIELD_LIST) = 4187
body_of (Node node.STMT_LIST) = 1171
body_of (Node node.TOKEN_TREE) = 328
body_of (Node node.USE_TREE_LIST) = 4559
body_of (OTHER n) = if nat_eq n 271 then 6131 else (if nat_eq n 272 then 5353 else (if nat_eq n 275 then 4067 else 0))
body_of _ = 0

-- how many operations there are
abbrev pub op_count : ℕ
op_count = 7394
