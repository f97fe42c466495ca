-- The nodes that may be parsed again by themselves, as rust-analyzer's parser has them: each begins
-- with `{` and ends with `}`.
use Rattle.std.specs.Prelude.{ℕ, Bool, true, false, if◌then◌else◌, nat_eq, Option, Some, None}
use Rattle.syntax_kind.specs.declared.syntax_kind.SyntaxKind.{SyntaxKind}
use Rattle.syntax_kind.specs.declared.syntax_kind.SyntaxKind.TheVariants.{Token, Node, OTHER}
use Rattle.syntax_kind.specs.declared.syntax_kind.token_kind.TokenKind.TheVariants as token
use Rattle.syntax_kind.specs.declared.syntax_kind.node_kind.NodeKind.TheVariants as node
use Rattle.ras_front_end.specs.declared.edition.Reparser.{Reparser}
use Rattle.rust_grammar.specs.declared.tables.rules.Rule.{Rule}
use Rattle.rust_grammar.specs.declared.tables.rules.Rule.TheVariants as rule

-- a list of associated items belongs to an `impl` or a trait
abbrev pub has_assoc_items_of : Option SyntaxKind → Bool
has_assoc_items_of (Some (Node node.IMPL)) = true
has_assoc_items_of (Some (Node node.TRAIT)) = true
has_assoc_items_of _ = false

abbrev pub is_braced_of : Option SyntaxKind → Bool
is_braced_of (Some (Token token.L_CURLY)) = true
is_braced_of _ = false

abbrev pub only_if : {X : Type 0} → Bool → X → Option X
only_if true x = Some x
only_if false x = None

-- two lists have no kind with a name: those of the fields of a record expression, and of variants
abbrev pub other_rule_of : ℕ → Option ℕ
other_rule_of n = if nat_eq n 271 then Some 2 else (if nat_eq n 275 then Some 3 else None)

-- the number of a node's rule
abbrev pub number_of : SyntaxKind → Option SyntaxKind → Option SyntaxKind → Option ℕ
number_of (Node node.BLOCK_EXPR) first parent = Some 0
number_of (Node node.RECORD_FIELD_LIST) first parent = Some 1
number_of (Node node.MATCH_ARM_LIST) first parent = Some 4
number_of (Node node.USE_TREE_LIST) first parent = Some 5
number_of (Node node.EXTERN_ITEM_LIST) first parent = Some 6
number_of (Node node.TOKEN_TREE) first parent = only_if (is_braced_of first) 7
number_of (Node node.ASSOC_ITEM_LIST) first parent = only_if (has_assoc_items_of parent) 8
number_of (Node node.ITEM_LIST) first parent = Some 9
number_of (OTHER n) first parent = other_rule_of n
number_of _ first parent = None

abbrev pub reparser_on : SyntaxKind → Option ℕ → Option Reparser
reparser_on k None = None
reparser_on k (Some n) = Some (record { kind = k; number = n })

abbrev pub chosen_of : SyntaxKind → Option SyntaxKind → Option SyntaxKind → Option Reparser
chosen_of k first parent = reparser_on k (number_of k first parent)

-- the number of the rule of the nodes between braces that one rule makes wherever they are
abbrev pub exact_number_of : SyntaxKind → Option ℕ
exact_number_of (Node node.STMT_LIST) = Some 10
exact_number_of (Node node.RECORD_FIELD_LIST) = Some 1
exact_number_of (Node node.MATCH_ARM_LIST) = Some 4
exact_number_of (Node node.USE_TREE_LIST) = Some 5
exact_number_of (Node node.EXTERN_ITEM_LIST) = Some 6
exact_number_of (Node node.TOKEN_TREE) = Some 7
exact_number_of (Node node.ASSOC_ITEM_LIST) = Some 8
exact_number_of (Node node.ITEM_LIST) = Some 9
exact_number_of (OTHER n) = other_rule_of n
exact_number_of _ = None

abbrev pub exact_chosen_of : SyntaxKind → Option Reparser
exact_chosen_of k = reparser_on k (exact_number_of k)

abbrev pub rule_by_number : ℕ → Rule
rule_by_number n =
    if nat_eq n 0 then rule.BlockExpr
    else (if nat_eq n 1 then rule.RecordFields
    else (if nat_eq n 2 then rule.RecordExprFields
    else (if nat_eq n 3 then rule.Variants
    else (if nat_eq n 4 then rule.MatchArms
    else (if nat_eq n 5 then rule.UseTreeList
    else (if nat_eq n 6 then rule.ExternItemList
    else (if nat_eq n 7 then rule.TokenTree
    else (if nat_eq n 8 then rule.AssocItemList
    else (if nat_eq n 10 then rule.StmtList
    else rule.ItemList)))))))))
