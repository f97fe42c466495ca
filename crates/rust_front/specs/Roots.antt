-- The rule and the root of a text, and the nodes that take comments.
use Rattle.std.specs.Prelude.{if◌then◌else◌, Option, Some, None, List, [], ◌∷◌}
use Rattle.syntax_kind.specs.declared.syntax_kind.SyntaxKind.{SyntaxKind}
use Rattle.syntax_kind.specs.declared.syntax_kind.SyntaxKind.TheVariants.{Token, Node}
use Rattle.syntax_kind.specs.declared.syntax_kind.token_kind.TokenKind.TheVariants as token
use Rattle.syntax_kind.specs.declared.syntax_kind.node_kind.NodeKind.TheVariants as node
use Rattle.ras_front_end.specs.declared.edition.Entry.{Entry}
use Rattle.ras_front_end.specs.declared.edition.Entry.TheVariants.{SourceFile, Expr}
use Rattle.ras_node.specs.Sets.{is_expr}
use Rattle.rust_grammar.specs.declared.tables.rules.Rule.{Rule}
use Rattle.rust_grammar.specs.declared.tables.rules.Rule.TheVariants as rule

abbrev pub entry_rule_of : Entry → Rule
entry_rule_of SourceFile = rule.SourceFile
entry_rule_of Expr = rule.WholeExpr

abbrev pub expr_or_error_of : Option SyntaxKind → SyntaxKind
expr_or_error_of None = Token token.ERROR
expr_or_error_of (Some k) = if is_expr k then k else Token token.ERROR

-- the root of an expression is its outermost node, where that is an expression
abbrev pub root_kind_of : Entry → Option SyntaxKind → SyntaxKind
root_kind_of SourceFile top = Node node.SOURCE_FILE
root_kind_of Expr top = expr_or_error_of top

-- the kinds of nodes that take the comments before them: items, fields and variants
-- (Upstream: `n_attached_trivias` of rust-analyzer's `parser`.)
abbrev pub attaching_kinds : List SyntaxKind
attaching_kinds =
    Node node.FN ∷ Node node.STRUCT ∷ Node node.IMPL ∷ Node node.CONST ∷ Node node.ENUM ∷ Node node.MACRO_CALL ∷
    Node node.MACRO_DEF ∷ Node node.MACRO_RULES ∷ Node node.MODULE ∷ Node node.RECORD_FIELD ∷ Node node.STATIC ∷ Node node.TRAIT ∷
    Node node.TUPLE_FIELD ∷ Node node.TYPE_ALIAS ∷ Node node.UNION ∷ Node node.USE ∷ Node node.VARIANT ∷ Node node.EXTERN_CRATE ∷ []
