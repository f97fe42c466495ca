-- What a whole text can be read as, beside a file and an expression: the parts of a file.
-- (Upstream: `TopEntryPoint` of rust-analyzer's `parser`, and `entry::top` of its grammar.)
use Rattle.std.specs.Prelude.{◌≡◌, ◌⊎◌, ℕ, ◌^◌, nat_lt, if◌then◌else◌, Bool, IsTrue, Option, Some, None, List, length}
use Rattle.syntax_kind.specs.declared.syntax_kind.SyntaxKind.{SyntaxKind}
use Rattle.syntax_kind.specs.declared.syntax_kind.SyntaxKind.TheVariants.{Token, Node, OTHER}
use Rattle.syntax_kind.specs.declared.syntax_kind.token_kind.TokenKind.TheVariants as token
use Rattle.syntax_kind.specs.declared.syntax_kind.node_kind.NodeKind.TheVariants as node
use Rattle.ras_front_end.specs.declared.edition.Entry.{Entry}
use Rattle.ras_front_end.specs.declared.edition.Entry.TheVariants as entry
use Rattle.ras_front_end.specs.declared.edition.Edition.{Edition}
use Rattle.ras_front_end.specs.Keeps.{IsRootOf}
use Rattle.ras_front_end.specs.Reading.{Reading}
use Rattle.ras_node.specs.Sets.{is_expr, is_meta, is_pat, is_ty}
use Rattle.event_layout.specs.Layout.{outermost_of}
use Rattle.rust_grammar.specs.declared.tables.rules.Rule.{Rule}
use Rattle.rust_grammar.specs.declared.tables.rules.Rule.TheVariants as rule
use Rattle.rust_lexer.specs.Lexing.{tokens_of, errors_of}
use Rattle.rust_front.specs.declared.top.TopEntryPoint.{TopEntryPoint}
use Rattle.rust_front.specs.declared.top.TopEntryPoint.TheVariants as top
use Rattle.rust_front.specs.Front.{made_of, nothing_read, parsed_of, reading_with}

-- the entry point of an entry
abbrev pub point_of_entry : Entry → TopEntryPoint
point_of_entry entry.SourceFile = top.SourceFile
point_of_entry entry.Expr = top.Expr

-- the rule of the grammar that reads the whole text
abbrev pub point_rule_of : TopEntryPoint → Rule
point_rule_of top.SourceFile = rule.SourceFile
point_rule_of top.MacroStmts = rule.MacroStmts
point_rule_of top.MacroItems = rule.MacroItems
point_rule_of top.Pattern = rule.WholePattern
point_rule_of top.«Type» = rule.WholeType
point_rule_of top.Expr = rule.WholeExpr
point_rule_of top.MetaItem = rule.WholeMeta

abbrev pub one_or_error : (SyntaxKind → Bool) → Option SyntaxKind → SyntaxKind
one_or_error is None = Token token.ERROR
one_or_error is (Some k) = if is k then k else Token token.ERROR

-- the root: a node of its own for what may be several parts, else the outermost node, where that is
-- a part of the sort
abbrev pub point_root_of : TopEntryPoint → Option SyntaxKind → SyntaxKind
point_root_of top.SourceFile k = Node node.SOURCE_FILE
point_root_of top.MacroStmts k = Node node.MACRO_STMTS
point_root_of top.MacroItems k = OTHER 269
point_root_of top.Pattern k = one_or_error is_pat k
point_root_of top.«Type» k = one_or_error is_ty k
point_root_of top.Expr k = one_or_error is_expr k
point_root_of top.MetaItem k = one_or_error is_meta k

abbrev pub whole_at : TopEntryPoint → Edition → List ℕ → Reading
whole_at p e text =
    reading_with (point_root_of p (outermost_of (made_of (point_rule_of p) e text))) text
    (tokens_of e text) (errors_of e text) (made_of (point_rule_of p) e text)

-- a text that is too long is not read
unfoldable pub read_at : TopEntryPoint → Edition → List ℕ → Reading
read_at p e text = if nat_lt (length text) (2 ^ 32) then whole_at p e text else nothing_read

-- a file and an expression are read as the front end reads them
abbrev pub top_of : TopEntryPoint → Edition → List ℕ → Reading
top_of top.SourceFile e text = parsed_of entry.SourceFile e text
top_of top.Expr e text = parsed_of entry.Expr e text
top_of p e text = read_at p e text

abbrev pub IsOneOrError : (SyntaxKind → Bool) → SyntaxKind → Type 0
IsOneOrError is k = IsTrue (is k) ⊎ (k ≡ Token token.ERROR)

-- the kinds that a root may have
abbrev pub IsTopRoot : TopEntryPoint → SyntaxKind → Type 0
IsTopRoot top.SourceFile k = IsRootOf entry.SourceFile k
IsTopRoot top.MacroStmts k = k ≡ Node node.MACRO_STMTS
IsTopRoot top.MacroItems k = k ≡ OTHER 269
IsTopRoot top.Pattern k = IsOneOrError is_pat k
IsTopRoot top.«Type» k = IsOneOrError is_ty k
IsTopRoot top.Expr k = IsRootOf entry.Expr k
IsTopRoot top.MetaItem k = IsOneOrError is_meta k
