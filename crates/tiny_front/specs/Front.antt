-- The front end as functions of its arguments.
use Rattle.std.specs.Prelude.{ℕ, List, [], Option, Some, None}
use Rattle.syntax_kind.specs.declared.syntax_kind.SyntaxKind.{SyntaxKind}
use Rattle.syntax_kind.specs.declared.syntax_kind.SyntaxKind.TheVariants.{Node}
use Rattle.syntax_kind.specs.declared.syntax_kind.node_kind.NodeKind.TheVariants as node
use Rattle.ras_front_end.specs.declared.edition.Entry.TheVariants.{SourceFile, Expr}
use Rattle.ras_front_end.specs.Front.{Front}
use Rattle.tiny_lexer.specs.Front.{tiny_lexer}
use Rattle.grammar_front.specs.declared.language.ErrorPlace.TheVariants.{AtNext}
use Rattle.grammar_front.specs.declared.language.Target.{Target}
use Rattle.grammar_front.specs.declared.language.Target.TheVariants.{Whole, Piece}
use Rattle.grammar_front.specs.Answers.{LanguageAnswers}
use Rattle.grammar_front.specs.Front.{grammar_front}
use Rattle.grammar_front.specs.Sights.{sights_by}
use Rattle.tiny_front.specs.declared.tables.kind_table.TheConstants.{TOKENS}
use Rattle.tiny_front.specs.declared.tables.rules.Rule.{Rule}
use Rattle.tiny_front.specs.declared.tables.rules.Rule.TheVariants as rule
use Rattle.tiny_front.specs.Messages.{message_of}
use Rattle.tiny_front.specs.Rules.{first_op}
use Rattle.tiny_front.specs.Tables.{tiny_tables}

abbrev pub entry_of : Target → Rule
entry_of (Whole SourceFile) = rule.SourceFile
entry_of (Whole Expr) = rule.WholeExpr
entry_of (Piece r) = rule.Body

-- blocks alone are parsed again by themselves
abbrev pub reparser_of : SyntaxKind → Option ℕ
reparser_of (Node node.BLOCK_EXPR) = Some 0
reparser_of _ = None

abbrev pub tiny_language : LanguageAnswers
tiny_language = record {
  tables = tiny_tables;
  rule = λ target. first_op (entry_of target);
  sights = λ edition text tokens. sights_by TOKENS tokens;
  message = λ number rest. message_of number;
  error_place = AtNext;
  attaching = [];
  reparser = λ kind first_child parent. reparser_of kind;
}

abbrev pub tiny_front : Front
tiny_front = grammar_front tiny_lexer tiny_language
