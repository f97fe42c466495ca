-- The language as functions of the arguments.
use Rattle.std.specs.Prelude.{[], None}
use Rattle.ras_front_end.specs.declared.edition.Entry.TheVariants.{SourceFile}
use Rattle.grammar_front.specs.declared.language.ErrorPlace.TheVariants.{BehindLast}
use Rattle.grammar_front.specs.declared.language.Target.{Target}
use Rattle.grammar_front.specs.declared.language.Target.TheVariants.{Whole}
use Rattle.grammar_front.specs.Answers.{LanguageAnswers}
use Rattle.grammar_front.specs.Sights.{sights_by}
use Rattle.example_grammar.specs.declared.tables.kind_table.TheConstants.{TOKENS}
use Rattle.example_grammar.specs.declared.tables.rules.Rule.{Rule}
use Rattle.example_grammar.specs.declared.tables.rules.Rule.TheVariants as rule
use Rattle.example_grammar.specs.Messages.{message_of}
use Rattle.example_grammar.specs.Rules.{first_op}
use Rattle.example_grammar.specs.Tables.{arithmetic_tables}

-- no node is parsed again by itself, so no piece is asked for
abbrev pub entry_of : Target → Rule
entry_of (Whole SourceFile) = rule.SourceFile
entry_of _ = rule.WholeExpr

abbrev pub arithmetic : LanguageAnswers
arithmetic = record {
  tables = arithmetic_tables;
  rule = λ target. first_op (entry_of target);
  sights = λ edition text tokens. sights_by TOKENS tokens;
  message = λ number rest. message_of number;
  error_place = BehindLast;
  attaching = [];
  reparser = λ kind first_child parent. None;
}
