-- Grammars whose trees are of no use.
use Rattle.std.specs.Prelude.{ℕ, [], Some}
use Rattle.ras_front_end.specs.declared.edition.Entry.TheVariants.{Expr}
use Rattle.grammar_front.specs.declared.language.ErrorPlace.TheVariants.{BehindLast}
use Rattle.grammar_front.specs.declared.language.Target.{Target}
use Rattle.grammar_front.specs.declared.language.Target.TheVariants.{Whole}
use Rattle.grammar_front.specs.Answers.{LanguageAnswers}
use Rattle.tiny_front.specs.Front.{tiny_language}
use Rattle.tiny_front.specs.Tables.{tiny_tables}
use Rattle.answers_fronts.specs.declared.useless.TheConstants.{OPS}
use Rattle.answers_fronts.specs.declared.useless.Useless.{Useless}
use Rattle.answers_fronts.specs.declared.useless.Useless.TheVariants.{Flat, Wrong}

-- nothing is taken, or all of a file or a piece
abbrev pub rule_of : Useless → Target → ℕ
rule_of Flat target = 0
rule_of Wrong (Whole Expr) = 0
rule_of Wrong target = 1

abbrev pub useless_language : Useless → LanguageAnswers
useless_language useless = record {
  tables = record tiny_tables { ops = OPS };
  rule = λ target. rule_of useless target;
  sights = tiny_language.sights;
  message = λ number rest. [];
  error_place = BehindLast;
  attaching = [];
  reparser = λ kind first_child parent. Some 0;
}
