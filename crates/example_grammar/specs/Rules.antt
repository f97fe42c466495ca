-- Where the rules begin. Written by tools/grammar from arithmetic.grammar.
use Rattle.std.specs.Prelude.{ℕ}
use Rattle.example_grammar.specs.declared.tables.rules.Rule.{Rule}
use Rattle.example_grammar.specs.declared.tables.rules.Rule.TheVariants as rule

-- the number of a rule's first operation
abbrev pub first_op : Rule → ℕ
first_op rule.SourceFile = 0
first_op rule.WholeExpr = 228
