-- Where the rules begin. Written by tools/grammar from tiny.grammar.
use Rattle.std.specs.Prelude.{ℕ}
use Rattle.tiny_front.specs.declared.tables.rules.Rule.{Rule}
use Rattle.tiny_front.specs.declared.tables.rules.Rule.TheVariants as rule

-- the number of a rule's first operation
abbrev pub first_op : Rule → ℕ
first_op rule.SourceFile = 0
first_op rule.WholeExpr = 376
first_op rule.Body = 387
