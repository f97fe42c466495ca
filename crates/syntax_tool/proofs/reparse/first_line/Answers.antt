use Rattle.std.proofs.Common.{arith}
use Rattle.std.proofs.lemmas.Str.Pattern.{split_parts}
use Rattle.syntax_tool.proofs.Cuts.{line_is, no_line_is}
use Rattle.syntax_tool.proofs.reparse.first_line.Goals as goal

pub returns-clause-is : goal.returns-clause-is
returns-clause-is c = line_is c.args.text.now (λ p. p.0.now) (λ p. p.1.now) c.split_once.result (split_parts 10 c.args.text.now c.split_once.result c.split_once.ensures.cases (omega arith))

pub returns-clause-none : goal.returns-clause-none
returns-clause-none c = no_line_is c.args.text.now (λ p. p.0.now) (λ p. p.1.now) c.split_once.result (split_parts 10 c.args.text.now c.split_once.result c.split_once.ensures.cases (omega arith))
