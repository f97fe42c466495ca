use Rattle.std.proofs.Common.{arith}
use Rattle.std.proofs.lemmas.Grind.{common_steps}
use Rattle.rust_lexer.proofs.Counts.{some_in}
use Rattle.rust_lexer.proofs.class.count.Goals as goal

pub returns-else-is_in-clause-rest : goal.returns-else-is_in-clause-rest
returns-else-is_in-clause-rest c = grind (arith, common_steps)

pub returns-else-is_in-clause-some : goal.returns-else-is_in-clause-some
returns-else-is_in-clause-some c = λ h. some_in c.args.class c.args.bytes.now c.loop-len.len h (returns-else-is_in-clause-rest c)

pub returns-after-loop-len-clause-rest : goal.returns-after-loop-len-clause-rest
returns-after-loop-len-clause-rest c = grind (arith, common_steps)

pub returns-after-loop-len-clause-some : goal.returns-after-loop-len-clause-some
returns-after-loop-len-clause-some c = λ h. some_in c.args.class c.args.bytes.now c.loop-len.len h (returns-after-loop-len-clause-rest c)
