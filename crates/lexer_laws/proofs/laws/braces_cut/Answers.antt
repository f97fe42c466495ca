use Rattle.std.proofs.Common.{arith}
use Rattle.lexer_laws.proofs.Bracing.{braces_cut}
use Rattle.lexer_laws.proofs.Tests.{longer}
use Rattle.lexer_laws.proofs.laws.braces_cut.Goals as goal

pub returns : goal.returns
returns c e s u v b ts us h lu lv is k = braces_cut e s u v b ts us h (omega (arith, lu, longer s u b)) (omega (arith, lv, longer s v b)) is k
