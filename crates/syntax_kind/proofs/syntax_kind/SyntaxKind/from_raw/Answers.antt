use Rattle.std.proofs.Common.{arith}
use Rattle.syntax_kind.proofs.KindTable.{reads_table, IsKind-KINDS}
use Rattle.syntax_kind.proofs.syntax_kind.SyntaxKind.from_raw.Goals as goal

pub returns-in-0-to-263-clause-exact : goal.returns-in-0-to-263-clause-exact
returns-in-0-to-263-clause-exact c = λ k _. reads_table c.args.raw _ k (omega arith)

pub returns-in-0-to-263-clause-kind : goal.returns-in-0-to-263-clause-kind
returns-in-0-to-263-clause-kind c = IsKind-KINDS c.args.raw _ (omega arith)
