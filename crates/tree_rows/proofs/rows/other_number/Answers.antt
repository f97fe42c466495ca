use Rattle.std.proofs.Common.{arith}
use Rattle.syntax_kind.specs.declared.syntax_kind.SyntaxKind.TheVariants.{OTHER}
use Rattle.tree_rows.proofs.Stored.{kind_numbered-kind_raw}
use Rattle.tree_rows.proofs.rows.other_number.Goals as goal

pub returns-clause-kind : goal.returns-clause-kind
returns-clause-kind c = kind_numbered-kind_raw (OTHER c.args.number) (omega (arith, c.ranges.number))
