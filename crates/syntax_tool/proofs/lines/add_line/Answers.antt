use Rattle.std.proofs.Common.{arith}
use Rattle.std.proofs.lemmas.Str.Pattern.{split_parts}
use Rattle.syntax_tool.proofs.Cuts.{has_no_by_index}
use Rattle.syntax_tool.proofs.lines.add_line.Goals as goal

pub add_exit-requires : goal.add_exit-requires
add_exit-requires c = has_no_by_index 32 c.args.line.now (rw c.in-None.is at (split_parts 32 c.args.line.now c.split_once.result c.split_once.ensures.cases (omega arith)))
