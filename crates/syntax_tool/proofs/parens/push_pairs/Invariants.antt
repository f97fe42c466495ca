use Rattle.std.proofs.Common.{◌≡◌, ◌++◌, drop}
use Rattle.std.specs.Prelude.{string_bytes}
use Rattle.syntax_tool.specs.Needless.{pair_lines}
use Rattle.syntax_tool.proofs.parens.push_pairs.Given as goal

abbrev pub invariant-loop-pair : goal.invariant-loop-pair
invariant-loop-pair l = string_bytes l.out ++ pair_lines (drop l.pair-index l.pairs) ≡ string_bytes l.fn.out ++ pair_lines l.pairs
