use Rattle.std.proofs.Common.{◌+◌, ◌*◌, ◌/◌, replicate}
use Rattle.std.specs.Fmt.{HasWritten, IsPlainFormatter}
use Rattle.lossless_tree.proofs.dump.write_indent.Given as goal

abbrev pub invariant-loop-eight : goal.invariant-loop-eight
invariant-loop-eight g l = IsPlainFormatter l.fn.f → HasWritten g.W.Write.write_str_gives l.fn.f (replicate (16 * l._eight) 32) l.f

abbrev pub invariant-loop-one : goal.invariant-loop-one
invariant-loop-one g l = IsPlainFormatter l.fn.f → HasWritten g.W.Write.write_str_gives l.fn.f (replicate (16 * (l.level / 8) + 2 * l._one) 32) l.f
