use Rattle.std.proofs.Common.{◌≤◌, length, take}
use Rattle.std.specs.Fmt.{HasWritten, IsPlainFormatter}
use Rattle.std.specs.List.{flat_map}
use Rattle.rust_report.specs.Escapes.{octal}
use Rattle.rust_report.proofs.escapes.write_octals.Given as goal

abbrev pub invariant-loop-byte : goal.invariant-loop-byte
invariant-loop-byte g l =
    (l.byte-index ≤ length l.fn.bytes)
    × (IsPlainFormatter l.fn.f → HasWritten g.W.Write.write_str_gives l.fn.f (flat_map octal (take l.byte-index l.fn.bytes)) l.f)
