use Rattle.std.proofs.Common.{◌≡◌, ◌++◌, map, length}
use Rattle.std.specs.Str.{IsUtf8}
use Rattle.rust_report.specs.Changes.{lines_of}
use Rattle.rust_report.proofs.changes.lines_of.Given as goal

abbrev pub invariant-loop-rest : goal.invariant-loop-rest
invariant-loop-rest l = record {
  utf8 : IsUtf8 l.rest;
  lines : map (λ line. line.now) l.lines.items ++ lines_of l.rest ≡ lines_of l.text;
}

abbrev pub decreases-loop-rest : goal.decreases-loop-rest
decreases-loop-rest l = length l.rest
