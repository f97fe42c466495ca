use Rattle.std.proofs.Common.{◌≡◌, ◌-◌, ◌≤◌, ◌++◌, drop, length, string_bytes}
use Rattle.rust_report.specs.Numbers.{with_commas}
use Rattle.rust_report.proofs.numbers.grouped.Given as goal

abbrev pub invariant-loop-at : goal.invariant-loop-at
invariant-loop-at l = record {
  within : l.at ≤ length l.digits;
  text : string_bytes l.text ++ with_commas (drop l.at l.digits) ≡ with_commas l.digits;
}

abbrev pub decreases-loop-at : goal.decreases-loop-at
decreases-loop-at l = length l.digits - l.at
