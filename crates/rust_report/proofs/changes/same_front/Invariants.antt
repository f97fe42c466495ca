use Rattle.std.proofs.Common.{◌≡◌, ◌+◌, ◌-◌, ◌≤◌, drop, length}
use Rattle.std.specs.List.{common_prefix_len}
use Rattle.rust_report.specs.Changes.{is_same}
use Rattle.rust_report.proofs.changes.same_front.Given as goal

abbrev pub invariant-loop-count : goal.invariant-loop-count
invariant-loop-count l = record {
  old : l.count ≤ length l.old;
  new : l.count ≤ length l.new;
  counted : l.count + common_prefix_len is_same (drop l.count l.old) (drop l.count l.new) ≡ common_prefix_len is_same l.old l.new;
}

abbrev pub decreases-loop-count : goal.decreases-loop-count
decreases-loop-count l = length l.old - l.count
