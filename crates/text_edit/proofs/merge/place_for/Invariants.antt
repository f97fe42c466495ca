use Rattle.std.proofs.Common.{◌<◌, ◌≤◌, length}
use Rattle.text_edit.specs.Replacements.{Replacement, end_at}
use Rattle.text_edit.proofs.merge.place_for.Given as goal

abbrev pub invariant-loop-at : goal.invariant-loop-at
invariant-loop-at l = record {
  within : l.at ≤ length l.indels;
  after : (d : Replacement) → l.at < length l.indels → l.start < end_at l.indels l.at d;
}

abbrev pub decreases-loop-at : goal.decreases-loop-at
decreases-loop-at l = l.at
