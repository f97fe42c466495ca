use Rattle.std.proofs.Common.{◌<◌, ◌≤◌, length, ℕ, get_or}
use Rattle.text_edit.specs.Replacements.{Replacement}
use Rattle.text_edit.proofs.ranges.end_within.Given as goal

abbrev pub invariant-loop-indel : goal.invariant-loop-indel
invariant-loop-indel l = (k : ℕ) (d : Replacement) → k < l.indel-index → (get_or l.indels k d).delete.end ≤ length l.text
