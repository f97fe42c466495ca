use Rattle.std.proofs.Common.{◌<◌, ℕ, get_or}
use Rattle.text_edit.specs.Replacements.{Replacement, IsRangeOf}
use Rattle.text_edit.proofs.ranges.are_between_characters.Given as goal

abbrev pub invariant-loop-indel : goal.invariant-loop-indel
invariant-loop-indel l = (k : ℕ) (d : Replacement) → k < l.indel-index → IsRangeOf l.text (get_or l.indels k d)
