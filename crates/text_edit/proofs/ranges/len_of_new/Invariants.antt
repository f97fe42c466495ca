use Rattle.std.proofs.Common.{◌≡◌, ◌≤◌, ◌+◌, length, drop}
use Rattle.text_edit.specs.Replacements.{InOrder}
use Rattle.text_edit.proofs.Pass.{passed}
use Rattle.text_edit.proofs.ranges.len_of_new.Given as goal

abbrev pub invariant-loop-indel : goal.invariant-loop-indel
invariant-loop-indel l = record {
  within : l.at ≤ length l.text;
  order : InOrder l.at (drop l.indel-index l.indels);
  long : l.len + length (passed l.text l.at (drop l.indel-index l.indels)) ≡ length (passed l.text 0 l.indels);
}
