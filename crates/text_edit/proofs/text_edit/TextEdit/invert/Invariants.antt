use Rattle.std.proofs.Common.{◌≡◌, ◌≤◌, ◌+◌, ◌++◌, length, drop}
use Rattle.text_edit.specs.Replacements.{InOrder}
use Rattle.text_edit.specs.Inverse.{inverted, inverted_from}
use Rattle.text_edit.proofs.Pass.{passed}
use Rattle.text_edit.proofs.text_edit.TextEdit.invert.Given as goal

abbrev pub invariant-loop-indel : goal.invariant-loop-indel
invariant-loop-indel l = record {
  within : l.at ≤ length l.text;
  order : InOrder l.at (drop l.indel-index l.indel-items);
  long : l.new + length (passed l.text l.at (drop l.indel-index l.indel-items)) ≡ length (passed l.text 0 l.indel-items);
  made : l.indels.items ++ inverted_from l.text l.at l.new (drop l.indel-index l.indel-items) ≡ inverted l.text l.indel-items;
}
